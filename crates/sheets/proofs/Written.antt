-- A sheet with one line more, and a line read as a record of a bundle.
use Prim.Native.Nat.{ℕ, ◌+◌, ◌*◌, ◌<◌}
use mathlib.Core.Path.{◌≡◌, refl, ◌∙◌, ap}
use mathlib.Core.List.{List, ◌++◌}
use native.Mathlib.Omega.{arith}
use lib.ListN.{length, take, drop, get_or}
use lib.Seq.{drop-drop, length-take-le}
use Rattle.lists.specs.Arranged.{replaced}
use Rattle.lists.proofs.Rows as Rows
use Rattle.lists.proofs.Rows.{rows-length}
use Rattle.bundles.specs.Records.{entry_in}
use Rattle.bundles.proofs.Held.{entry-laid}
use Rattle.updates.specs.Kinds.{kind_number}
use Rattle.entries.specs.declared.entry.Entry.{Entry}
use Rattle.sheets.specs.Lines.{line}
use Rattle.sheets.specs.Sheet.{lines, sheet}

pub line-length : (e : Entry) (n : ℕ) → length (line e n) ≡ 12
unfolding line
line-length e n = refl

pub lines-length : (entries : ℕ → Entry) (ns : List ℕ) → length (lines entries ns) ≡ 12 * length ns
unfolding lines
lines-length entries = rows-length 12 (λ n. line (entries n) n) (λ n. line-length (entries n) n) (lines entries) refl (λ n ns. refl)

pub no_lines : (entries : ℕ → Entry) (order s : List ℕ) → s ≡ sheet entries (take 0 order) s
unfolding sheet lines
no_lines entries order s = refl

-- line i put behind the i lines before it
pub one_more : (entries : ℕ → Entry) (order s old : List ℕ) (i : ℕ) → i < length order → s ≡ sheet entries (take i order) old
    → replaced s (12 * i) 12 (line (entries (get_or order i 0)) (get_or order i 0)) ≡ sheet entries (take (i + 1) order) old
unfolding sheet lines
one_more entries order s old i h e =
    let size : length (take i order) ≡ i = length-take-le i order (omega arith) in
    let count : length (take (i + 1) order) ≡ i + 1 = length-take-le (i + 1) order (omega arith) in
    let far : 12 * length (take (i + 1) order) ≡ 12 * i + 12 = omega arith in
    Rows.one_more 12 (λ n. line (entries n) n) (λ n. line-length (entries n) n) (lines entries) refl (λ n ns. refl) order 0 i h s (drop (12 * i) old) (e ∙ ap (λ k. lines entries (take i order) ++ drop (12 * k) old) size)
    ∙ rw far (ap (λ z. lines entries (take (i + 1) order) ++ z) (drop-drop 12 (12 * i) old))

-- "Records are laid out as in the listing": a line read as a record of a bundle is its kind's number, bib and v
pub line-entry : (e : Entry) (n : ℕ) → entry_in (line e n) ≡ record { kind = kind_number e.kind; bib = e.bib; v = e.v }
unfolding line
line-entry e n = entry-laid (kind_number e.kind) e.client e.bib e.v n
