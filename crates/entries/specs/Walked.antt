-- No claim rests on this file: it serves the code.
-- What a walk back along some numbers, the last one first, keeps of them for a bib.
use Rattle.std.specs.Prelude.{ℕ, ◌+◌, ◌≤◌, Bool, false, true, ◌≡◌, List, [], ◌++◌, drop}
use Rattle.std.specs.declared.ops.ControlFlow.{ControlFlow}
use Rattle.std.specs.declared.ops.ControlFlow.TheVariants.{Continue, Break}
use Rattle.updates.specs.Applied.{applied}
use Rattle.updates.specs.declared.standing.Standing.{Standing}
use Rattle.entries.specs.declared.entry.Entry.{Entry}
use Rattle.entries.specs.Folded.{of_bib}

-- Those kept, behind those that are left, make of a standing what all make of it; once the walk is done, those left do not count.
pub record StandsFor (entries : ℕ → Entry) (bib : ℕ) (done : Bool) (left kept all : List ℕ) : Type 0 where
  pub same : (x y : Standing) → (done ≡ false → x ≡ applied (of_bib entries bib left) y) → applied (of_bib entries bib kept) x ≡ applied (of_bib entries bib all) y

-- whether a walk is done, and the place from which on the numbers kept stand
abbrev pub is_done : ControlFlow ℕ ℕ → Bool
is_done (Continue p) = false
is_done (Break p) = true

abbrev pub kept_from : ControlFlow ℕ ℕ → ℕ
kept_from (Continue p) = p
kept_from (Break p) = p

-- Some numbers walked through: those kept stand from a place of the buffer on, at most n more than before.
pub record Walked (entries : ℕ → Entry) (bib n : ℕ) (ns before : List ℕ) (from : ℕ) (after : List ℕ) (k : ControlFlow ℕ ℕ) : Type 0 where
  pub low : kept_from k ≤ from
  pub few : from ≤ kept_from k + n
  pub stands : StandsFor entries bib (is_done k) [] (drop (kept_from k) after) (ns ++ drop from before)
