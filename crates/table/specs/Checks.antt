-- No claim rests on this file: it serves the code. The answers of the table's own checks, codes 1 and 5, and what the checks that several calls share find, in their order.
use Prim.{Unit}
use Rattle.std.specs.Prelude.{ℕ, ◌<◌, not, cond, List, eqb, length, Result, Ok, Err}
use Rattle.updates.specs.Kinds.{bad_bib}
use Rattle.cells.specs.Sizes.{clients, revisions}
use Rattle.cells.specs.Decode.{cells}
use Rattle.cells.specs.Checks.{joined, off_line, is_mark, busy, joinable}
use Rattle.checks.specs.Answers.{given_check}
use Rattle.table.specs.Halves.{is_table}
use Rattle.table.specs.Out.{table_bytes}
use Rattle.table.specs.Found.{on_some}
use Rattle.table.specs.declared.sound.LengthCheck.{LengthCheck}
use Rattle.table.specs.declared.sound.LengthCheck.TheVariants as buffer
use Rattle.table.specs.declared.sound.TableCheck.{TableCheck}
use Rattle.table.specs.declared.sound.TableCheck.TheVariants as table
use Rattle.table.specs.declared.bib.BibCheck.{BibCheck}
use Rattle.table.specs.declared.bib.BibCheck.TheVariants as bib
use Rattle.table.specs.declared.refusal.Refusal.{Refusal}
use Rattle.table.specs.declared.refusal.Refusal.TheVariants.{NeverSent, Joined, OffTheLine, Marked, Busy, NotJoinable}
use Rattle.sizes.specs.declared.numbers.Client.{Client}
use Rattle.sizes.specs.declared.numbers.Revision.{Revision}

-- 1 "buffer length isn't 65,536, or a cell is out of its range"
unfoldable pub table_check : List ℕ → TableCheck
table_check t = cond (is_table t) table.Sound table.Damaged

-- of fresh: 1 for the length only
unfoldable pub length_check : List ℕ → LengthCheck
length_check t = cond (eqb (length t) table_bytes) buffer.Right buffer.Wrong

-- 5 "bib above 999"
unfoldable pub bib_check : ℕ → BibCheck
bib_check n = cond (bad_bib n) bib.Unknown bib.Known

-- 3, 4, 7 of a list
unfoldable pub idle_check : List ℕ → ℕ → Result Revision Refusal
idle_check d n =
    on_some (given_check d n) (Err NeverSent) (λ r.
    cond (joined (cells d) r.0) (Err Joined) (
    cond (busy (cells d) r.0) (Err Busy) (
    Ok r)))

-- 3, 4, 15, 16, 7, 11 of a join
unfoldable pub join_check : List ℕ → ℕ → ℕ → Result (Revision × Revision) Refusal
join_check d n m =
    on_some (given_check d n) (Err NeverSent) (λ a.
    on_some (given_check d m) (Err NeverSent) (λ b.
    cond (joined (cells d) a.0) (Err Joined) (
    cond (joined (cells d) b.0) (Err Joined) (
    cond (off_line (cells d) a.0) (Err OffTheLine) (
    cond (is_mark (cells d) a.0) (Err Marked) (
    cond (is_mark (cells d) b.0) (Err Marked) (
    cond (busy (cells d) a.0) (Err Busy) (
    cond (busy (cells d) b.0) (Err Busy) (
    cond (not (joinable (cells d) a.0 b.0)) (Err NotJoinable) (
    Ok (a, b)))))))))))

-- what is found is in range
abbrev pub EventIn : Result (Client × Revision) Refusal → Type 0
EventIn (Err e) = Unit {0}
EventIn (Ok p) = (p.0.0 < clients) × (p.1.0 < revisions)

-- 11 "joinee is box 0": a joinee is another
abbrev pub JoinIn : Result (Revision × Revision) Refusal → Type 0
JoinIn (Err e) = Unit {0}
JoinIn (Ok p) = (p.0.0 < revisions) × (p.1.0 < revisions) × (0 < p.1.0)
