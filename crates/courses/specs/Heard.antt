-- 02, U12: a list of calls on four tables, and of those what was asked of one course and what its caller had.
use Rattle.std.specs.Prelude.{ℕ, cond, List, [], ◌∷◌, eqb}
use Rattle.table.specs.Served.{Served, served}
use Rattle.card.specs.Courses.{Ask, CourseCall, Fresh, Plain, Tables, gets, made_fresh, written}

-- what is asked of a course, of a table alone
abbrev pub alone : List ℕ → Ask → Served
alone t (Fresh single board) = made_fresh t single board
alone t (Plain q) = served t q

-- "each call getting them as the last one left them"
unfoldable pub tables_after : Tables → List CourseCall → Tables
tables_after ts [] = ts
tables_after ts (c ∷ cs) = tables_after (written ts c) cs

-- what was asked of a course, and what its caller had
pub record Heard : Type 0 where
  pub ask : Ask
  pub got : Served

-- of all calls of a federation day, those of course i
unfoldable pub heard : ℕ → Tables → List CourseCall → List Heard
heard i ts [] = []
heard i ts (c ∷ cs) = cond (eqb c.course i) (record { ask = c.ask; got = gets ts c } ∷ heard i (written ts c) cs) (heard i (written ts c) cs)
