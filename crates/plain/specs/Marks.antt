-- 02, U9, "Marked states": what a taken mark and a taken drop are, and what comes of a mark.
use Rattle.std.specs.Prelude.{ℕ, Bool, true, ◌≡◌, List, [], ◌∷◌, ◌++◌}
use Rattle.std.proofs.Math.Option.{some}
use Rattle.lists.specs.Names.{Name}
use Rattle.diagram.specs.Day.{Day, Means, meant, number_of, shown_at}
use Rattle.diagram.specs.Marks.{ByMarks, FromMark, StartedAsMark}
use Rattle.desk.specs.Calls.{Call, Fork, Join, Mark, plainly}
use Rattle.plain.specs.Answers.{Outcome, called, day_after}
use Rattle.plain.specs.Taken.{Taken, end_of, steps_after}
use Rattle.plain.specs.Values.{Forked}

-- a mark of number n from day y "forks an idle box .. and gives the new box a name", and no other
pub record MarkTaken (y : Day) (n : ℕ) (name : Name) (o : Outcome) : Type 0 where
  pub forked : Forked y n o
  pub named : o.next.day.mark y.revisions ≡ some name
  pub others : (r : ℕ) → (r ≡ y.revisions → ⊥) → o.next.day.mark r ≡ y.mark r

-- a drop from day y, of the mark that bore the name: it "frees its number as a hand-in does, so that it gives 4 until used again", "nothing is rewound",
-- and no mark bears the name from then on
pub record DropTaken (y : Day) (name : Name) (o : Outcome) : Type 0 where
  pub revision : ℕ
  pub bore : y.mark revision ≡ some name
  pub means : Means o.next.day (number_of y revision) revision
  pub joined : o.next.day.joined revision ≡ true
  pub waits : o.next.day.numbering.freed ≡ y.numbering.freed ++ (number_of y revision ∷ [])
  pub diagram : o.next.day.diagram ≡ y.diagram
  pub others : (r : ℕ) → (r ≡ revision → ⊥) → (o.next.day.joined r ≡ y.joined r) × (o.next.day.mark r ≡ y.mark r)
  pub free : (r : ℕ) → o.next.day.mark r ≡ some name → ⊥
  -- "its value is 0"
  pub answer : o.answer ≡ plainly 0 0 []

pub record OnMarks (single : Bool) (cs : List (Call ℕ)) : Type 0 where
  -- names, and that a mark's list never changes while it is out
  pub runs : ByMarks (steps_after single cs)
  -- "Coming back means forking it": a fork of a mark shows what the marked box showed when it was marked, after whatever happened since
  pub comes_back : (before middle rest : List (Call ℕ)) (n m : ℕ) (name : Name) → Taken single cs before (Mark n name) (middle ++ (Fork m ∷ rest))
      → Taken single cs (before ++ (Mark n name ∷ middle)) (Fork m) rest → meant (end_of single (before ++ (Mark n name ∷ middle))) m ≡ (end_of single before).revisions
      → shown_at (called (day_after single (before ++ (Mark n name ∷ middle))) (Fork m)).next.day (end_of single (before ++ (Mark n name ∷ middle))).revisions
      ≡ shown_at (end_of single before) (meant (end_of single before) n)
  -- a mark is not joined "in either role", so box 0 never takes over what came of one, nor by a sync, which begins with such a join
  pub never_joined : (before rest : List (Call ℕ)) (m room r : ℕ) → Taken single cs before (Join 0 m room) rest
      → StartedAsMark (steps_after single before) r → FromMark (end_of single before) r (meant (end_of single before) m) → ⊥
