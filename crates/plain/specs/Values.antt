-- 01, "Values when taken: .. fork, the new number; join, the count of updates the joiner gained", and 02, U1, fill, by the paths of the day.
use Rattle.std.specs.Prelude.{ℕ, true, ◌≡◌, ◌↔◌, List, [], length}
use Rattle.diagram.specs.Day.{Day, IsOut, Means, meant}
use Rattle.diagram.specs.Counts.{OwnUpdates, SeenSince}
use Rattle.desk.specs.Calls.{Answer, plainly, level}
use Rattle.plain.specs.Record.{Line}
use Rattle.plain.specs.Answers.{Outcome}

-- a fork of number n from day y: its value meant no revision that was out, and from then on means the new one, which is out, shows what the forked
-- one shows and sees no update besides; every other number means what it did
pub record Forked (y : Day) (n : ℕ) (o : Outcome) : Type 0 where
  pub unused : (r : ℕ) → Means y o.answer.value r → y.joined r ≡ true
  pub others : (k r : ℕ) → (k ≡ o.answer.value → ⊥) → Means o.next.day k r ↔ Means y k r
  pub means : Means o.next.day o.answer.value y.revisions
  pub out : IsOut o.next.day y.revisions
  pub shows : SeenSince y.diagram (y.terminal (meant y n)) o.next.day.diagram (o.next.day.terminal y.revisions) []

-- a join of b into a from day y: the updates that a sees now and did not see, as many as the value says, which are b's own
pub record Gained (y : Day) (a b : ℕ) (o : Outcome) : Type 0 where
  pub updates : List ℕ
  pub gained : SeenSince y.diagram (y.terminal a) o.next.day.diagram (o.next.day.terminal a) updates
  pub brought : OwnUpdates y b updates
  pub is : o.answer ≡ plainly 0 (length updates) []

-- a fill of r on day y: "its own updates: those it took itself plus those of boxes joined into it", and "the number taken by the whole table": as many as
-- there are updates in the diagram (`numbered` of `Explains`)
pub record Filled (y : Day) (r : ℕ) (answer : Answer (List Line)) : Type 0 where
  pub updates : List ℕ
  pub own_updates : OwnUpdates y r updates
  pub is : answer ≡ level (length updates) y.updates []
