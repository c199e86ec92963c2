-- 02, U6, "Look before taking over", on the plain day: a taken preview answers what a join taken there and then, and a look at the joiner's line end, would
-- give. The join is not among the calls; what it would gain is told by `Told` of the calls before it and the join.
use Rattle.std.specs.Prelude.{ℕ, ◌≡◌, List, []}
use Rattle.boards.specs.Board.{board_bytes}
use Rattle.diagram.specs.Day.{meant}
use Rattle.desk.specs.Calls.{Answer, Query, Join, reading}
use Rattle.plain.specs.Record.{Line, PlainDay, path_result}
use Rattle.plain.specs.Answers.{Outcome, called}

-- a join on day p, with a board of the right length
abbrev pub join_of : PlainDay → ℕ → ℕ → Outcome
join_of p n m = called p (Join n m board_bytes)

-- "the state and value at the joiner's line end and the gain"
abbrev pub seen_after : PlainDay → ℕ → ℕ → ℕ → ℕ → Answer (List Line)
seen_after p n m bib gain = reading (path_result (join_of p n m).next ((join_of p n m).next.day.terminal (meant p.day n)) bib) gain []

pub record Foresees (p : PlainDay) (n m bib : ℕ) (answer : Answer (List Line)) : Type 0 where
  pub joins : (join_of p n m).answer.code ≡ 0
  pub is : answer ≡ seen_after p n m bib (join_of p n m).answer.value
  -- so a query of the joiner that is taken right after that join, whoever asks, would answer the same
  pub query : (c : ℕ) → let o = called (join_of p n m).next (Query c n bib) in o.answer.code ≡ 0 → o.answer ≡ seen_after p n m bib 0
