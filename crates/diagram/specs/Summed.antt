-- No claim rests on this file: it serves the proof of 02, U1 (`plain` and `consistency` specs/Fills). Own updates summed over the revisions.
use Rattle.std.specs.Prelude.{ℕ, cond, ◌≡◌, length}
use Rattle.lists.specs.Sums.{sum_below}
use Rattle.diagram.specs.Views.{own}
use Rattle.diagram.specs.Day.{Day}

-- a revision that is joined (01: handed in) has nothing of its own any more
abbrev pub own_if_out : Day → ℕ → ℕ
own_if_out y r = cond (y.joined r) 0 (length (own y.diagram (y.terminal r)))

abbrev pub OwnAddsUp : Day → Type 0
OwnAddsUp y = sum_below y.revisions (own_if_out y) ≡ y.updates
