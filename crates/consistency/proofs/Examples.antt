-- 01, "Edges of a race day", on the cells, by computation: which steps pass, and what is listed, as on the day.
use mathlib.Core.Bool.{Bool, cond, false, not, ◌&&◌}
use mathlib.Core.Path.{◌≡◌, refl}
use mathlib.Core.Option.{Option, none, some}
use mathlib.Core.List.{List, [], ◌∷◌}
use Rattle.lists.specs.Names.{Name, four_letters}
use Rattle.lists.specs.Sums.{any_below}
use Rattle.lists.specs.Arranged.{behind, insert_before, remove}
use Rattle.diagram.specs.Steps.{Step, Event, Yield, Fork, Join, Drop}
use Rattle.diagram.specs.Accepted.{none_of}
use Rattle.diagram.specs.Examples.{Example, e1, e1_list, examples, expected}
use Rattle.cells.specs.Cells.{Cells, chain}
use Rattle.cells.specs.Checks.{bad_name, bearer_below, busy, busy_by_other, given_out, is_client, is_mark, joinable, joined, log_full, none_left, open_elsewhere, stale}
use Rattle.cells.specs.CellSteps.{counted, fresh_cells, one_fewer}
use Rattle.cells.specs.Order.{order}
use Rattle.following.specs.Reached.{step_cells}

abbrev misnamed : Cells → Option Name → Bool
misnamed k none = false
misnamed k (some n) = bad_name k n

-- whether the cells' checks let a step by numbers pass
unfoldable passes : Cells → Step → Bool
passes k (Event c r u) =
    none_of (not (is_client c) ∷ not (given_out k r) ∷ joined k r ∷ is_mark k r ∷ open_elsewhere k c r ∷ busy_by_other k c r ∷ stale k c r ∷ (u && log_full k) ∷ [])
passes k (Yield c) = none_of (not (is_client c) ∷ [])
passes k (Fork r name) = none_of (not (given_out k r) ∷ joined k r ∷ busy k r ∷ none_left k ∷ misnamed k name ∷ [])
passes k (Join a b) =
    none_of (not (given_out k a) ∷ not (given_out k b) ∷ joined k a ∷ joined k b ∷ is_mark k a ∷ is_mark k b ∷ busy k a ∷ busy k b ∷ not (joinable k a b) ∷ [])
passes k (Drop r) = none_of (not (given_out k r) ∷ joined k r ∷ not (is_mark k r) ∷ [])

-- a step that does not pass changes nothing
abbrev tried : Cells → Step → Cells
tried k s = cond (passes k s) (step_cells k s) k

abbrev tried_all : Cells → List Step → Cells
tried_all k [] = k
tried_all k (s ∷ ss) = tried_all (tried k s) ss

abbrev answers : Cells → List Step → List Bool
answers k [] = []
answers k (s ∷ ss) = passes k s ∷ answers (tried k s) ss

abbrev computed : List Example → List (List Bool)
computed [] = []
computed (e ∷ es) = answers (fresh_cells false) e.steps ∷ computed es

examples_hold : computed examples ≡ expected examples
unfolding passes step_cells chain insert_before remove any_below bearer_below four_letters counted one_fewer
examples_hold = refl

e1-list : order (tried_all (fresh_cells false) e1) 0 ≡ e1_list
unfolding passes step_cells chain insert_before remove any_below bearer_below four_letters behind order counted one_fewer
e1-list = refl
