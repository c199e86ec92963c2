-- A client's number, on the cells and on the day.
use Prim.Native.Nat.{◌<◌, ℕ}
use mathlib.Core.Bool.{not-not, false, not}
use mathlib.Core.Path.{◌∙◌, ◌≡◌, ap}
use lib.Dec.{ltb}
use borrow.Author.Tests.{ltb-true, not-false}
use Rattle.diagram.specs.Sizes.{client_limit}
use Rattle.diagram.specs.Day.{Day}
use Rattle.diagram.specs.Checks.{unknown_client}
use Rattle.cells.specs.Sizes.{clients}
use Rattle.cells.specs.Cells.{Cells}
use Rattle.cells.specs.Checks as Asked
use Rattle.following.specs.Follow.{CellsFollow}

module _ (y : Day) (k : Cells) (F : CellsFollow y k) where
  pub known : (c : ℕ) → unknown_client c ≡ false → c < clients
  unfolding unknown_client client_limit
  known c e = ltb-true c clients (not-false (ltb c clients) e)

  pub client_is : (c : ℕ) → not (Asked.is_client c) ≡ unknown_client c
  client_is c = ap not (F.same_client c) ∙ not-not (unknown_client c)
