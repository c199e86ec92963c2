-- A drop: the cells follow.
use Prim.Native.Nat.{ℕ}
use mathlib.Core.Path.{◌≡◌}
use mathlib.Core.Option.{none, some}
use lib.Dec.{eqb}
use Rattle.lists.specs.Lists.{◌∈◌}
use Rattle.lists.specs.Arranged.{remove}
use Rattle.lists.specs.Names.{Name}
use Rattle.lists.proofs.Cases.{cases}
use Rattle.lists.proofs.Changed.{changed-other}
use Rattle.lists.proofs.Places.{remove_back}
use Rattle.diagram.specs.Day.{Day, number_of}
use Rattle.diagram.specs.Steps.{drop_at}
use Rattle.diagram.proofs.Days.Found.{found}
use Rattle.diagram.proofs.Days.Marking.{none≢name}
use Rattle.diagram.proofs.Days.Moves.{CanDrop}
use Rattle.diagram.proofs.Days.Naming.{drop-count}
use Rattle.machine.specs.Machine.{Machine, drop_on}
use Rattle.cells.specs.Sizes.{main}
use Rattle.cells.specs.Cells.{Cells}
use Rattle.cells.specs.CellSteps.{drop_cells}
use Rattle.following.proofs.Cells.Laid.{Laid}
use Rattle.following.proofs.Cells.Leaving.{leave-freed, leave-layout, leave-main, leave-out, leave-places, leave-queue, leave-state}
use Rattle.following.proofs.Cells.Represents.{Represents}

module _ (y : Day) (m : Machine) (k : Cells) (h : Represents y m k) (L : Laid y m) (b : ℕ) (j : b ∈ m.layout) (D : CanDrop y b) (other : b ≡ main → ⊥) where
  abbrev y' : Day
  y' = drop_at y b

  was : (x : ℕ) → x ∈ remove b m.layout → x ∈ m.layout
  was x = remove_back b x m.layout

  drop-name : (r : ℕ) (n : Name) → y'.mark r ≡ some n → k.name (number_of y r) ≡ n
  drop-name r n = cases (eqb r b) (λ e. rw e (λ q. absurd (none≢name q))) (λ e. rw e (h.name_is r n))

  pub drops : Represents y' (drop_on m b) (drop_cells k (number_of y b))
  unfolding found
  drops = record {
    layout_is = leave-layout y m k h L b j other;
    places = leave-places y m k h L b j other;
    out_is = leave-out y m k h L b j other _ (drop-count y L.named b D);
    main_out = leave-main y m k h L b j other;
    main_number = h.main_number;
    given_is = h.given_is;
    freed_is = leave-freed y m k h L b j other;
    queue_places = leave-queue y m k h L b j other;
    state_is = leave-state y m k h L b j other y'.mark (changed-other y.mark b none);
    name_is = drop-name;
    own_is = λ x o. h.own_is x (was x o);
    first_is = λ x o. h.first_is x (was x o);
    inherited_is = λ x o. h.inherited_is x (was x o);
    base_few = λ x o. h.base_few x (was x o);
    main_inherits = h.main_inherits;
    seen_is = λ x z o p. h.seen_is x z (was x o) (was z p);
    caught_is = λ c x l o. h.caught_is c x l (was x o);
    opened_is = h.opened_is;
    updates_is = h.updates_is;
    updates_few = h.updates_few;
  }
