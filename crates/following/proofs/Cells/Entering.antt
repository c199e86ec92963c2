-- An event and a yield: the cells follow.
use Prim.Native.Nat.{◌<◌, suc, ℕ}
use mathlib.Core.Bool.{cond, false, true}
use mathlib.Core.Path.{◌∙◌, ◌≡◌, ap, refl, sym}
use mathlib.Core.Option.{Option, none, some}
use mathlib.Core.List.{List, [], ◌++◌, ◌∷◌, head-eq_of_cons-eq}
use native.Mathlib.Omega.{arith}
use lib.Dec.{eqb}
use borrow.Author.Tests.{eq-eqb}
use Rattle.lists.specs.Lists.{◌∈◌, changed}
use Rattle.lists.proofs.Cases.{cases}
use Rattle.lists.proofs.Grown.{first_append, grown-longer, grown-none, grown-take}
use Rattle.diagram.specs.Day.{Day, number_of}
use Rattle.diagram.proofs.Days.Found.{found}
use Rattle.diagram.specs.Steps.{enter, yield}
use Rattle.machine.specs.Machine.{Machine, enter_on, yield_on}
use Rattle.cells.specs.Sizes.{clients, main, updates}
use Rattle.cells.specs.Cells.{Cells, chain, own}
use Rattle.cells.specs.CellSteps.{close_cells, counted, query_cells, update_cells}
use Rattle.cells.proofs.Chain.{kept-chain}
use Rattle.cells.proofs.Stops.{counted_is}
use Rattle.following.proofs.Cells.Laid.{Laid, own_few, same_number}
use Rattle.following.proofs.Cells.Represents.{Represents, count-is, open_cell}

module _ (y : Day) (m : Machine) (k : Cells) (h : Represents y m k) where
  -- whose transaction is open
  opened-now : (c : ℕ) (q : Option ℕ) (o : ℕ) → o < clients → changed k.opened c (open_cell (number_of y) q) o ≡ open_cell (number_of y) (changed m.open_on c q o)
  opened-now c q o ol = cases (eqb o c) (λ e. rw e) (λ e. rw e (h.opened_is o ol))

  closed-now : (c : ℕ) → Represents y (yield_on m c) (close_cells k c)
  closed-now c = record {
    layout_is = h.layout_is;
    places = h.places;
    out_is = h.out_is;
    main_out = h.main_out;
    main_number = h.main_number;
    given_is = h.given_is;
    freed_is = h.freed_is;
    queue_places = h.queue_places;
    state_is = h.state_is;
    name_is = h.name_is;
    own_is = h.own_is;
    first_is = h.first_is;
    inherited_is = h.inherited_is;
    base_few = h.base_few;
    main_inherits = h.main_inherits;
    seen_is = h.seen_is;
    caught_is = h.caught_is;
    opened_is = opened-now c none;
    updates_is = h.updates_is;
    updates_few = h.updates_few;
  }

  -- a yield changes nothing of what the cells stand for
  pub yields : (c : ℕ) (q : Option ℕ) → Represents (yield y c q) (yield_on m c) (close_cells k c)
  unfolding found
  yields c none = closed-now c
  yields c (some t) = let h = closed-now c in record {
    layout_is = h.layout_is;
    places = h.places;
    out_is = h.out_is;
    main_out = h.main_out;
    main_number = h.main_number;
    given_is = h.given_is;
    freed_is = h.freed_is;
    queue_places = h.queue_places;
    state_is = h.state_is;
    name_is = h.name_is;
    own_is = h.own_is;
    first_is = h.first_is;
    inherited_is = h.inherited_is;
    base_few = h.base_few;
    main_inherits = h.main_inherits;
    seen_is = h.seen_is;
    caught_is = h.caught_is;
    opened_is = h.opened_is;
    updates_is = h.updates_is;
    updates_few = h.updates_few;
  }

  module _ (L : Laid y m) (c r : ℕ) (i : r ∈ m.layout) where
    abbrev n : ℕ
    n = number_of y r

    event-caught : (o x : ℕ) → o < clients → x ∈ m.layout → cond (eqb o c) (λ z. eqb z n) (k.caught o) (number_of y x) ≡ cond (eqb o c) (eqb x r) (m.caught_up o x)
    event-caught o x ol j = cases (eqb o c) (λ e. rw e (same_number y m L x r j i)) (λ e. rw e (h.caught_is o x ol j))

    pub queries : Represents (enter y c r false) (enter_on m c r false) (query_cells k c n)
    unfolding found
    queries = record {
      layout_is = h.layout_is;
      places = h.places;
      out_is = h.out_is;
      main_out = h.main_out;
      main_number = h.main_number;
      given_is = h.given_is;
      freed_is = h.freed_is;
      queue_places = h.queue_places;
      state_is = h.state_is;
      name_is = h.name_is;
      own_is = λ x j. h.own_is x j ∙ sym (grown-none m.own r x);
      first_is = λ x j f l e. h.first_is x j f l (sym (grown-none m.own r x) ∙ e);
      inherited_is = λ x j u. rw (grown-none m.own r main) (h.inherited_is x j u);
      base_few = λ x j. rw (grown-none m.own r main) (h.base_few x j);
      main_inherits = h.main_inherits;
      seen_is = h.seen_is;
      caught_is = event-caught;
      opened_is = opened-now c (some r);
      updates_is = h.updates_is;
      updates_few = h.updates_few;
    }

    module _ (room : k.updates < updates) where
      -- the next number stands in no list
      fresh : (x : ℕ) → x ∈ m.layout → m.updates ∈ own k (number_of y x) → ⊥
      fresh x j e = let l = L.own_low x j m.updates (rw (h.own_is x j) at e) in omega arith

      -- the count does not stop: the list is no longer than the log, which has room
      more-is : counted (suc (k.count n)) ≡ suc (k.count n)
      more-is = counted_is (suc (k.count n)) (omega (arith, own_few y m L r i, count-is y m k h r i, h.updates_is))

      update-own : (x : ℕ) → x ∈ m.layout → own (update_cells k c n) (number_of y x) ≡ changed m.own r (m.own r ++ (m.updates ∷ [])) x
      unfolding chain
      update-own x j =
          rw (h.updates_is, same_number y m L x r j i)
          (cases (eqb x r)
          (λ e. rw (e, more-is, eq-eqb m.updates m.updates refl, kept-chain k.link m.updates (k.last n) (k.last n) (k.count n) (fresh r i), h.own_is r i))
          (λ e. rw (e, kept-chain k.link m.updates (k.last n) (k.last (number_of y x)) (k.count (number_of y x)) (fresh x j), h.own_is x j)))

      update-first : (x : ℕ) → x ∈ m.layout → (f : ℕ) (l : List ℕ) → changed m.own r (m.own r ++ (m.updates ∷ [])) x ≡ f ∷ l → (update_cells k c n).first (number_of y x) ≡ f
      update-first x j f l =
          rw (h.updates_is, same_number y m L x r j i)
          (cases (eqb x r)
          (λ e. rw (e, count-is y m k h r i) (first_append (m.own r) (m.updates ∷ []) (k.first n) m.updates (h.first_is r i) (λ g w q. head-eq_of_cons-eq q) f l))
          (λ e. rw e (h.first_is x j f l)))

      pub updates-on : Represents (enter y c r true) (enter_on m c r true) (update_cells k c n)
      unfolding found
      updates-on = record {
        layout_is = h.layout_is;
        places = h.places;
        out_is = h.out_is;
        main_out = h.main_out;
        main_number = h.main_number;
        given_is = h.given_is;
        freed_is = h.freed_is;
        queue_places = h.queue_places;
        state_is = h.state_is;
        name_is = h.name_is;
        own_is = update-own;
        first_is = update-first;
        inherited_is = λ x j u. rw (grown-take m.own r (m.updates ∷ []) (k.base (number_of y x)) main (h.base_few x j)) (h.inherited_is x j u);
        base_few = λ x j. let a = h.base_few x j in let b = grown-longer m.own r (m.updates ∷ []) main in omega arith;
        main_inherits = h.main_inherits;
        seen_is = h.seen_is;
        caught_is = event-caught;
        opened_is = opened-now c (some r);
        updates_is = ap suc h.updates_is;
        updates_few = room;
      }
