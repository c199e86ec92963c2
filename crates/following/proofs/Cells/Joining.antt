-- A join: the cells follow.
use Prim.Native.Nat.{◌+◌, ◌≤◌, ◌<◌, suc, zero, ℕ}
use mathlib.Core.Path.{◌∙◌, ◌≡◌, ap, refl, sym}
use mathlib.Core.List.Memᴰ
use mathlib.Core.List.{List, Nodup, [], ◌++◌, ◌∷◌, append-nil}
use native.Mathlib.Nat.{add-zero}
use native.Mathlib.Omega.{arith}
use lib.Dec.{eqb}
use lib.ListN.{length, length-append}
use borrow.Author.Tests.{eq-eqb, eqb-true, ne_eqb}
use Rattle.lists.specs.Lists.{◌∈◌}
use Rattle.lists.proofs.Blocks.{flat_back_nodup, flat_back-one}
use Rattle.lists.proofs.Cases.{cases}
use Rattle.lists.proofs.Changed.{changed_same}
use Rattle.lists.proofs.Grown.{first_append, grown-longer, grown-take}
use Rattle.lists.proofs.Places.{remove_back, remove_gone, remove-keep}
use Rattle.diagram.specs.Day.{Day, number_of}
use Rattle.diagram.proofs.Days.Found.{found}
use Rattle.diagram.specs.Steps.{join_into}
use Rattle.diagram.proofs.Days.Moves.{CanJoin}
use Rattle.diagram.proofs.Days.Naming.{join-count}
use Rattle.machine.specs.Machine.{Machine, join_on}
use Rattle.cells.specs.Sizes.{clients, main, updates}
use Rattle.cells.specs.Cells.{Cells, chain, own}
use Rattle.cells.specs.CellSteps.{counted, join_cells}
use Rattle.cells.proofs.Chain.{chain_first, kept-chain, splice, walk}
use Rattle.cells.proofs.Stops.{counted_is}
use Rattle.following.proofs.Cells.Laid.{Laid, own_few, same_number}
use Rattle.following.proofs.Cells.Leaving.{leave-freed, leave-layout, leave-main, leave-out, leave-places, leave-queue, leave-state}
use Rattle.following.proofs.Cells.Represents.{Represents, count-is}

module _ (y : Day) (m : Machine) (k : Cells) (h : Represents y m k) (L : Laid y m) (a b : ℕ) (i : a ∈ m.layout) (j : b ∈ m.layout) (H : CanJoin y a b) (L' : Laid (join_into y a b) (join_on m a b)) where
  abbrev na : ℕ
  na = number_of y a

  abbrev nb : ℕ
  nb = number_of y b

  abbrev y' : Day
  y' = join_into y a b

  abbrev k' : Cells
  k' = join_cells k na nb

  abbrev m' : Machine
  m' = join_on m a b

  was : (x : ℕ) → x ∈ m'.layout → x ∈ m.layout
  was x = remove_back b x m.layout

  not-b : (x : ℕ) → x ∈ m'.layout → x ≡ b → ⊥
  not-b x o e = remove_gone b m.layout L.lone (Memᴰ.cast (sym e) o)

  -- the count does not stop: no list is longer than the log
  sum_is : counted (k.count na + k.count nb) ≡ k.count na + k.count nb
  sum_is = counted_is (k.count na + k.count nb) few
    where
      few : k.count na + k.count nb ≤ updates
      few =
          let l = own_few y' m' L' a (remove-keep b a m.layout (λ q. H.not_self (sym q)) i) in
          let e = ap length (changed_same m.own a (m.own a ++ m.own b)) ∙ length-append (m.own a) (m.own b) in
          omega (arith, l, e, count-is y m k h a i, count-is y m k h b j, h.updates_is, h.updates_few)

  b-none : k.count nb ≡ 0 → m.own b ≡ []
  unfolding chain
  b-none e = sym (h.own_is b j) ∙ ap (chain k.link (k.last nb)) e

  -- b's own list, where it is not empty, and its first entry
  module _ (n : ℕ) (e : k.count nb ≡ suc n) where
    abbrev w : ℕ
    w = walk k.link (k.last nb) n

    b-own : chain k.link (k.last nb) (suc n) ≡ m.own b
    b-own = ap (chain k.link (k.last nb)) (sym e) ∙ h.own_is b j

    b-some : m.own b ≡ w ∷ chain k.link (k.last nb) n
    b-some = sym b-own ∙ chain_first k.link (k.last nb) n

    b-first : k.first nb ≡ w
    b-first = h.first_is b j w (chain k.link (k.last nb) n) b-some

    b-once : Nodup (chain k.link (k.last nb) (suc n))
    b-once = rw b-own (flat_back_nodup m.own b m.layout j L.once)

    -- it stands in no other list
    b-apart : (x : ℕ) → x ∈ m.layout → (x ≡ b → ⊥) → w ∈ own k (number_of y x) → ⊥
    b-apart x o d t = d (flat_back-one m.own m.layout L.once x b w o j (rw (h.own_is x o) at t) (rw b-some (Memᴰ.head refl)))

    own-some : (x : ℕ) → x ∈ m'.layout → own k' (number_of y x) ≡ m'.own x
    own-some x o =
        rw (ne_eqb (k.count nb) 0 (λ z. omega arith))
        (rw (same_number y m L x a (was x o) i)
        (cases (eqb x a)
        (λ q. rw (q, sum_is, b-first, e) (splice k.link (k.last na) (k.count na) (k.last nb) n b-once (b-apart a i (λ z. H.not_self (sym z))) ∙ rw (b-own, h.own_is a i)))
        (λ q. rw (q, b-first) (kept-chain k.link w (k.last na) (k.last (number_of y x)) (k.count (number_of y x)) (b-apart x (was x o) (not-b x o)) ∙ h.own_is x (was x o)))))

  own-none : k.count nb ≡ 0 → (x : ℕ) → x ∈ m'.layout → own k' (number_of y x) ≡ m'.own x
  own-none e x o =
      rw (eq-eqb (k.count nb) 0 e, same_number y m L x a (was x o) i)
      (cases (eqb x a) (λ q. rw (q, sum_is, eqb-true x a q, e, add-zero, b-none e, append-nil) (h.own_is a i)) (λ q. rw q (h.own_is x (was x o))))

  join-own : (x : ℕ) → x ∈ m'.layout → own k' (number_of y x) ≡ m'.own x
  join-own x o = by (k.count nb) refl
    where
      by : (n : ℕ) → k.count nb ≡ n → own k' (number_of y x) ≡ m'.own x
      by zero e = own-none e x o
      by (suc n) e = own-some n e x o

  join_first : (x : ℕ) → x ∈ m'.layout → (f : ℕ) (l : List ℕ) → m'.own x ≡ f ∷ l → k'.first (number_of y x) ≡ f
  join_first x o f l =
      cases (eqb (k.count nb) 0)
      (λ z. rw z (cases (eqb x a)
      (λ q. rw (q, eqb-true x a q, b-none (eqb-true (k.count nb) 0 z), append-nil) (h.first_is a i f l))
      (λ q. rw q (h.first_is x (was x o) f l))))
      (λ z. rw (z, same_number y m L x a (was x o) i) (cases (eqb x a)
      (λ q. rw (q, count-is y m k h a i) (first_append (m.own a) (m.own b) (k.first na) (k.first nb) (h.first_is a i) (h.first_is b j) f l))
      (λ q. rw q (h.first_is x (was x o) f l))))

  join-seen : (x z : ℕ) → x ∈ m'.layout → z ∈ m'.layout → k'.seen (number_of y x) (number_of y z) ≡ m'.joinable x z
  join-seen x z o p =
      rw (same_number y m L x a (was x o) i)
      (cases (eqb x a) (λ e. rw (e, h.seen_is a z i (was z p), h.seen_is b z j (was z p))) (λ e. rw e (h.seen_is x z (was x o) (was z p))))

  join-caught : (c x : ℕ) → c < clients → x ∈ m'.layout → k'.caught c (number_of y x) ≡ m'.caught_up c x
  join-caught c x l o =
      rw (same_number y m L x a (was x o) i)
      (cases (eqb x a) (λ e. rw (e, h.caught_is c a l i, h.caught_is c b l j)) (λ e. rw e (h.caught_is c x l (was x o))))

  pub joins : Represents y' m' k'
  unfolding found
  joins = record {
    layout_is = leave-layout y m k h L b j H.not_main;
    places = leave-places y m k h L b j H.not_main;
    out_is = leave-out y m k h L b j H.not_main _ (join-count y L.named a b H);
    main_out = leave-main y m k h L b j H.not_main;
    main_number = h.main_number;
    given_is = h.given_is;
    freed_is = leave-freed y m k h L b j H.not_main;
    queue_places = leave-queue y m k h L b j H.not_main;
    state_is = leave-state y m k h L b j H.not_main y.mark (λ r n. refl);
    name_is = h.name_is;
    own_is = join-own;
    first_is = join_first;
    inherited_is = λ x o u. rw (grown-take m.own a (m.own b) (k.base (number_of y x)) main (h.base_few x (was x o))) (h.inherited_is x (was x o) u);
    base_few = λ x o. let p = h.base_few x (was x o) in let q = grown-longer m.own a (m.own b) main in omega arith;
    main_inherits = h.main_inherits;
    seen_is = join-seen;
    caught_is = join-caught;
    opened_is = h.opened_is;
    updates_is = h.updates_is;
    updates_few = h.updates_few;
  }
