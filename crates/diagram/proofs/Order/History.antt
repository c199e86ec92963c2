-- What a run's steps leave in the day: each event in a transaction of its client, one transaction between two yields, and
-- each yield where it came.
use Prim.Native.Nat.{◌<◌, ◌≤◌, ℕ}
use mathlib.Core.Bool.{Bool, false, false≢true, true}
use mathlib.Core.Path.{◌∙◌, ◌≡◌, ap, refl, subst, sym}
use mathlib.Core.Logic.{◌⊎◌, inl, inr}
use mathlib.Core.Option.{Option, none, some}
use mathlib.Core.List.Memᴰ
use mathlib.Core.List.{[], ◌++◌, ◌∷◌}
use native.Mathlib.Omega.{arith}
use lib.ListN.{length}
use lib.Dec.{eqb}
use borrow.Author.Tests.{eq-eqb, eqb-false, eqb-true}
use Rattle.diagram.proofs.Days.Moves.{can-enter}
use Rattle.diagram.proofs.Days.Sound.{Sound, some≢none}
use Rattle.diagram.proofs.Order.Growth.{Fine}
use Rattle.diagram.specs.Arbitration.{events_of}
use Rattle.diagram.specs.Day.{Day}
use Rattle.diagram.specs.Steps.{Drop, Event, Fork, Join, Step, Yield, after, counted_with, enter, enters_into, events_before, yield}
use Rattle.diagram.specs.Accepted.{accepted}
use Rattle.lists.proofs.Cases.{cases}
use Rattle.lists.proofs.Changed.{changed-other, changed_same}
use Rattle.lists.specs.Lists.{◌∈◌}

-- whether a step is client c's yield
abbrev is_yield : ℕ → Step → Bool
is_yield c (Event b r u) = false
is_yield c (Yield b) = eqb b c
is_yield c (Fork r name) = false
is_yield c (Join a b) = false
is_yield c (Drop r) = false

yield_is : (c : ℕ) (s : Step) → is_yield c s ≡ true → s ≡ Yield c
yield_is c (Event b r u) e = absurd (false≢true e)
yield_is c (Yield b) e = ap Yield (eqb-true b c e)
yield_is c (Fork r name) e = absurd (false≢true e)
yield_is c (Join a b) e = absurd (false≢true e)
yield_is c (Drop r) e = absurd (false≢true e)

not-yield : (c : ℕ) (s : Step) → is_yield c s ≡ false → s ≡ Yield c → ⊥
not-yield c s e q = false≢true (sym e ∙ ap (is_yield c) q ∙ eq-eqb c c refl)

module _ (y : Day) (F : Fine y) where
  abbrev S : Sound y F.layout F.hold
  S = F.sound

  -- the transaction that an event of c goes into
  abbrev pub into : ℕ → ℕ
  into c = enters_into y (y.open_by c)

  -- an older transaction keeps its client and its events
  pub keeps-client : (s : Step) → accepted y s ≡ true → (t : ℕ) → t < y.transactions → ((after y s).transaction t).client ≡ (y.transaction t).client
  unfolding after
  keeps-client (Event c r u) a t h = cases (eqb t (into c)) (λ e. rw e (mine (y.open_by c) refl (eqb-true t (into c) e))) (λ e. rw e)
    where
      mine : (o : Option ℕ) → y.open_by c ≡ o → t ≡ enters_into y o → c ≡ (y.transaction t).client
      mine none q e = absurd (omega arith)
      mine (some s) q e = sym (ap (λ i. (y.transaction i).client) e ∙ (S.runs c s q).client)
  keeps-client (Yield c) a t h = by (y.open_by c)
    where
      by : (o : Option ℕ) → ((yield y c o).transaction t).client ≡ (y.transaction t).client
      by none = refl
      by (some s) = cases (eqb t s) (λ e. rw (e, eqb-true t s e)) (λ e. rw e)
  keeps-client (Fork r name) a t h = refl
  keeps-client (Join p q) a t h = refl
  keeps-client (Drop r) a t h = refl

  -- and its revision
  pub keeps-revision : (s : Step) → accepted y s ≡ true → (t : ℕ) → t < y.transactions → ((after y s).transaction t).revision ≡ (y.transaction t).revision
  unfolding after
  keeps-revision (Event c r u) a t h = cases (eqb t (into c)) (λ e. rw e (mine (y.open_by c) refl (eqb-true t (into c) e))) (λ e. rw e)
    where
      mine : (o : Option ℕ) → y.open_by c ≡ o → t ≡ enters_into y o → r ≡ (y.transaction t).revision
      mine none q e = absurd (omega arith)
      mine (some s) q e = sym (ap (λ i. (y.transaction i).revision) e ∙ (can-enter y c r u a).same_revision s q)
  keeps-revision (Yield c) a t h = by (y.open_by c)
    where
      by : (o : Option ℕ) → ((yield y c o).transaction t).revision ≡ (y.transaction t).revision
      by none = refl
      by (some s) = cases (eqb t s) (λ e. rw (e, eqb-true t s e)) (λ e. rw e)
  keeps-revision (Fork r name) a t h = refl
  keeps-revision (Join p q) a t h = refl
  keeps-revision (Drop r) a t h = refl

  pub keeps-event : (s : Step) (t : ℕ) → t < y.transactions → (e : ℕ) → e ∈ events_of y t → e ∈ events_of (after y s) t
  unfolding after
  keeps-event (Event c r u) t h e i =
      cases (eqb t (into c))
      (λ q. let z = eqb-true t (into c) q in subst (λ w. e ∈ w.events) (sym (ap (enter y c r u).transaction z ∙ changed_same y.transaction (into c) _)) (mine (y.open_by c) z))
      (λ q. subst (λ w. e ∈ w.events) (sym (changed-other y.transaction (into c) _ t (eqb-false t (into c) q))) i)
    where
      mine : (o : Option ℕ) → t ≡ enters_into y o → e ∈ (events_before y o ++ (length y.diagram ∷ []))
      mine none q = absurd (omega arith)
      mine (some s) q = Memᴰ.append_left _ (rw q at i)
  keeps-event (Yield c) t h e i = by (y.open_by c)
    where
      by : (o : Option ℕ) → e ∈ events_of (yield y c o) t
      by none = i
      by (some s) =
          cases (eqb t s)
          (λ q. let z = eqb-true t s q in subst (λ w. e ∈ w.events) (sym (ap (yield y c (some s)).transaction z ∙ changed_same y.transaction s _)) (subst (λ k. e ∈ events_of y k) z i))
          (λ q. subst (λ w. e ∈ w.events) (sym (changed-other y.transaction s _ t (eqb-false t s q))) i)
  keeps-event (Fork r name) t h e i = i
  keeps-event (Join p q) t h e i = i
  keeps-event (Drop r) t h e i = i

  pub more-transactions : (s : Step) → y.transactions ≤ (after y s).transactions
  unfolding after
  more-transactions (Event c r u) = by (y.open_by c)
    where
      by : (o : Option ℕ) → y.transactions ≤ counted_with y o
      by none = omega arith
      by (some t) = omega arith
  more-transactions (Yield c) = by (y.open_by c)
    where
      by : (o : Option ℕ) → y.transactions ≤ (yield y c o).transactions
      by none = omega arith
      by (some t) = omega arith
  more-transactions (Fork r name) = omega arith
  more-transactions (Join p q) = omega arith
  more-transactions (Drop r) = omega arith

  -- the event's own transaction
  pub into-low : (c r : ℕ) (u : Bool) → into c < (after y (Event c r u)).transactions
  unfolding after
  into-low c r u = by (y.open_by c) refl
    where
      by : (o : Option ℕ) → y.open_by c ≡ o → enters_into y o < counted_with y o
      by none q = omega arith
      by (some t) q = (S.runs c t q).known

  pub into-has : (c r : ℕ) (u : Bool) → length y.diagram ∈ events_of (after y (Event c r u)) (into c)
  unfolding after
  into-has c r u = subst (λ w. length y.diagram ∈ w.events) (sym (changed_same y.transaction (into c) _)) (Memᴰ.append_right (events_before y (y.open_by c)) (Memᴰ.head refl))

  pub into-client : (c r : ℕ) (u : Bool) → ((after y (Event c r u)).transaction (into c)).client ≡ c
  unfolding after
  into-client c r u = ap (λ w. w.client) (changed_same y.transaction (into c) _)

  pub into-revision : (c r : ℕ) (u : Bool) → ((after y (Event c r u)).transaction (into c)).revision ≡ r
  unfolding after
  into-revision c r u = ap (λ w. w.revision) (changed_same y.transaction (into c) _)

  pub into-open : (c r : ℕ) (u : Bool) → (after y (Event c r u)).open_by c ≡ some (into c)
  unfolding after
  into-open c r u = changed_same y.open_by c (some (into c))

  -- an open transaction stays open until its client yields
  pub stays_open : (c t : ℕ) → y.open_by c ≡ some t → (s : Step) → (s ≡ Yield c → ⊥) → (after y s).open_by c ≡ some t
  unfolding after
  stays_open c t q (Event b r u) n = cases (eqb c b) (λ e. rw e (ap (λ o. some (enters_into y o)) (ap y.open_by (sym (eqb-true c b e)) ∙ q))) (λ e. rw e q)
  stays_open c t q (Yield b) n = by (y.open_by b)
    where
      by : (o : Option ℕ) → (yield y b o).open_by c ≡ some t
      by none = q
      by (some s) = changed-other y.open_by b none c (λ e. n (ap Yield (sym e))) ∙ q
  stays_open c t q (Fork r name) n = q
  stays_open c t q (Join a b) n = q
  stays_open c t q (Drop r) n = q

  -- a closed transaction is changed no more
  pub stays_closed : (t n : ℕ) → t < y.transactions → (y.transaction t).closed ≡ some n → (s : Step) → (after y s).transaction t ≡ y.transaction t
  unfolding after
  stays_closed t n h q (Event c r u) = changed-other y.transaction (into c) _ t (λ e. mine (y.open_by c) refl e)
    where
      mine : (o : Option ℕ) → y.open_by c ≡ o → t ≡ enters_into y o → ⊥
      mine none p e = omega arith
      mine (some s) p e = some≢none (y.transaction t).closed q (ap (λ i. (y.transaction i).closed) e ∙ (S.runs c s p).unshut)
  stays_closed t n h q (Yield c) = by (y.open_by c) refl
    where
      by : (o : Option ℕ) → y.open_by c ≡ o → (yield y c o).transaction t ≡ y.transaction t
      by none p = refl
      by (some s) p = changed-other y.transaction s _ t (λ e. some≢none (y.transaction t).closed q (ap (λ i. (y.transaction i).closed) e ∙ (S.runs c s p).unshut))
  stays_closed t n h q (Fork r name) = refl
  stays_closed t n h q (Join a b) = refl
  stays_closed t n h q (Drop r) = refl

  -- the last event of a client is its latest
  pub stays-last : (c l : ℕ) → y.last_event c ≡ some l → (s : Step) → ((r : ℕ) (u : Bool) → s ≡ Event c r u → ⊥) → (after y s).last_event c ≡ some l
  unfolding after
  stays-last c l q (Event b r u) n = changed-other y.last_event b (some (length y.diagram)) c (λ e. n r u (ap (λ k. Event k r u) (sym e))) ∙ q
  stays-last c l q (Yield b) n = by (y.open_by b)
    where
      by : (o : Option ℕ) → (yield y b o).last_event c ≡ some l
      by none = q
      by (some t) = q
  stays-last c l q (Fork r name) n = q
  stays-last c l q (Join a b) n = q
  stays-last c l q (Drop r) n = q

  -- a transaction that was not closed is closed by its client's yield
  pub closes : (t n : ℕ) → (y.transaction t).closed ≡ none → (s : Step) → ((after y s).transaction t).closed ≡ some n → (c : ℕ) × (s ≡ Yield c) × (y.open_by c ≡ some t) × (n ≡ length y.diagram)
  unfolding after
  closes t n q (Event c r u) p = absurd (some≢none ((enter y c r u).transaction t).closed p (cases (eqb t (into c)) (λ e. rw e) (λ e. rw e q)))
  closes t n q (Yield c) p = by (y.open_by c) refl p
    where
      by : (o : Option ℕ) → y.open_by c ≡ o → ((yield y c o).transaction t).closed ≡ some n → (b : ℕ) × (Yield c ≡ Yield b) × (y.open_by b ≡ some t) × (n ≡ length y.diagram)
      by none w p = absurd (some≢none (y.transaction t).closed p q)
      by (some k) w p =
          cases (eqb t k)
          (λ e. let f : some (length y.diagram) ≡ some n = rw e at p in let g : n ≡ length y.diagram = cc in (c, refl, w ∙ ap some (sym (eqb-true t k e)), g))
          (λ e. absurd (some≢none (y.transaction t).closed (rw e at p) q))
  closes t n q (Fork r name) p = absurd (some≢none (y.transaction t).closed p q)
  closes t n q (Join a b) p = absurd (some≢none (y.transaction t).closed p q)
  closes t n q (Drop r) p = absurd (some≢none (y.transaction t).closed p q)

  -- an open transaction stays open, or its client's yield closes it
  pub open-or-shut : (c t : ℕ) → y.open_by c ≡ some t → (s : Step) → ((s ≡ Yield c → ⊥) × ((after y s).open_by c ≡ some t)) ⊎ (((after y s).transaction t).closed ≡ some (length y.diagram))
  unfolding after
  open-or-shut c t q s =
      cases (is_yield c s)
      (λ e. inr (ap (λ z. ((after y z).transaction t).closed) (yield_is c s e) ∙ ap (λ o. ((yield y c o).transaction t).closed) q ∙ ap (λ w. w.closed) (changed_same y.transaction t _)))
      (λ e. inl (not-yield c s e, stays_open c t q s (not-yield c s e)))
