-- Where an event goes, into its client's open transaction or into a new one, and what is known of either.
use Prim.Native.Nat.{◌<◌, ◌≤◌, ℕ}
use mathlib.Core.Bool.{true}
use mathlib.Core.Path.{◌∙◌, ◌≡◌, ap, refl, subst, sym}
use mathlib.Core.Logic.{◌⊎◌, inl, inr}
use mathlib.Core.Option.{Option, none, some}
use mathlib.Core.List.Memᴰ
use mathlib.Core.List.{List}
use mathlib.Core.List.{[], ◌++◌, ◌∷◌, append-nil}
use native.Mathlib.Omega.{arith}
use lib.ListN.{length}
use Rattle.diagram.proofs.Days.Moves.{CanEnter}
use Rattle.diagram.proofs.Days.Sound.{Runs, Sound, event-low, link, order-once, some≢none}
use Rattle.diagram.proofs.Graph.Events.{own_events}
use Rattle.diagram.proofs.Graph.Paths.{leads_trans}
use Rattle.diagram.specs.Arbitration.{events_of}
use Rattle.diagram.specs.Day.{Day, IsOut}
use Rattle.diagram.specs.Diagram.{Diagram}
use Rattle.diagram.specs.Leads.{leads}
use Rattle.diagram.specs.Steps.{counted_with, enters_into, events_before}
use Rattle.lists.proofs.Blocks.{flat-++, flat_back_nodup, flat_back-one}
use Rattle.lists.proofs.Cases.{either}
use Rattle.lists.proofs.Sublists.{nodup_apart}
use Rattle.lists.specs.Lists.{◌∈◌, flat}

module _ (y : Day) (layout : List ℕ) (hold : ℕ → List ℕ) (S : Sound y layout hold) (c r : ℕ) (E : CanEnter y c r) where
  abbrev d : Diagram
  d = y.diagram

  r-in : r ∈ layout
  r-in = S.real.out r E.out

  -- an event of c leads to where c goes on
  pub mine-sees : (t e : ℕ) → t < y.transactions → (y.transaction t).client ≡ c → e ∈ events_of y t → leads d e (y.terminal r) ≡ true
  mine-sees t e h q i =
      let l = S.sessions.last_sees t e h i in
      leads_trans (link y layout hold S).ordered e l.0 (y.terminal r) l.2 (E.caught_up l.0 (rw q at l.1))

  -- where the event goes: into the open transaction, or into a new one
  pub record Entry (o : Option ℕ) : Type 0 where
    pub init : List ℕ
    pub block : own_events d (y.terminal r) ≡ flat (events_of y) init ++ events_before y o
    pub not-init : enters_into y o ∈ init → ⊥
    pub not-other : (x : ℕ) → x ∈ layout → (x ≡ r → ⊥) → enters_into y o ∈ hold x → ⊥
    pub init-in : (s : ℕ) → s ∈ init → s ∈ hold r
    pub held : (s : ℕ) → s ∈ hold r → (s ∈ init) ⊎ (s ≡ enters_into y o)
    pub known : enters_into y o < counted_with y o
    pub more : y.transactions ≤ counted_with y o
    pub fewer : (s : ℕ) → s < counted_with y o → (s ≡ enters_into y o → ⊥) → s < y.transactions
    pub lone : (a s : ℕ) → y.open_by a ≡ some s → (a ≡ c → ⊥) → s ≡ enters_into y o → ⊥
    pub mine : (s : ℕ) → y.open_by c ≡ some s → s ≡ enters_into y o
    pub before-sees : (e : ℕ) → e ∈ events_before y o → leads d e (y.terminal r) ≡ true
    pub before-later : (s e f : ℕ) → s < enters_into y o → (y.transaction s).client ≡ c → e ∈ events_of y s → f ∈ events_before y o → leads d e f ≡ true
    pub before-low : (e : ℕ) → e ∈ events_before y o → e < length d
    pub quiet : (x e : ℕ) → x < length d → (x ∈ events_before y o → ⊥) → e ∈ events_before y o → leads d e x ≡ true → ⊥
    pub terminals : (s : ℕ) → IsOut y s → (s ≡ r → ⊥) → y.terminal s ∈ events_before y o → ⊥
    pub latest : (s : ℕ) → enters_into y o < s → s < y.transactions → (y.transaction s).client ≡ c → ⊥

  own-r : own_events d (y.terminal r) ≡ flat (events_of y) (hold r)
  own-r = S.filed.blocks_ok r r-in

  pub facts : (o : Option ℕ) → y.open_by c ≡ o → Entry o
  facts none q = record {
    init = hold r;
    block = own-r ∙ sym (append-nil (flat (events_of y) (hold r)));
    not-init = λ i. omega (arith, S.filed.low r y.transactions r-in i);
    not-other = λ x j n i. omega (arith, S.filed.low x y.transactions j i);
    init-in = λ s i. i;
    held = λ s i. inl i;
    known = omega arith;
    more = omega arith;
    fewer = λ s h n. omega arith;
    lone = λ a s e n k. omega (arith, (S.runs a s e).known);
    mine = λ s e. absurd (some≢none (y.open_by c) e q);
    before-sees = λ e i. absurd (Memᴰ.not-nil i);
    before-later = λ s e f l k i j. absurd (Memᴰ.not-nil j);
    before-low = λ e i. absurd (Memᴰ.not-nil i);
    quiet = λ x e h n i k. Memᴰ.not-nil i;
    terminals = λ s o n i. Memᴰ.not-nil i;
    latest = λ s l k e. omega arith;
  }
  facts (some t) q = record {
    init = R.at_end.0;
    block = own-r ∙ ap (flat (events_of y)) ends ∙ flat-++ (events_of y) R.at_end.0 (t ∷ []) ∙ ap (λ z. flat (events_of y) R.at_end.0 ++ z) (append-nil (events_of y t));
    not-init = λ i. nodup_apart R.at_end.0 (t ∷ []) (rw ends at (flat_back_nodup hold r layout r-in (order-once y layout hold S))) t i (Memᴰ.head refl);
    not-other = λ x j n i. n (flat_back-one hold layout (order-once y layout hold S) x r t j r-in i (rw ends (Memᴰ.append_right R.at_end.0 (Memᴰ.head refl))));
    init-in = λ s i. rw ends (Memᴰ.append_left (t ∷ []) i);
    held = λ s i. either (Memᴰ.append_cases R.at_end.0 (rw ends at i)) (λ j. inl j) (λ j. inr (Memᴰ.eq_of_singleton j));
    known = R.known;
    more = omega arith;
    fewer = λ s h n. h;
    lone = λ a s e n k. n (sym (S.runs a s e).client ∙ ap (λ z. (y.transaction z).client) k ∙ R.client);
    mine = λ s e. let z : s ≡ t = cc in z;
    before-sees = λ e i. mine-sees t e R.known R.client i;
    before-later = λ s e f l k i j. S.sessions.later s t e f l R.known (k ∙ sym R.client) i j;
    before-low = λ e i. event-low y layout hold S t e R.known i;
    quiet = λ x e h n i k. some≢none (y.transaction t).closed (S.whole.outside t x e R.known h n i k).is R.unshut;
    terminals = λ s o n i. n (sym (S.whole.own_revision s t o R.known i R.unshut) ∙ E.same_revision t q);
    latest = λ s l k e. R.latest s l k e;
  }
    where
      R : Runs y hold c t
      R = S.runs c t q

      ends : hold r ≡ R.at_end.0 ++ (t ∷ [])
      ends = subst (λ z. hold z ≡ R.at_end.0 ++ (t ∷ [])) (E.same_revision t q) R.at_end.1
