-- A yield keeps the day sound.
use Prim.Native.Nat.{◌<◌, ℕ}
use mathlib.Core.Bool.{false, true}
use mathlib.Core.Path.{◌∙◌, ◌≡◌, ap, refl, subst, sym}
use mathlib.Core.Logic.{◌⊎◌, inl, inr}
use mathlib.Core.Option.{Option, none, some}
use mathlib.Core.List.{List}
use native.Mathlib.Omega.{arith}
use lib.ListN.{length}
use lib.Dec.{eqb}
use borrow.Author.Tests.{eqb-false, eqb-true}
use Rattle.diagram.proofs.Days.Real.{real-close}
use Rattle.diagram.proofs.Days.Sound.{Filed, Runs, SeenWhole, Sessions, Sound, Whole, some≢none}
use Rattle.diagram.specs.Arbitration.{events_of}
use Rattle.diagram.specs.Checks.{marked}
use Rattle.diagram.specs.Day.{Day, Transaction}
use Rattle.diagram.specs.Diagram.{Diagram}
use Rattle.diagram.specs.Leads.{leads}
use Rattle.diagram.specs.Steps.{closed_now, yield}
use Rattle.lists.proofs.Blocks.{flat_same}
use Rattle.lists.proofs.Cases.{cases, split}
use Rattle.lists.proofs.Changed.{changed-other, changed_same}
use Rattle.lists.specs.Lists.{◌∈◌}

module _ (y : Day) (layout : List ℕ) (hold : ℕ → List ℕ) (S : Sound y layout hold) (c t : ℕ) (q : y.open_by c ≡ some t) where
  abbrev d : Diagram
  d = y.diagram

  abbrev y' : Day
  y' = yield y c (some t)

  R : Runs y hold c t
  R = S.runs c t q

  w-other : (s : ℕ) → (s ≡ t → ⊥) → y'.transaction s ≡ y.transaction s
  w-other s n = changed-other y.transaction t (closed_now y (y.transaction t)) s n

  w-same : y'.transaction t ≡ closed_now y (y.transaction t)
  w-same = changed_same y.transaction t (closed_now y (y.transaction t))

  by-case : {A : Type 0} (f : Transaction → A) → f (closed_now y (y.transaction t)) ≡ f (y.transaction t) → (s : ℕ) → f (y'.transaction s) ≡ f (y.transaction s)
  by-case f h s = cases (eqb s t) (λ e. let z = eqb-true s t e in ap (λ i. f (y'.transaction i)) z ∙ ap f w-same ∙ h ∙ ap (λ i. f (y.transaction i)) (sym z)) (λ e. ap f (w-other s (eqb-false s t e)))

  same-events : (s : ℕ) → events_of y' s ≡ events_of y s
  same-events = by-case (λ w. w.events) refl

  clients : (s : ℕ) → (y'.transaction s).client ≡ (y.transaction s).client
  clients = by-case (λ w. w.client) refl

  revisions : (s : ℕ) → (y'.transaction s).revision ≡ (y.transaction s).revision
  revisions = by-case (λ w. w.revision) refl

  is_open : (s : ℕ) → (y'.transaction s).closed ≡ none → s ≡ t → ⊥
  is_open s e z = some≢none (y'.transaction s).closed (ap (λ i. (y'.transaction i).closed) z ∙ ap (λ w. w.closed) w-same) e

  filed' : Filed y' layout hold
  filed' = record {
    blocks_ok = λ x i. S.filed.blocks_ok x i ∙ flat_same (events_of y) (events_of y') (hold x) (λ s j. sym (same-events s));
    all = S.filed.all;
    low = S.filed.low;
    first = λ s h. let f = S.filed.first s h in (f.0, rw (same-events s) f.1);
  }

  runs' : (a s : ℕ) → y'.open_by a ≡ some s → Runs y' hold a s
  runs' a s p = pick (split (eqb a c))
    where
      differ : (a ≡ c → ⊥) → y.open_by a ≡ some s → Runs y' hold a s
      differ n e = record {
        known = Q.known;
        client = rw w Q.client;
        unshut = rw w Q.unshut;
        client_ok = Q.client_ok;
        out = rw w Q.out;
        last_is = rw w Q.last_is;
        last_in = subst (λ z. y.terminal z.revision ∈ z.events) (sym w) Q.last_in;
        at_end = (Q.at_end.0, rw w Q.at_end.1);
        latest = λ z l h g. Q.latest z l h (sym (clients z) ∙ g);
      }
        where
          Q : Runs y hold a s
          Q = S.runs a s e

          w : y'.transaction s ≡ y.transaction s
          w = w-other s (λ z. n (sym Q.client ∙ ap (λ i. (y.transaction i).client) z ∙ R.client))

      pick : (eqb a c ≡ true) ⊎ (eqb a c ≡ false) → Runs y' hold a s
      pick (inl e) = absurd (some≢none (y'.open_by a) p (rw e))
      pick (inr e) = differ (eqb-false a c e) (rw e at p)

  unshut' : (s : ℕ) → s < y.transactions → (y'.transaction s).closed ≡ none → y'.open_by (y'.transaction s).client ≡ some s
  unshut' s h e =
      let n = is_open s e in
      let f : y.open_by (y.transaction s).client ≡ some s = S.unshut s h (sym (ap (λ w. w.closed) (w-other s n)) ∙ e) in
      rw (w-other s n) (changed-other y.open_by c none (y.transaction s).client (λ z. let g : y.open_by c ≡ some s = subst (λ i. y.open_by i ≡ some s) z f in n (cc)) ∙ f)

  whole' : Whole y'
  whole' = record {
    outside = outside';
    at_terminal = λ r s o h i e j. S.whole.at_terminal r s o h (rw (same-events s) at i) e (rw (same-events s) at j);
    own_revision = λ r s o h i e. revisions s ∙ S.whole.own_revision r s o h (rw (same-events s) at i) (sym (ap (λ w. w.closed) (w-other s (is_open s e))) ∙ e);
    closed_low = λ s n h e. cases (eqb s t) (λ z. let f : some (length d) ≡ some n = rw z at e in let g : length d ≡ n = cc in omega arith) (λ z. S.whole.closed_low s n h (rw z at e));
  }
    where
      outside' : (s x e : ℕ) → s < y.transactions → x < length d → (x ∈ events_of y' s → ⊥) → e ∈ events_of y' s → leads d e x ≡ true → SeenWhole d (y'.transaction s) x
      outside' s x e h l n i g =
          let f = S.whole.outside s x e h l (λ k. n (rw (same-events s) k)) (rw (same-events s) at i) g in
          let z : s ≡ t → ⊥ = λ k. some≢none (y.transaction s).closed f.is (ap (λ i. (y.transaction i).closed) k ∙ R.unshut) in
          record { at = f.at; is = ap (λ w. w.closed) (w-other s z) ∙ f.is; before = f.before; whole = λ a j. f.whole a (rw (same-events s) at j) }

  sessions' : Sessions y'
  sessions' = record {
    last_low = S.sessions.last_low;
    last_sees = λ s e h i. rw (clients s) (S.sessions.last_sees s e h (rw (same-events s) at i));
    later = λ a s e f l h p i j. S.sessions.later a s e f l h (sym (clients a) ∙ p ∙ clients s) (rw (same-events a) at i) (rw (same-events s) at j);
  }

  pub sound-close : Sound (yield y c (some t)) layout hold
  unfolding marked
  sound-close = record {
    real = real-close y layout S.real c t;
    filed = filed';
    runs = runs';
    unshut = unshut';
    whole = whole';
    sessions = sessions';
    marks = record { empty = S.marks.empty; main = S.marks.main };
  }

pub sound_yield : (y : Day) (layout : List ℕ) (hold : ℕ → List ℕ) → Sound y layout hold → (c : ℕ) (o : Option ℕ) → y.open_by c ≡ o → Sound (yield y c o) layout hold
sound_yield y layout hold S c none q = S
sound_yield y layout hold S c (some t) q = sound-close y layout hold S c t q
