-- A new vertex that is no event: what it sees of the transactions.
use Prim.Native.Nat.{◌<◌, ◌≤◌, ℕ}
use mathlib.Core.Bool.{Bool, false, false≢true, true}
use mathlib.Core.Path.{◌∙◌, ◌≡◌, refl, sym}
use mathlib.Core.Logic.{◌⊎◌, inl, inr}
use mathlib.Core.Option.{Option, none, some}
use mathlib.Core.List.{List, Memᴰ, ◌∷◌}
use native.Mathlib.Omega.{arith}
use lib.ListN.{length}
use lib.Dec.{eqb}
use borrow.Author.Tests.{eq-eqb, eqb-false, eqb-true}
use Rattle.diagram.proofs.Days.Moves.{Idle, moved}
use Rattle.diagram.proofs.Days.Sound.{Runs, SeenWhole, Sessions, Sound, Whole, event-low, leads-low}
use Rattle.diagram.proofs.Graph.Paths.{leads_down, leads_old, leads_up}
use Rattle.diagram.specs.Arbitration.{events_of}
use Rattle.diagram.specs.Numbering.{Numbering}
use Rattle.lists.specs.Names.{Name}
use Rattle.diagram.specs.Day.{Day, IsOut, Transaction}
use Rattle.diagram.specs.Diagram.{Diagram, Vertex, sources}
use Rattle.diagram.specs.Leads.{leads}
use Rattle.lists.proofs.Cases.{either, split}
use Rattle.lists.proofs.Sublists.{mem?}
use Rattle.lists.specs.Lists.{◌∈◌}

abbrev pub Outside : Diagram → ℕ → (ℕ → Transaction) → Type 0
Outside d n w = (t x e : ℕ) → t < n → x < length d → (x ∈ (w t).events → ⊥) → e ∈ (w t).events → leads d e x ≡ true → SeenWhole d (w t) x

-- all of w is seen from p, and its yield came before the next vertex
abbrev pub Past : Diagram → Transaction → ℕ → Type 0
Past d w p = (z : ℕ) × (w.closed ≡ some z) × (z ≤ length d) × ((e : ℕ) → e ∈ w.events → leads d e p ≡ true)

pub outside_new : (d : Diagram) (v : Vertex) (n : ℕ) (w : ℕ → Transaction)
    → ((t e : ℕ) → t < n → e ∈ (w t).events → e < length d)
    → ((p : ℕ) → Memᴰ p (sources v) → p < length d)
    → ((p t : ℕ) → Memᴰ p (sources v) → t < n → p ∈ (w t).events → Past d (w t) p)
    → Outside d n w → Outside (v ∷ d) n w
outside_new d v n w low older past O t x e h l a i q = pick (split (eqb x (length d)))
  where
    at_new : leads (v ∷ d) e (length d) ≡ true → SeenWhole (v ∷ d) (w t) (length d)
    at_new g =
        let p = leads_down v d e (low t e h i) g in
        let up : (z : ℕ) → leads d z p.0 ≡ true → leads (v ∷ d) z (length d) ≡ true = λ z k. leads_up v d z p.0 p.1 k in
        either (mem? p.0 (w t).events) (λ j. let k = past p.0 t p.1 h j in record { at = k.0; is = k.1; before = k.2; whole = λ z b. up z (k.3 z b) })
        (λ j. let k = O t p.0 e h (older p.0 p.1) j i p.2 in record { at = k.at; is = k.is; before = omega (arith, k.before, older p.0 p.1); whole = λ z b. up z (k.whole z b) })

    pick : (eqb x (length d) ≡ true) ⊎ (eqb x (length d) ≡ false) → SeenWhole (v ∷ d) (w t) x
    pick (inl g) = let z = eqb-true x (length d) g in rw z (at_new (rw z at q))
    pick (inr g) =
        let z = eqb-false x (length d) g in
        let b : x < length d = omega arith in
        let k = O t x e h b a i (sym (leads_old v d e x b) ∙ q) in
        record { at = k.at; is = k.is; before = k.before; whole = λ s j. leads_old v d s x b ∙ k.whole s j }

module _ (y : Day) (layout : List ℕ) (hold : ℕ → List ℕ) (S : Sound y layout hold) where
  -- at the terminal of a revision that is not busy no transaction is open
  pub idle-past : (r t : ℕ) → IsOut y r → Idle y (λ o. Unit {0}) r → t < y.transactions → y.terminal r ∈ events_of y t → Past y.diagram (y.transaction t) (y.terminal r)
  idle-past r t o idle h i = by (y.transaction t).closed refl
    where
      by : (q : Option ℕ) → (y.transaction t).closed ≡ q → Past y.diagram (y.transaction t) (y.terminal r)
      by none q =
          let f = S.unshut t h q in
          absurd (false≢true (sym (rw f at (idle (y.transaction t).client (S.runs _ t f).client_ok tt)) ∙ eq-eqb (y.transaction t).revision r (S.whole.own_revision r t o h i q)))
      by (some z) q = (z, q, S.whole.closed_low t z h q, S.whole.at_terminal r t o h i)

  -- an open transaction is on no such revision
  pub idle-far : (r a s : ℕ) → Idle y (λ o. Unit {0}) r → y.open_by a ≡ some s → (y.transaction s).revision ≡ r → ⊥
  idle-far r a s idle p e = false≢true (sym (rw p at (idle a (S.runs a s p).client_ok tt)) ∙ eq-eqb (y.transaction s).revision r e)

-- of the older vertices each still leads where it led; and where a revision's terminal is an event, it was so before
module _ (y : Day) (layout : List ℕ) (hold : ℕ → List ℕ) (S : Sound y layout hold) (d : Diagram) (n : ℕ) (starts forks terminals : ℕ → ℕ)
    (joined : ℕ → Bool) (numbering : Numbering) (mark : ℕ → Option Name) (longer : length y.diagram ≤ length d) (up : (e x : ℕ) → x < length y.diagram → leads y.diagram e x ≡ true → leads d e x ≡ true)
    (was : (s t : ℕ) → IsOut (moved y d n starts forks terminals joined numbering mark) s → t < y.transactions → terminals s ∈ events_of y t
    → IsOut y s × (terminals s ≡ y.terminal s)) where
  abbrev y' : Day
  y' = moved y d n starts forks terminals joined numbering mark

  pub moved-whole : Outside d y.transactions y.transaction → Whole y'
  moved-whole outside = record {
    outside = outside;
    at_terminal = λ s t o h i e j. let w = was s t o h i in rw w.1 (up e (y.terminal s) (S.real.linked.bound s) (S.whole.at_terminal s t w.0 h (rw w.1 at i) e j));
    own_revision = λ s t o h i e. let w = was s t o h i in S.whole.own_revision s t w.0 h (rw w.1 at i) e;
    closed_low = λ t n h e. omega (arith, S.whole.closed_low t n h e);
  }

  pub moved-sessions : Sessions y'
  moved-sessions = record {
    last_low = λ c l e. omega (arith, S.sessions.last_low c l e);
    last_sees = λ t e h i. let l = S.sessions.last_sees t e h i in (l.0, l.1, up e l.0 (leads-low y layout hold S e l.0 l.2) l.2);
    later = λ s t e f l h q i j. up e f (event-low y layout hold S t f h j) (S.sessions.later s t e f l h q i j);
  }

  -- an open transaction's revision keeps its terminal and its transactions
  pub moved-runs : (hold' : ℕ → List ℕ)
      → ((c s : ℕ) → y.open_by c ≡ some s → IsOut y' (y.transaction s).revision × (terminals (y.transaction s).revision ≡ y.terminal (y.transaction s).revision) × (hold' (y.transaction s).revision ≡ hold (y.transaction s).revision))
      → (c s : ℕ) → y.open_by c ≡ some s → Runs y' hold' c s
  moved-runs hold' kept c s p =
      let R = S.runs c s p in
      let k = kept c s p in
      record {
        known = R.known;
        client = R.client;
        unshut = R.unshut;
        client_ok = R.client_ok;
        out = k.0;
        last_is = rw k.1 R.last_is;
        last_in = rw k.1 R.last_in;
        at_end = (R.at_end.0, k.2 ∙ R.at_end.1);
        latest = R.latest;
      }
