-- An event keeps the day sound: the transactions, the sessions and what is whole, with the event's vertex added.
use Prim.Native.Nat.{◌<◌, ◌≤◌, suc, ℕ}
use mathlib.Core.Bool.{Bool, cond, false, false≢true, true}
use mathlib.Core.Path.{◌∙◌, ◌≡◌, ap, refl, subst, sym}
use mathlib.Core.Logic.{◌⊎◌, inl, inr}
use mathlib.Core.Option.{Option, none, some}
use mathlib.Core.List.Memᴰ
use mathlib.Core.List.{List}
use mathlib.Core.List.{[], ◌++◌, ◌∷◌, append_assoc, append-nil}
use native.Mathlib.Omega.{arith}
use lib.ListN.{length}
use lib.Dec.{eqb}
use borrow.Author.Tests.{eq-eqb, eqb-false, eqb-true}
use Rattle.diagram.proofs.Days.Entry.{Entry, facts, mine-sees}
use Rattle.diagram.proofs.Days.Moves.{CanEnter, mark_apart}
use Rattle.diagram.proofs.Days.Real.{real-enter}
use Rattle.diagram.proofs.Days.Sound.{Filed, Runs, SeenWhole, Sessions, Sound, Unwritten, Whole, event-low, leads-low, link, some≢none}
use Rattle.diagram.proofs.Graph.Events.{own_event_step, own_events}
use Rattle.diagram.proofs.Graph.Paths.{leads_down, leads_newest, leads_old, leads-start, leads_up}
use Rattle.diagram.proofs.Graph.Tables.{tabulate-newest, tabulate-older}
use Rattle.diagram.specs.Arbitration.{events_of}
use Rattle.diagram.specs.Checks.{marked}
use Rattle.diagram.specs.Day.{Day, IsOut, Transaction}
use Rattle.diagram.specs.Diagram.{Diagram, Vertex, event}
use Rattle.diagram.specs.Leads.{leads}
use Rattle.diagram.specs.Steps.{counted_with, enter, enters_into, events_before}
use Rattle.lists.proofs.Blocks.{flat-++, flat_same}
use Rattle.lists.proofs.Cases.{cases, either, split}
use Rattle.lists.proofs.Changed.{changed-other, changed_same}
use Rattle.lists.proofs.Sublists.{mem?}
use Rattle.lists.specs.Lists.{◌∈◌, changed, flat}

module _ (y : Day) (layout : List ℕ) (hold : ℕ → List ℕ) (S : Sound y layout hold) (c r : ℕ) (u : Bool) (E : CanEnter y c r) where
  abbrev d : Diagram
  d = y.diagram

  terminal-low : y.terminal r < length d
  terminal-low = S.real.linked.bound r

  abbrev o : Option ℕ
  o = y.open_by c

  X : Entry y layout hold S c r E o
  X = facts y layout hold S c r E o refl

  abbrev t0 : ℕ
  t0 = enters_into y o

  abbrev x0 : ℕ
  x0 = length d

  abbrev k0 : Option ℕ
  k0 = cond u (some y.updates) none

  abbrev v : Vertex
  v = event (y.terminal r) c k0

  abbrev y' : Day
  y' = enter y c r u

  abbrev at' : ℕ → ℕ
  at' = changed y.terminal r x0

  abbrev hold' : ℕ → List ℕ
  hold' = changed hold r (X.init ++ (t0 ∷ []))

  abbrev T0 : Transaction
  T0 = record { client = c; revision = r; events = events_before y o ++ (x0 ∷ []); closed = none }

  w-new : y'.transaction t0 ≡ T0
  w-new = changed_same y.transaction t0 T0

  w-old : (t : ℕ) → (t ≡ t0 → ⊥) → y'.transaction t ≡ y.transaction t
  w-old t n = changed-other y.transaction t0 T0 t n

  e-new : events_of y' t0 ≡ events_before y o ++ (x0 ∷ [])
  e-new = ap (λ w. w.events) w-new

  e-old : (t : ℕ) → (t ≡ t0 → ⊥) → events_of y' t ≡ events_of y t
  e-old t n = ap (λ w. w.events) (w-old t n)

  -- one of the transactions: the event's own, or an old one
  side : (t : ℕ) → t < y'.transactions → (t ≡ t0) ⊎ ((t ≡ t0 → ⊥) × (t < y.transactions))
  side t h = cases (eqb t t0) (λ e. inl (eqb-true t t0 e)) (λ e. inr (eqb-false t t0 e, X.fewer t h (eqb-false t t0 e)))

  new-cases : (e : ℕ) → e ∈ events_of y' t0 → (e ∈ events_before y o) ⊎ (e ≡ x0)
  new-cases e i = either (Memᴰ.append_cases (events_before y o) (rw e-new at i)) (λ j. inl j) (λ j. inr (Memᴰ.eq_of_singleton j))

  up : (e : ℕ) → leads d e (y.terminal r) ≡ true → leads (v ∷ d) e x0 ≡ true
  up e h = leads_up v d e (y.terminal r) (Memᴰ.head refl) h

  old-sees : (e x : ℕ) → x < length d → leads d e x ≡ true → leads (v ∷ d) e x ≡ true
  old-sees e x h q = leads_old v d e x h ∙ q

  filed' : Filed y' layout hold'
  filed' = record { blocks_ok = blocks'; all = all'; low = low'; first = first' }
    where
      other : (x : ℕ) → x ∈ layout → (x ≡ r → ⊥) → own_events (v ∷ d) (at' x) ≡ flat (events_of y') (hold' x)
      other x i n =
          rw (changed-other y.terminal r x0 x n, changed-other hold r (X.init ++ (t0 ∷ [])) x n, tabulate-older own_event_step [] v d (y.terminal x) ((link y layout hold S).bound x))
          (S.filed.blocks_ok x i ∙ flat_same (events_of y) (events_of y') (hold x) (λ t j. sym (e-old t (λ q. X.not-other x i n (Memᴰ.cast (sym q) j)))))

      this : own_events (v ∷ d) x0 ≡ flat (events_of y') (X.init ++ (t0 ∷ []))
      this =
          tabulate-newest own_event_step [] v d ∙ ap (λ z. z ++ (x0 ∷ [])) X.block ∙ append_assoc (flat (events_of y) X.init) (events_before y o) (x0 ∷ [])
          ∙ ap (λ z. z ++ (events_before y o ++ (x0 ∷ []))) (flat_same (events_of y) (events_of y') X.init (λ t j. sym (e-old t (λ q. X.not-init (Memᴰ.cast (sym q) j)))))
          ∙ ap (λ z. flat (events_of y') X.init ++ z) (sym e-new ∙ sym (append-nil (events_of y' t0)))
          ∙ sym (flat-++ (events_of y') X.init (t0 ∷ []))

      blocks' : (x : ℕ) → x ∈ layout → own_events (v ∷ d) (at' x) ≡ flat (events_of y') (hold' x)
      blocks' x i = cases (eqb x r) (λ e. rw e this) (λ e. other x i (eqb-false x r e))

      all' : (t : ℕ) → t < y'.transactions → (x : ℕ) × (x ∈ layout) × (t ∈ hold' x)
      all' t h = pick (side t h)
        where
          keep : (t ≡ t0 → ⊥) → (x : ℕ) → x ∈ layout → t ∈ hold x → t ∈ hold' x
          keep n x i j = cases (eqb x r) (λ e. rw e (either (X.held t (rw (eqb-true x r e) at j)) (λ k. Memᴰ.append_left (t0 ∷ []) k) (λ k. absurd (n k)))) (λ e. rw e j)

          pick : (t ≡ t0) ⊎ ((t ≡ t0 → ⊥) × (t < y.transactions)) → (x : ℕ) × (x ∈ layout) × (t ∈ hold' x)
          pick (inl e) = (r, S.real.out r E.out, rw (changed_same hold r (X.init ++ (t0 ∷ []))) (Memᴰ.append_right X.init (Memᴰ.head e)))
          pick (inr p) = let q = S.filed.all t p.1 in (q.0, q.1, keep p.0 q.0 q.1 q.2)

      low' : (x t : ℕ) → x ∈ layout → t ∈ hold' x → t < y'.transactions
      low' x t i j = pick (split (eqb x r))
        where
          more : t < y.transactions → t < counted_with y o
          more h = omega (arith, X.more)

          pick : (eqb x r ≡ true) ⊎ (eqb x r ≡ false) → t < counted_with y o
          pick (inl e) = either (Memᴰ.append_cases X.init (rw e at j)) (λ k. more (S.filed.low r t (S.real.out r E.out) (X.init-in t k))) (λ k. rw (Memᴰ.eq_of_singleton k) X.known)
          pick (inr e) = more (S.filed.low x t i (rw e at j))

      first' : (t : ℕ) → t < y'.transactions → (e : ℕ) × (e ∈ events_of y' t)
      first' t h = pick (side t h)
        where
          pick : (t ≡ t0) ⊎ ((t ≡ t0 → ⊥) × (t < y.transactions)) → (e : ℕ) × (e ∈ events_of y' t)
          pick (inl e) = (x0, rw (e, e-new) (Memᴰ.append_right (events_before y o) (Memᴰ.head refl)))
          pick (inr p) = let q = S.filed.first t p.1 in (q.0, rw (e-old t p.0) q.1)

  runs' : (a s : ℕ) → y'.open_by a ≡ some s → Runs y' hold' a s
  runs' a s q = pick (split (eqb a c))
    where
      same : a ≡ c → s ≡ t0 → Runs y' hold' a s
      same e f = record {
        known = rw f X.known;
        client = rw (f, w-new) (sym e);
        unshut = rw (f, w-new);
        client_ok = rw e E.client_ok;
        out = rw (f, w-new) E.out;
        last_is = rw (f, w-new, e, changed_same y.last_event c (some x0), changed_same y.terminal r x0);
        last_in = rw (f, w-new, e-new, changed_same y.terminal r x0) (Memᴰ.append_right (events_before y o) (Memᴰ.head refl));
        at_end = (X.init, rw (f, w-new, changed_same hold r (X.init ++ (t0 ∷ []))));
        latest = λ z l h g. either (side z h) (λ k. omega arith) (λ k. X.latest z (rw f at l) k.1 (subst (λ w. w.client ≡ c) (w-old z k.0) (g ∙ e)));
      }

      differ : (a ≡ c → ⊥) → y.open_by a ≡ some s → Runs y' hold' a s
      differ n p = record {
        known = omega (arith, R.known, X.more);
        client = rw w R.client;
        unshut = rw w R.unshut;
        client_ok = R.client_ok;
        out = rw w R.out;
        last_is = rw (w, changed-other y.last_event c (some x0) a n, changed-other y.terminal r x0 on far) R.last_is;
        last_in = rw (w, e-old s (X.lone a s p n), changed-other y.terminal r x0 on far) R.last_in;
        at_end = (R.at_end.0, rw (w, changed-other hold r (X.init ++ (t0 ∷ [])) on far) R.at_end.1);
        latest = λ z l h g. either (side z h) (λ k. n (sym g ∙ ap (λ i. (y'.transaction i).client) k ∙ ap (λ i. i.client) w-new)) (λ k. R.latest z l k.1 (subst (λ i. i.client ≡ a) (w-old z k.0) g));
      }
        where
          R : Runs y hold a s
          R = S.runs a s p

          on : ℕ
          on = (y.transaction s).revision

          w : y'.transaction s ≡ y.transaction s
          w = w-old s (X.lone a s p n)

          far : on ≡ r → ⊥
          far e = false≢true (sym (rw p at (E.idle a R.client_ok n)) ∙ eq-eqb on r e)

      pick : (eqb a c ≡ true) ⊎ (eqb a c ≡ false) → Runs y' hold' a s
      pick (inl e) = let p : some t0 ≡ some s = rw e at q in let f : s ≡ t0 = cc in same (eqb-true a c e) f
      pick (inr e) = differ (eqb-false a c e) (rw e at q)

  unshut' : (t : ℕ) → t < y'.transactions → (y'.transaction t).closed ≡ none → y'.open_by (y'.transaction t).client ≡ some t
  unshut' t h q = pick (side t h)
    where
      pick : (t ≡ t0) ⊎ ((t ≡ t0 → ⊥) × (t < y.transactions)) → y'.open_by (y'.transaction t).client ≡ some t
      pick (inl e) = rw (e, w-new) (changed_same y.open_by c (some t0))
      pick (inr p) =
          let w = w-old t p.0 in
          let f : y.open_by (y.transaction t).client ≡ some t = S.unshut t p.1 (rw w at q) in
          rw w (changed-other y.open_by c (some t0) (y.transaction t).client (λ e. p.0 (X.mine t (subst (λ z. y.open_by z ≡ some t) e f))) ∙ f)

  sessions' : Sessions y'
  sessions' = record { last_low = last-low'; last_sees = last'; later = later' }
    where
      last-low' : (a l : ℕ) → changed y.last_event c (some x0) a ≡ some l → l < suc (length d)
      last-low' a l q = cases (eqb a c) (λ e. let p : some x0 ≡ some l = rw e at q in let z : x0 ≡ l = cc in omega arith) (λ e. omega (arith, S.sessions.last_low a l (rw e at q)))

      last-c : (a e : ℕ) → a ≡ c → leads (v ∷ d) e x0 ≡ true → (l : ℕ) × (changed y.last_event c (some x0) a ≡ some l) × (leads (v ∷ d) e l ≡ true)
      last-c a e q h = (x0, rw q (changed_same y.last_event c (some x0)), h)

      last-old : (t e : ℕ) → t < y.transactions → e ∈ events_of y t → (l : ℕ) × (changed y.last_event c (some x0) (y.transaction t).client ≡ some l) × (leads (v ∷ d) e l ≡ true)
      last-old t e h i =
          cases (eqb (y.transaction t).client c)
          (λ q. let g = eqb-true (y.transaction t).client c q in last-c (y.transaction t).client e g (up e (mine-sees y layout hold S c r E t e h g i)))
          (λ q. let l = S.sessions.last_sees t e h i in (l.0, rw q l.1, old-sees e l.0 (leads-low y layout hold S e l.0 l.2) l.2))

      last' : (t e : ℕ) → t < y'.transactions → e ∈ events_of y' t → (l : ℕ) × (y'.last_event (y'.transaction t).client ≡ some l) × (leads (v ∷ d) e l ≡ true)
      last' t e h i = pick (side t h)
        where
          pick : (t ≡ t0) ⊎ ((t ≡ t0 → ⊥) × (t < y.transactions)) → (l : ℕ) × (y'.last_event (y'.transaction t).client ≡ some l) × (leads (v ∷ d) e l ≡ true)
          pick (inl q) =
              let own = ap (λ z. (y'.transaction z).client) q ∙ ap (λ w. w.client) w-new in
              last-c (y'.transaction t).client e own (either (new-cases e (subst (λ z. e ∈ events_of y' z) q i)) (λ j. up e (X.before-sees e j)) (λ j. rw j (leads_newest v d)))
          pick (inr p) = rw (w-old t p.0) (last-old t e p.1 (rw (e-old t p.0) at i))

      later' : (s t e f : ℕ) → s < t → t < y'.transactions → (y'.transaction s).client ≡ (y'.transaction t).client → e ∈ events_of y' s → f ∈ events_of y' t → leads (v ∷ d) e f ≡ true
      later' s t e f l h q i j = pick (side s (omega arith)) (side t h)
        where
          to-new : (s ≡ t0 → ⊥) → s < y.transactions → t ≡ t0 → leads (v ∷ d) e f ≡ true
          to-new n hs g =
              let qc : (y.transaction s).client ≡ c = sym (ap (λ w. w.client) (w-old s n)) ∙ q ∙ ap (λ z. (y'.transaction z).client) g ∙ ap (λ w. w.client) w-new in
              let ie : e ∈ events_of y s = rw (e-old s n) at i in
              either (new-cases f (subst (λ z. f ∈ events_of y' z) g j)) (λ k. old-sees e f (X.before-low f k) (X.before-later s e f (rw g at l) qc ie k)) (λ k. rw k (up e (mine-sees y layout hold S c r E s e hs qc ie)))

          pick : (s ≡ t0) ⊎ ((s ≡ t0 → ⊥) × (s < y.transactions)) → (t ≡ t0) ⊎ ((t ≡ t0 → ⊥) × (t < y.transactions)) → leads (v ∷ d) e f ≡ true
          pick (inl a) (inl g) = absurd (omega arith)
          pick (inl a) (inr g) = absurd (X.latest t (rw a at l) g.1 (sym (ap (λ w. w.client) (w-old t g.0)) ∙ sym q ∙ ap (λ z. (y'.transaction z).client) a ∙ ap (λ w. w.client) w-new))
          pick (inr a) (inl g) = to-new a.0 a.1 g
          pick (inr a) (inr g) =
              let jf : f ∈ events_of y t = rw (e-old t g.0) at j in
              old-sees e f (event-low y layout hold S t f g.1 jf) (S.sessions.later s t e f l g.1 (sym (ap (λ w. w.client) (w-old s a.0)) ∙ q ∙ ap (λ w. w.client) (w-old t g.0)) (rw (e-old s a.0) at i) jf)

  whole' : Whole y'
  whole' = record { outside = outside'; at_terminal = terminal'; own_revision = own'; closed_low = closed' }
    where
      raise : (t x z : ℕ) → (t ≡ t0 → ⊥) → SeenWhole d (y.transaction t) x → x ≤ z → ((e : ℕ) → leads d e x ≡ true → leads (v ∷ d) e z ≡ true) → SeenWhole (v ∷ d) (y'.transaction t) z
      raise t x z n s h f = record { at = s.at; is = rw (w-old t n) s.is; before = omega (arith, s.before); whole = λ e i. f e (s.whole e (rw (e-old t n) at i)) }

      -- of another transaction whose event is the terminal of r, the yield came
      came-shut : (t : ℕ) → (t ≡ t0 → ⊥) → t < y.transactions → y.terminal r ∈ events_of y t → (q : Option ℕ) → (y.transaction t).closed ≡ q → SeenWhole (v ∷ d) (y'.transaction t) x0
      came-shut t n h i none q =
          let on = S.whole.own_revision r t E.out h i q in
          let f = S.unshut t h q in
          let by = (y.transaction t).client in
          absurd
          (cases (eqb by c)
          (λ e. n (X.mine t (subst (λ z. y.open_by z ≡ some t) (eqb-true by c e) f)))
          (λ e. false≢true (sym (rw f at (E.idle by (S.runs by t f).client_ok (eqb-false by c e))) ∙ eq-eqb (y.transaction t).revision r on)))
      came-shut t n h i (some z) q = record { at = z; is = rw (w-old t n) q; before = S.whole.closed_low t z h q; whole = λ e j. up e (S.whole.at_terminal r t E.out h i e (rw (e-old t n) at j)) }

      at_new : (t e : ℕ) → (t ≡ t0 → ⊥) → t < y.transactions → e ∈ events_of y t → leads (v ∷ d) e x0 ≡ true → SeenWhole (v ∷ d) (y'.transaction t) x0
      at_new t e n h i q =
          let p = leads_down v d e (event-low y layout hold S t e h i) q in
          let g : leads d e (y.terminal r) ≡ true = rw (Memᴰ.eq_of_singleton p.1) at p.2 in
          either (mem? (y.terminal r) (events_of y t)) (λ j. came-shut t n h j (y.transaction t).closed refl) (λ j. raise t (y.terminal r) x0 n (S.whole.outside t (y.terminal r) e h terminal-low j i g) (omega (arith, terminal-low)) up)

      outside' : (t x e : ℕ) → t < y'.transactions → x < length (v ∷ d) → (x ∈ events_of y' t → ⊥) → e ∈ events_of y' t → leads (v ∷ d) e x ≡ true → SeenWhole (v ∷ d) (y'.transaction t) x
      outside' t x e h l n i q = pick (side t h) (split (eqb x x0))
        where
          low : eqb x x0 ≡ false → x < length d
          low g = let z = eqb-false x x0 g in omega arith

          pick : (t ≡ t0) ⊎ ((t ≡ t0 → ⊥) × (t < y.transactions)) → (eqb x x0 ≡ true) ⊎ (eqb x x0 ≡ false) → SeenWhole (v ∷ d) (y'.transaction t) x
          pick (inl a) (inl g) = absurd (n (rw (a, e-new, eqb-true x x0 g) (Memᴰ.append_right (events_before y o) (Memᴰ.head refl))))
          pick (inl a) (inr g) =
              let q' : leads d e x ≡ true = sym (leads_old v d e x (low g)) ∙ q in
              absurd (either (new-cases e (subst (λ z. e ∈ events_of y' z) a i)) (λ j. X.quiet x e (low g) (λ k. n (rw (a, e-new) (Memᴰ.append_left (x0 ∷ []) k))) j q') (λ j. omega (arith, leads-start d e x q')))
          pick (inr a) (inl g) = rw (eqb-true x x0 g) (at_new t e a.0 a.1 (rw (e-old t a.0) at i) (rw (eqb-true x x0 g) at q))
          pick (inr a) (inr g) =
              let n' : x ∈ events_of y t → ⊥ = λ k. n (rw (e-old t a.0) k) in
              raise t x x a.0 (S.whole.outside t x e a.1 (low g) n' (rw (e-old t a.0) at i) (sym (leads_old v d e x (low g)) ∙ q)) (omega arith) (λ z p. old-sees z x (low g) p)

      -- the terminal of s is an event of t: r's, of the event's transaction; or it was one before
      ends : (s t : ℕ) → IsOut y' s → t < y'.transactions → y'.terminal s ∈ events_of y' t
          → ((t ≡ t0) × (eqb s r ≡ true)) ⊎ ((t ≡ t0 → ⊥) × (t < y.transactions) × (eqb s r ≡ false) × (y.terminal s ∈ events_of y t))
      ends s t os h i =
          either (side t h)
          (λ a. cases (eqb s r) (λ g. inl (a, g))
          (λ g.
          let i' : y.terminal s ∈ events_of y' t = rw g at i in
          absurd (either (new-cases (y.terminal s) (subst (λ z. y.terminal s ∈ events_of y' z) a i')) (λ k. X.terminals s os (eqb-false s r g) k) (λ k. omega (arith, S.real.linked.bound s)))))
          (λ a. cases (eqb s r)
          (λ g. let i' : x0 ∈ events_of y t = rw (g, e-old t a.0) at i in absurd (omega (arith, event-low y layout hold S t x0 a.1 i')))
          (λ g. inr (a.0, a.1, g, rw (g, e-old t a.0) at i)))

      terminal' : (s t : ℕ) → IsOut y' s → t < y'.transactions → y'.terminal s ∈ events_of y' t → (e : ℕ) → e ∈ events_of y' t → leads (v ∷ d) e (y'.terminal s) ≡ true
      terminal' s t os h i e j =
          either (ends s t os h i)
          (λ p. rw p.1 (either (new-cases e (subst (λ z. e ∈ events_of y' z) p.0 j)) (λ k. up e (X.before-sees e k)) (λ k. rw k (leads_newest v d))))
          (λ p. rw p.2 (old-sees e (y.terminal s) (S.real.linked.bound s) (S.whole.at_terminal s t os p.1 p.3 e (rw (e-old t p.0) at j))))

      own' : (s t : ℕ) → IsOut y' s → t < y'.transactions → y'.terminal s ∈ events_of y' t → (y'.transaction t).closed ≡ none → (y'.transaction t).revision ≡ s
      own' s t os h i q =
          either (ends s t os h i)
          (λ p. rw (p.0, w-new) (sym (eqb-true s r p.1)))
          (λ p. ap (λ w. w.revision) (w-old t p.0) ∙ S.whole.own_revision s t os p.1 p.3 (sym (ap (λ w. w.closed) (w-old t p.0)) ∙ q))

      closed' : (t n : ℕ) → t < y'.transactions → (y'.transaction t).closed ≡ some n → n ≤ length (v ∷ d)
      closed' t n h q = pick (side t h)
        where
          pick : (t ≡ t0) ⊎ ((t ≡ t0 → ⊥) × (t < y.transactions)) → n ≤ suc (length d)
          pick (inl a) = absurd (some≢none (y'.transaction t).closed q (ap (λ z. (y'.transaction z).closed) a ∙ ap (λ w. w.closed) w-new))
          pick (inr a) = omega (arith, S.whole.closed_low t n a.1 (sym (ap (λ w. w.closed) (w-old t a.0)) ∙ q))

  -- the event is on no mark
  marks' : Unwritten y' hold'
  unfolding marked
  marks' = record { empty = λ s e. changed-other hold r _ s (mark_apart y r s E.unmarked e) ∙ S.marks.empty s e; main = S.marks.main }

  pub sound-enter : (H : ℕ → List ℕ) × Sound (enter y c r u) layout H
  sound-enter = (
    hold',
    record {
      real = real-enter y layout S.real c r u E;
      filed = filed';
      runs = runs';
      unshut = unshut';
      whole = whole';
      sessions = sessions';
      marks = marks';
    },
  )
