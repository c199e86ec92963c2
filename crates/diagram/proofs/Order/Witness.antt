-- The theorem: the diagram of every run of accepted steps is a witness for its events and yields.
use Prim.Native.Nat.{◌<◌, ℕ}
use mathlib.Core.Bool.{Bool, true}
use mathlib.Core.Path.{◌∙◌, ◌≡◌, ap, refl, subst, sym}
use mathlib.Core.Logic.{◌↔◌, ◌⊎◌, inl, inr}
use mathlib.Core.Option.{Option, none, some}
use mathlib.Core.List.Memᴰ
use mathlib.Core.List.{List, Memᴰ, [], ◌++◌, ◌∷◌, append_assoc}
use native.Mathlib.Omega.{arith}
use lib.ListN.{length}
use Rattle.diagram.proofs.Days.Moves.{CanEnter, can-enter}
use Rattle.diagram.proofs.Days.Sound.{event-low, same_some, some≢none}
use Rattle.diagram.proofs.Graph.Paths.{leads_path, leads_trans, leads_up, path_older}
use Rattle.diagram.proofs.Order.Constructed.{made-run}
use Rattle.diagram.proofs.Order.Growth.{Fine, Older, fine_fresh, next, same}
use Rattle.diagram.proofs.Order.History.{closes, into, into-client, into-has, into-low, into-open, into-revision, keeps-client, keeps-event, keeps-revision}
use Rattle.diagram.proofs.Order.History.{more-transactions, open-or-shut, stays_closed, stays-last, stays_open}
use Rattle.diagram.proofs.Order.Runs.{accepted_first, accepted_rest, along, fine_run, fine_step, older_from, run-append}
use Rattle.diagram.specs.Arbitration.{events_of}
use Rattle.diagram.specs.Day.{Day, Transaction, fresh}
use Rattle.diagram.specs.Diagram.{Diagram, Edge, HasPath, Terminal, Vertex, newest, older, s_sources}
use Rattle.diagram.specs.Steps.{Event, Step, Yield, after, enters_into, run, run_from}
use Rattle.diagram.specs.Accepted.{Accepted, AcceptedFrom, accepted}
use Rattle.diagram.specs.Witness.{ByTransactions, EnteredIn, NoEvent, NoYield, Witness}
use Rattle.lists.proofs.Changed.{changed_same}
use Rattle.lists.specs.Lists.{◌∈◌}

entered_step : (x c r t : ℕ) (y : Day) (s : Step) → accepted y s ≡ true → Fine y × EnteredIn y x c r t → Fine (after y s) × EnteredIn (after y s) x c r t
entered_step x c r t y s a (F, E) = (fine_step y s a F, entered)
  where
    entered : EnteredIn (after y s) x c r t
    entered = record {
      known = omega (arith, E.known, more-transactions y F s);
      has = keeps-event y F s t E.known x E.has;
      own = keeps-client y F s a t E.known ∙ E.own;
      on = keeps-revision y F s a t E.known ∙ E.on;
    }

-- an event stays in its transaction
entered_on : (ss : List Step) (y : Day) → AcceptedFrom y ss → Fine y → (x c r t : ℕ) → EnteredIn y x c r t → EnteredIn (run_from y ss) x c r t
entered_on ss y A F x c r t E = (along (λ z. Fine z × EnteredIn z x c r t) (entered_step x c r t) ss y A (F, E)).1

-- an open transaction is open after a run without a yield
open-on : (ss : List Step) (y : Day) → AcceptedFrom y ss → Fine y → (c t : ℕ) → y.open_by c ≡ some t → NoYield c ss → (run_from y ss).open_by c ≡ some t
unfolding run_from
open-on [] y A F c t q n = q
open-on (s ∷ ss) y A F c t q n = open-on ss (after y s) A.1 (fine_step y s A.0 F) c t (stays_open y F c t q s (λ e. n (Memᴰ.head (sym e)))) (λ i. n (Memᴰ.tail i))

-- a client's last event is the last after a run without another
last_on : (ss : List Step) (y : Day) → AcceptedFrom y ss → Fine y → (c l : ℕ) → y.last_event c ≡ some l → NoEvent c ss → (run_from y ss).last_event c ≡ some l
unfolding run_from
last_on [] y A F c l q n = q
last_on (s ∷ ss) y A F c l q n = last_on ss (after y s) A.1 (fine_step y s A.0 F) c l (stays-last y F c l q s (λ r u e. n r u (Memᴰ.head (sym e)))) (λ r u i. n r u (Memᴰ.tail i))

-- a closed transaction is the same after every run
abbrev Shut : Day → Transaction → ℕ → Type 0
Shut y w t = (t < y.transactions) × (y.transaction t ≡ w)

shut_on : (ss : List Step) (y : Day) → AcceptedFrom y ss → Fine y → (t n : ℕ) → t < y.transactions → (y.transaction t).closed ≡ some n → (run_from y ss).transaction t ≡ y.transaction t
shut_on ss y A F t n h q =
    (along (λ z. Fine z × Shut z (y.transaction t) t)
    (λ z s a P. (fine_step z s a P.0, (omega (arith, P.1.0, more-transactions z P.0 s), stays_closed z P.0 t n P.1.0 (ap (λ w. w.closed) P.1.1 ∙ q) s ∙ P.1.1)))
    ss y A (F, (h, refl))).1.1

abbrev ShutAt : Day → ℕ → Type 0
ShutAt y t = (n : ℕ) × ((y.transaction t).closed ≡ some n)

-- an open transaction is closed after a run with a yield
shut_by : (ss : List Step) (y : Day) → AcceptedFrom y ss → Fine y → (c t : ℕ) → y.open_by c ≡ some t → Memᴰ (Yield c) ss → ShutAt (run_from y ss) t
unfolding run_from
shut_by [] y A F c t q i = absurd (Memᴰ.not-nil i)
shut_by (s ∷ ss) y A F c t q i = by (open-or-shut y F c t q s) i (λ p j. shut_by ss (after y s) A.1 (fine_step y s A.0 F) c t p j)
  where
    known : t < (after y s).transactions
    known = omega (arith, (F.sound.runs c t q).known, more-transactions y F s)

    by : ((s ≡ Yield c → ⊥) × ((after y s).open_by c ≡ some t)) ⊎ (((after y s).transaction t).closed ≡ some (length y.diagram))
        → Memᴰ (Yield c) (s ∷ ss) → ((after y s).open_by c ≡ some t → Memᴰ (Yield c) ss → ShutAt (run_from (after y s) ss) t) → ShutAt (run_from (after y s) ss) t
    by (inr p) j more = (length y.diagram, ap (λ w. w.closed) (shut_on ss (after y s) A.1 (fine_step y s A.0 F) t (length y.diagram) known p) ∙ p)
    by (inl (n, p)) (Memᴰ.head e) more = absurd (n (sym e))
    by (inl (n, p)) (Memᴰ.tail j) more = more p j

-- the yield that closed a transaction
record YieldFrom (y : Day) (ss : List Step) (t n : ℕ) : Type 0 where
  before : List Step
  rest : List Step
  client : ℕ
  is : ss ≡ before ++ (Yield client ∷ rest)
  was_open : (run_from y before).open_by client ≡ some t
  at : n ≡ length (run_from y before).diagram

yield_from : (ss : List Step) (y : Day) → AcceptedFrom y ss → Fine y → (t n : ℕ) → (y.transaction t).closed ≡ none → ((run_from y ss).transaction t).closed ≡ some n → YieldFrom y ss t n
unfolding run_from
yield_from [] y A F t n q p = absurd (some≢none (y.transaction t).closed p q)
yield_from (s ∷ ss) y A F t n q p = by ((after y s).transaction t).closed refl (λ w. yield_from ss (after y s) A.1 (fine_step y s A.0 F) t n w p)
  where
    G : Fine (after y s)
    G = fine_step y s A.0 F

    by : (o : Option ℕ) → ((after y s).transaction t).closed ≡ o → (((after y s).transaction t).closed ≡ none → YieldFrom (after y s) ss t n) → YieldFrom y (s ∷ ss) t n
    by none w more = let r = more w in record { before = s ∷ r.before; rest = r.rest; client = r.client; is = ap (◌∷◌ s) r.is; was_open = r.was_open; at = r.at }
    by (some m) w more =
        let k = closes y F t m q s w in
        let h : t < (after y s).transactions = omega (arith, (F.sound.runs k.0 t k.2).known, more-transactions y F s) in
        let e : some m ≡ some n = sym w ∙ sym (ap (λ z. z.closed) (shut_on ss (after y s) A.1 G t m h w)) ∙ p in
        let g : n ≡ m = cc in
        record { before = []; rest = ss; client = k.0; is = ap (λ z. z ∷ ss) k.1; was_open = k.2; at = g ∙ k.3 }

path_on : {x z : ℕ} {d e : Diagram} → Older d e → HasPath d x z → HasPath e x z
path_on same p = p
path_on (next o) p = path_older (path_on o p)

-- an edge stays
edge_older : {from : Vertex → List ℕ} {x z : ℕ} {d e : Diagram} → Older d e → Edge from x z d → Edge from x z e
edge_older same g = g
edge_older (next o) g = older (edge_older o g)

-- an event that was entered after `before`
module _ (ss before rest : List Step) (A : Accepted ss) (c r : ℕ) (u : Bool) (e : ss ≡ before ++ (Event c r u ∷ rest)) where
  abbrev y0 : Day
  y0 = run before

  abbrev x : ℕ
  x = length y0.diagram

  abbrev y1 : Day
  y1 = after y0 (Event c r u)

  B : AcceptedFrom y0 (Event c r u ∷ rest)
  B = accepted_rest before (Event c r u ∷ rest) (subst Accepted e A)

  F0 : Fine y0
  F0 = fine_run before (accepted_first before (Event c r u ∷ rest) (subst Accepted e A))

  F1 : Fine y1
  F1 = fine_step y0 (Event c r u) B.0 F0

  ends : run ss ≡ run_from y1 rest
  unfolding run_from
  ends = ap run e ∙ run-append before (Event c r u ∷ rest)

  abbrev goes_into : ℕ
  goes_into = into y0 F0 c

  opened : y1.open_by c ≡ some goes_into
  opened = into-open y0 F0 c r u

  -- at the end of the run
  is-in : EnteredIn (run ss) x c r goes_into
  is-in = rw ends (entered_on rest y1 B.1 F1 x c r goes_into (record { known = into-low y0 F0 c r u; has = into-has y0 F0 c r u; own = into-client y0 F0 c r u; on = into-revision y0 F0 c r u }))

  is_open : NoYield c rest → (run ss).open_by c ≡ some goes_into
  is_open n = ap (λ z. z.open_by c) ends ∙ open-on rest y1 B.1 F1 c goes_into opened n

  pub has-open : NoYield c rest → (t : ℕ) × ((run ss).open_by c ≡ some t)
  has-open n = (goes_into, is_open n)

  is-shut : Memᴰ (Yield c) rest → ShutAt (run ss) goes_into
  is-shut i = let s = shut_by rest y1 B.1 F1 c goes_into opened i in (s.0, ap (λ z. (z.transaction goes_into).closed) ends ∙ s.1)

  is_last : NoEvent c rest → (run ss).last_event c ≡ some x
  unfolding after
  is_last n = ap (λ z. z.last_event c) ends ∙ last_on rest y1 B.1 F1 c x (changed_same y0.last_event c (some x)) n

  recorded : (t : ℕ) × EnteredIn (run ss) x c r t × ((((run ss).transaction t).closed ≡ none) ↔ NoYield c rest)
  recorded = (goes_into, is-in, (λ q i. some≢none ((run ss).transaction goes_into).closed (is-shut i).1 q, λ n. ((fine_run ss A).sound.runs c goes_into (is_open n)).unshut))

  last_open : NoEvent c rest → NoYield c rest → Terminal (run ss).diagram x
  last_open n m =
      let R = (fine_run ss A).sound.runs c goes_into (is_open m) in
      subst (Terminal (run ss).diagram) (same_some (sym R.last_is ∙ is_last n)) ((made-run ss A).terminals ((run ss).transaction goes_into).revision R.out)

-- a later event of the same client
module _ (ss before middle rest : List Step) (A : Accepted ss) (c r q : ℕ) (u w : Bool) (e : ss ≡ before ++ (Event c r u ∷ (middle ++ (Event c q w ∷ rest)))) where
  abbrev first : List Step
  first = before ++ (Event c r u ∷ middle)

  abbrev y2 : Day
  y2 = run first

  abbrev z : ℕ
  z = length y2.diagram

  split : ss ≡ first ++ (Event c q w ∷ rest)
  split = e ∙ sym (append_assoc before (Event c r u ∷ middle) (Event c q w ∷ rest))

  A2 : Accepted first
  A2 = accepted_first first (Event c q w ∷ rest) (subst Accepted split A)

  B2 : AcceptedFrom y2 (Event c q w ∷ rest)
  B2 = accepted_rest first (Event c q w ∷ rest) (subst Accepted split A)

  F2 : Fine y2
  F2 = fine_run first A2

  ends2 : run ss ≡ run_from y2 (Event c q w ∷ rest)
  ends2 = ap run split ∙ run-append first (Event c q w ∷ rest)

  -- the first event's transaction
  abbrev t : ℕ
  t = goes_into first before middle A2 c r u refl

  was-in : EnteredIn y2 (length (run before).diagram) c r t
  was-in = is-in first before middle A2 c r u refl

  together : (t : ℕ) × EnteredIn (run ss) (length (run before).diagram) c r t × ((z ∈ events_of (run ss) t) ↔ NoYield c middle)
  together = (t, rw ends2 (entered_on (Event c q w ∷ rest) y2 B2 F2 (length (run before).diagram) c r t was-in), (apart, joint))
    where
      apart : z ∈ events_of (run ss) t → NoYield c middle
      apart i y =
          let s = is-shut first before middle A2 c r u refl y in
          let g : (run ss).transaction t ≡ y2.transaction t = ap (λ k. k.transaction t) ends2 ∙ shut_on (Event c q w ∷ rest) y2 B2 F2 t s.0 was-in.known s.1 in
          omega (arith, event-low y2 F2.layout F2.hold F2.sound t z was-in.known (subst (λ k. z ∈ k.events) g i))

      joint : NoYield c middle → z ∈ events_of (run ss) t
      joint n = subst (λ k. z ∈ events_of (run ss) k) (ap (enters_into y2) (is_open first before middle A2 c r u refl n)) (is-in ss first rest A c q w split).has

  can : CanEnter y2 c q
  can = can-enter y2 c q w B2.0

  grown : Older (after y2 (Event c q w)).diagram (run ss).diagram
  unfolding run_from
  grown = rw ends2 (older_from rest (after y2 (Event c q w)) B2.1)

  successive : NoEvent c middle → NoYield c middle → Edge s_sources (length (run before).diagram) z (run ss).diagram
  unfolding after
  successive n m =
      let o = is_open first before middle A2 c r u refl m in
      let R = F2.sound.runs c t o in
      let g : y2.terminal (y2.transaction t).revision ≡ (length (run before).diagram) = same_some (sym R.last_is ∙ is_last first before middle A2 c r u refl n) in
      let h : (y2.transaction t).revision ≡ q = can.same_revision t o in
      edge_older grown (newest refl (Memᴰ.head (sym g ∙ ap y2.terminal h)))

  in_sequence : HasPath (run ss).diagram (length (run before).diagram) z
  unfolding after
  in_sequence =
      let p = F2.sound.sessions.last_sees t (length (run before).diagram) was-in.known was-in.has in
      let x = length (run before).diagram in
      let caught = can.caught_up p.0 (ap y2.last_event (sym was-in.own) ∙ p.1) in
      let sees = leads_trans F2.sound.real.linked.ordered x p.0 (y2.terminal q) p.2 caught in
      path_on grown (leads_path _ x z (leads_up _ y2.diagram x (y2.terminal q) (Memᴰ.head refl) sees))

pub points : (ss : List Step) → Accepted ss → ByTransactions ss
points ss A = record {
  successive = λ before middle rest c r q u w e. successive ss before middle rest A c r q u w e;
  last_open = λ before rest c r u e. last_open ss before rest A c r u e;
  in_sequence = λ before middle rest c r q u w e i. in_sequence ss before middle rest A c r q u w e;
}

-- the theorem: a run's diagram is a witness for its events and yields
pub witness : (ss : List Step) → Accepted ss → Witness ss
unfolding run
witness ss A = record {
  recorded = λ before rest c r u e. recorded ss before rest A c r u e;
  together = λ before middle rest c r q u w e. together ss before middle rest A c r q u w e;
  yielded = λ t n p. let k = yield_from ss fresh A fine_fresh t n refl p in record { before = k.before; rest = k.rest; client = k.client; is = k.is; was_open = k.was_open; at = k.at };
  opened = λ c t.
      let S = (fine_run ss A).sound in
      (λ q. let R = S.runs c t q in (R.known, R.client, R.unshut), λ h. subst (λ k. (run ss).open_by k ≡ some t) h.1 (S.unshut t h.0 h.2));
  points = points ss A;
}
