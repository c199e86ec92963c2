-- The theorem: every run of accepted steps has one arbitration order.
use Prim.Native.Nat.{◌<◌, ℕ}
use mathlib.Core.Bool.{false}
use mathlib.Core.Path.{◌∙◌, ◌≡◌, ap, refl, subst, sym}
use mathlib.Core.Logic.{◌↔◌, ◌⊎◌, inl, inr}
use mathlib.Core.List.Memᴰ
use mathlib.Core.List.Sublistᴰ
use mathlib.Core.List.{List}
use mathlib.Core.List.{[], ◌++◌, ◌∷◌, append_assoc}
use native.Mathlib.Omega.{arith}
use lib.ListN.{length}
use Rattle.blocks.proofs.Past.{held-order}
use Rattle.diagram.proofs.Arranged.Advance.{Linked, contents, may}
use Rattle.diagram.proofs.Days.Moves.{idle-all, step-moves}
use Rattle.diagram.proofs.Days.Outside.{idle-past}
use Rattle.diagram.proofs.Days.Sound.{Sound, flat-blocks, flat-once, link, order-once}
use Rattle.diagram.proofs.Graph.Events.{own_events, view_event_step, view_events}
use Rattle.diagram.proofs.Graph.Paths.{leads_path}
use Rattle.diagram.proofs.Graph.Tables.{tabulate-newest, tabulate-older}
use Rattle.diagram.proofs.Graph.Visible.{self, view-numbers, view_paths, visible}
use Rattle.diagram.proofs.Order.Growth.{Fine, Older, busy_idle, extends, fine_fresh, older_length, view_stays, whole_of}
use Rattle.diagram.proofs.Order.Inherited.{entry_is, numbers_nodup, numbers_sub}
use Rattle.diagram.proofs.Order.Numbered.{number_event}
use Rattle.diagram.proofs.Order.Runs.{accepted_first, accepted_rest, fine_run, fine_step, numbered-run, older_from, run-append, run_step}
use Rattle.diagram.specs.Arbitration.{Explains, Extends, IsEvent, Numbered, Sees, SeesTransaction, Shows, WholeAt, events_of}
use Rattle.diagram.specs.Arbitration.{newest_is, older_is}
use Rattle.diagram.specs.Day.{Day, IsIdle, IsOut, fresh}
use Rattle.diagram.specs.Diagram.{Diagram, event}
use Rattle.diagram.specs.Effects.{entry, number, numbers}
use Rattle.diagram.specs.Views.{view}
use Rattle.diagram.specs.Steps.{Event, Step, after, next_vertex, run}
use Rattle.diagram.specs.Accepted.{Accepted, AcceptedFrom}
use Rattle.lists.proofs.Blocks.{flat_from, flat_in, flat_pair, flat_back_from, flat_back_in, same_block}
use Rattle.lists.proofs.Cases.{either}
use Rattle.lists.proofs.Sublists.{mem?, only, ∈-⊑, ⊑-⊆}
use Rattle.lists.specs.Lists.{◌∈◌, ◌⊑◌, flat}
use Rattle.lists.specs.Arranged.{flat_back}

-- the list of each revision that stays out grows
abbrev pub ExtendsEach : Day → List Step → Type 0
ExtendsEach y [] = Unit {0}
ExtendsEach y (s ∷ ss) = Extends y (after y s) × ExtendsEach (after y s) ss

-- one arbitration order for the whole run: what it explains at the end, and what was shown at any time of the run, at a query, and by a list of a
-- revision that is out and idle
pub record Arbitration (ss : List Step) : Type 0 where
  pub order : List ℕ
  pub explains : Explains (run ss) order
  pub ever : (before rest : List Step) → ss ≡ before ++ rest → (x : ℕ) → x < length (run before).diagram → Shows (run ss) order x (view (run before).diagram x)
  pub queries : (before rest : List Step) (c r : ℕ) → ss ≡ before ++ (Event c r false ∷ rest)
      → Shows (run ss) order (next_vertex before) (view (after (run before) (Event c r false)).diagram (next_vertex before))
  pub lists : (before rest : List Step) → ss ≡ before ++ rest → (r : ℕ) → IsOut (run before) r → IsIdle (run before) r
      → (t : ℕ) → t < (run before).transactions → WholeAt (run before) t ((run before).terminal r) (length (run before).diagram)
  pub grows : ExtendsEach fresh ss

grows_from : (ss : List Step) (y : Day) → Fine y → AcceptedFrom y ss → ExtendsEach y ss
grows_from [] y F A = tt
grows_from (s ∷ ss) y F A = (extends y (after y s) F (step-moves y s A.0), grows_from ss (after y s) (fine_step y s A.0 F) A.1)

-- a revision that is idle shows a transaction whole or not at all
whole_idle : (y : Day) → Fine y → (t r : ℕ) → t < y.transactions → IsOut y r → IsIdle y r → WholeAt y t (y.terminal r) (length y.diagram)
whole_idle y F t r h o b = pick (mem? (y.terminal r) (events_of y t))
  where
    low : y.terminal r < length y.diagram
    low = F.sound.real.linked.bound r

    pick : (y.terminal r ∈ events_of y t) ⊎ (y.terminal r ∈ events_of y t → ⊥) → WholeAt y t (y.terminal r) (length y.diagram)
    pick (inl i) =
        let p = idle-past y F.layout F.hold F.sound r t o (idle-all y r ((busy_idle y F r).1 b)) h i in
        inr (λ e j. leads_path y.diagram e (y.terminal r) (p.3 e j), record { at = p.0; is = p.1; soon = p.2 })
    pick (inr n) = either (whole_of y F t (y.terminal r) h low n) (λ k. inl k) (λ k. inr (k.0, record { at = k.1.at; is = k.1.is; soon = omega (arith, k.1.soon, low) }))

module _ (ss : List Step) (A : Accepted ss) (F : Fine (run ss)) where
  abbrev y : Day
  y = run ss

  abbrev d : Diagram
  d = y.diagram

  abbrev layout : List ℕ
  layout = F.layout

  abbrev hold : ℕ → List ℕ
  hold = F.hold

  S : Sound y layout hold
  S = F.sound

  L : Linked d layout y.terminal y.start_of
  L = link y layout hold S

  abbrev order : List ℕ
  order = flat_back hold layout

  complete : (t : ℕ) → (t ∈ order) ↔ (t < y.transactions)
  complete t = (λ i. let p = flat_back_from hold t layout i in S.filed.low p.0 t p.1 p.2, λ h. let p = S.filed.all t h in flat_back_in hold p.0 t layout p.1 p.2)

  -- what a vertex sees is a part of the order
  in_order : (x : ℕ) → x < length d → view_events d x ⊑ flat (events_of y) order
  in_order x h = rw (flat-blocks y layout hold S.filed) (held-order layout (contents d y.terminal) (may d y.terminal y.start_of) (view_events d x) L.inv (L.past x h))

  event-in : (x : ℕ) → IsEvent x d → (t : ℕ) × (t < y.transactions) × (x ∈ events_of y t)
  event-in x i =
      let s = self i in
      let p = flat_from (events_of y) x order (⊑-⊆ (in_order x s.0) x s.1) in
      (p.0, (complete p.0).0 p.1, p.2)

  in-event : (x t : ℕ) → t < y.transactions → x ∈ events_of y t → IsEvent x d
  in-event x t h i =
      let p = S.filed.all t h in
      let j : x ∈ own_events d (y.terminal p.0) = rw (S.filed.blocks_ok p.0 p.1) (flat_in (events_of y) t x (hold p.0) p.2 i) in
      ((view_paths L.ordered (y.terminal p.0) (L.bound p.0)).0 x j).0

  shows : (x : ℕ) → x < length d → Shows y order x (view d x)
  shows x h = record {
    seen = view_events d x;
    exactly = only (Sees y x) (in_order x h) (flat-once y layout hold S) (λ e i. ((visible L.ordered L.joins_ok e x h).0 i).1) back;
    are = (view-numbers L.ordered x h).1;
  }
    where
      back : (e : ℕ) → e ∈ flat (events_of y) order → Sees y x e → e ∈ view_events d x
      back e i p = let t = flat_from (events_of y) e order i in (visible L.ordered L.joins_ok e x h).1 (in-event e t.0 ((complete t.0).0 t.1) t.2, p)

  -- an event stands last of what it sees
  last_of : (e f : ℕ) {d : Diagram} → IsEvent f d → (e ≡ f → ⊥) → e ∈ view_events d f → (e ∷ f ∷ []) ⊑ view_events d f
  last_of e f (newest_is {p} {c} {u = k} {d} q) n i =
      let w : view_events (event p c k ∷ d) f ≡ view_events d p ++ (length d ∷ []) = ap (view_events (event p c k ∷ d)) q ∙ tabulate-newest view_event_step [] (event p c k) d in
      rw w (Sublistᴰ.append (∈-⊑ e (view_events d p) (either (Memᴰ.append_cases (view_events d p) (rw w at i)) (λ j. j) (λ j. absurd (n (Memᴰ.eq_of_singleton j ∙ sym q))))) (Sublistᴰ.cons-cons q (Sublistᴰ.refl [])))
  last_of e f (older_is {v} {d} u) n i =
      let w = tabulate-older view_event_step [] v d f (self u).0 in
      rw w (last_of e f u n (rw w at i))

  after_seen : (s t : ℕ) → s < y.transactions → t < y.transactions → (s ≡ t → ⊥) → SeesTransaction y t s → (s ∷ t ∷ []) ⊑ order
  after_seen s t hs ht n T =
      let fe : IsEvent T.later d = in-event T.later t ht T.later_in in
      let ee : IsEvent T.earlier d = in-event T.earlier s hs T.earlier_in in
      let low : T.later < length d = (self fe).0 in
      let i : T.earlier ∈ view_events d T.later = (visible L.ordered L.joins_ok T.earlier T.later low).1 (ee, T.path) in
      flat_pair (events_of y) order s t T.earlier T.later (flat-once y layout hold S) ((complete s).1 hs) ((complete t).1 ht) n T.earlier_in T.later_in (Sublistᴰ.trans (last_of T.earlier T.later fe differ i) (in_order T.later low))
    where
      differ : T.earlier ≡ T.later → ⊥
      differ e = n (both (S.filed.all s hs) (S.filed.all t ht))
        where
          both : (x : ℕ) × (x ∈ layout) × (s ∈ hold x) → (x : ℕ) × (x ∈ layout) × (t ∈ hold x) → s ≡ t
          both a b = same_block (events_of y) order (flat-once y layout hold S) s t T.later ((complete s).1 hs) ((complete t).1 ht) (subst (λ z. z ∈ events_of y s) e T.earlier_in) T.later_in

  -- what a vertex showed at any time of the run
  ever : (before rest : List Step) → ss ≡ before ++ rest → (x : ℕ) → x < length (run before).diagram → Shows y order x (view (run before).diagram x)
  ever before rest e x h =
      let o : Older (run before).diagram d = subst (λ z. Older (run before).diagram z.diagram) (sym (ap run e ∙ run-append before rest)) (older_from rest (run before) (accepted_rest before rest (subst Accepted e A))) in
      subst (λ z. Shows y order x z) (view_stays o x h) (shows x (omega (arith, older_length o)))

  queries : (before rest : List Step) (c r : ℕ) → ss ≡ before ++ (Event c r false ∷ rest)
      → Shows y order (length (run before).diagram) (view (after (run before) (Event c r false)).diagram (length (run before).diagram))
  unfolding after
  queries before rest c r e =
      let q : run (before ++ (Event c r false ∷ [])) ≡ after (run before) (Event c r false) = run_step before (Event c r false) in
      let w : ss ≡ (before ++ (Event c r false ∷ [])) ++ rest = e ∙ sym (append_assoc before (Event c r false ∷ []) rest) in
      let k : length (run before).diagram < length (after (run before) (Event c r false)).diagram = omega arith in
      subst (λ z. Shows y order (length (run before).diagram) (view z.diagram (length (run before).diagram))) q
      (ever (before ++ (Event c r false ∷ [])) rest w (length (run before).diagram) (subst (λ z. length (run before).diagram < length z.diagram) (sym q) k))

  lists : (before rest : List Step) → ss ≡ before ++ rest → (r : ℕ) → IsOut (run before) r → IsIdle (run before) r
      → (t : ℕ) → t < (run before).transactions → WholeAt (run before) t ((run before).terminal r) (length (run before).diagram)
  lists before rest e r o b t h = whole_idle (run before) (fine_run before (accepted_first before rest (subst Accepted e A))) t r h o b

  numbered : Numbered d y.updates
  numbered = numbered-run ss A

  updates_all : (n : ℕ) → (n ∈ numbers d (flat (events_of y) order)) ↔ (n < y.updates)
  updates_all n = (
    λ i. let e = flat_from (λ e. entry (number d e)) n (flat (events_of y) order) i in numbered.low e.0 n (entry_is (number d e.0) n e.2),
    λ h.
        let e = numbered.all n h in
        let t = event-in e.0 (number_event d e.0 n e.1) in
        flat_in (λ e. entry (number d e)) e.0 n (flat (events_of y) order) (flat_in (events_of y) t.0 e.0 order ((complete t.0).1 t.1) t.2) (rw e.1 (Memᴰ.head refl)),
  )

  pub arbitrated : Arbitration ss
  arbitrated = record {
    order = order;
    explains = record {
      once = order-once y layout hold S;
      complete = complete;
      entered = λ x. (event-in x, λ p. in-event x p.0 p.1 p.2);
      one_each = flat-once y layout hold S;
      numbered = numbered;
      updates_once = numbers_nodup d y.updates (flat (events_of y) order) numbered (flat-once y layout hold S);
      updates_all = updates_all;
      after_seen = after_seen;
      visible = λ r o. shows (y.terminal r) (S.real.linked.bound r);
      in_order = λ r o. let h = S.real.linked.bound r in subst (λ z. z ⊑ numbers d (flat (events_of y) order)) (sym (view-numbers L.ordered (y.terminal r) h).1) (numbers_sub d (in_order (y.terminal r) h));
      whole = whole_of y F;
      sessions = λ s t e f l h q i j. leads_path d e f (S.sessions.later s t e f l h q i j);
    };
    ever = ever;
    queries = queries;
    lists = lists;
    grows = grows_from ss fresh fine_fresh A;
  }

-- the theorem: every run of accepted steps has one arbitration order
pub arbitration : (ss : List Step) → Accepted ss → Arbitration ss
arbitration ss A = arbitrated ss A (fine_run ss A)
