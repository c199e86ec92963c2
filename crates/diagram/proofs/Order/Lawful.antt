-- The theorem: a step is accepted exactly if it is within the limits and the run that ends with it is lawful.
use Prim.Native.Nat.{◌<◌, ℕ}
use mathlib.Core.Bool.{Bool, ◌&&◌, ◌||◌, false, false≢true, not, true, true≢false}
use mathlib.Core.Path.{◌∙◌, ◌≡◌, ap, refl, subst, sym}
use mathlib.Core.Logic.{◌↔◌}
use mathlib.Core.Option.{Option, none, some}
use mathlib.Core.List.Memᴰ
use mathlib.Core.List.{List, Memᴰ, [], ◌++◌, ◌∷◌, append_assoc}
use native.Mathlib.Omega.{arith}
use lib.ListN.{length}
use lib.Dec.{eqb}
use borrow.Author.Tests.{eqb-false, eqb-true, ltb-false, ltb-true, not-false, not-true}
use Rattle.diagram.proofs.Days.Accepting.{accept-drop, accept-event, accept-fork, accept-join, accept-yield, event-tests, ruled_out}
use Rattle.diagram.proofs.Days.Marking.{Marks, in_use, is-marked, named-is, none≢name}
use Rattle.diagram.proofs.Days.Moves.{can-drop, can-enter, can-fork, can-join, can-yield}
use Rattle.diagram.proofs.Days.Sound.{same_some}
use Rattle.diagram.proofs.Graph.Paths.{Ordered, edge_bounds, leads_down, leads-self, one_more, path_leads}
use Rattle.diagram.proofs.Order.Constructed.{Made, apart, edge_any, joinable_iff, made-run, s_any}
use Rattle.diagram.proofs.Order.Gone.{dropped-run, gone_run}
use Rattle.diagram.proofs.Order.Growth.{Fine}
use Rattle.diagram.proofs.Order.Latest.{Latest, latest, no_yield_since}
use Rattle.diagram.proofs.Order.Runs.{accepted_first, accepted-more, accepted_rest, fine_run, marks-run, run_step}
use Rattle.diagram.proofs.Order.Witness.{has-open, points}
use Rattle.diagram.specs.Checks.{bad_name, busy, busy_by_other, is_on, log_full, marked, missing, none_left, open_elsewhere, stale, unknown_client, is_some}
use Rattle.diagram.specs.Construction.{Constructed, Joinable, entered, forked, joined}
use Rattle.diagram.specs.Day.{Day, IsOut, fresh, is_named, mark_named}
use Rattle.diagram.specs.Diagram.{Diagram, Edge, HasPath, Terminal, Vertex, event, fork, join, newest, older, s_sources, start}
use Rattle.diagram.specs.Leads.{leads}
use Rattle.diagram.specs.Lawful.{EachMayFollow, GoodName, Lawful, Marked, MayFollow, There, Unmarked, Within}
use Rattle.diagram.specs.Sizes.{client_limit, revision_limit, update_limit}
use Rattle.diagram.specs.Steps.{Drop, Event, Fork, Join, Step, Yield, after, new_update, run, run_from}
use Rattle.diagram.specs.Accepted.{Accepted, AcceptedFrom, RunsExactly, TakenExactly, YieldsLawful, accepted, misnamed, not_given}
use Rattle.diagram.specs.Witness.{NoEvent, NoYield}
use Rattle.lists.proofs.Cases.{cases, either, or-false}
use Rattle.lists.proofs.Names.{four-letters}
use Rattle.lists.proofs.Sums.{any_never}
use Rattle.lists.specs.Names.{Name, four_letters}
use Rattle.lists.specs.Letters.{FourLetters}

-- Definition 6, read backwards: the newest vertices were put at terminals
entered_at : {t c : ℕ} {u : Option ℕ} {d : Diagram} → Constructed (event t c u ∷ d) → Terminal d t
entered_at (entered K T c u) = T

forked_at : {n t : ℕ} {d : Diagram} → Constructed (start n ∷ fork t ∷ d) → Terminal d t
forked_at (forked K T) = T

joined_at : {t q : ℕ} {d : Diagram} → Constructed (join t q ∷ d) → Terminal d t × Terminal d q × Joinable d t q
joined_at (joined K T U J) = (T, U, J)

-- an s-edge to the newest vertex is one of its own
s_edge_in : {v : Vertex} {d : Diagram} {x z : ℕ} → Ordered d → z ≡ length d → Edge s_sources x z (v ∷ d) → Memᴰ x (s_sources v)
s_edge_in o q (newest e i) = i
s_edge_in o q (older e) = absurd (omega (arith, edge_bounds o (edge_any s_any e)))

not_full : (y : Day) (u : Bool) → (u ≡ true → y.updates < update_limit) → (u && log_full y) ≡ false
unfolding log_full
not_full y true h = ruled_out (log_full y) (λ q. let l = ltb-false _ update_limit (not-true _ q) in let k = h refl in omega arith)
not_full y false h = refl

is-given : (y : Day) (r : ℕ) → r < y.revisions → not_given y r ≡ false
is-given y r h = ruled_out (not_given y r) (λ q. let l = ltb-false _ y.revisions (not-true _ q) in omega arith)

is-client : (c : ℕ) → c < client_limit → unknown_client c ≡ false
unfolding unknown_client
is-client c h = ruled_out (unknown_client c) (λ q. let l = ltb-false _ client_limit (not-true _ q) in omega arith)

-- 02, U9: the tests of marks and names
not-marked : (ss : List Step) (r : ℕ) → (marked (run ss) r ≡ false) ↔ Unmarked ss r
unfolding marked
not-marked ss r = (is_none ((run ss).mark r), λ e. rw e)
  where
    is_none : (o : Option Name) → is_some o ≡ false → o ≡ none
    is_none none e = refl
    is_none (some n) e = absurd (true≢false e)

pub has_mark : (ss : List Step) (r : ℕ) → marked (run ss) r ≡ true → Marked ss r
unfolding marked
has_mark ss r = by ((run ss).mark r)
  where
    by : (o : Option Name) → is_some o ≡ true → (n : Name) × (o ≡ some n)
    by none q = absurd (false≢true q)
    by (some n) q = (n, refl)

good_name : (ss : List Step) → Marks (run ss) → (name : Option Name) → (misnamed (run ss) name ≡ false) ↔ GoodName ss name
unfolding bad_name
good_name ss K none = (λ e n q. absurd (none≢name q), λ g. refl)
good_name ss K (some n) = (there, back)
  where
    y : Day
    y = run ss

    there : (not (four_letters n) || is_named y n) ≡ false → GoodName ss (some n)
    there e m q =
        let p = or-false (not (four_letters n)) _ e in
        let z : n ≡ m = cc in
        (subst FourLetters z ((four-letters n).0 (not-false _ p.0)), λ r h. false≢true (sym p.1 ∙ in_use y K n r (h ∙ ap some (sym z))))

    back : GoodName ss (some n) → (not (four_letters n) || is_named y n) ≡ false
    back g = rw ((four-letters n).1 (g n refl).0) (ruled_out (is_named y n) (λ q. (g n refl).1 (mark_named y n) (named-is y n q)))

-- after a run of accepted steps
module _ (ss : List Step) (A : Accepted ss) where
  abbrev y : Day
  y = run ss

  abbrev d : Diagram
  d = y.diagram

  F : Fine y
  F = fine_run ss A

  M : Made y
  M = made-run ss A

  ordered : Ordered d
  ordered = F.sound.real.linked.ordered

  K : Marks y
  K = marks-run ss A

  -- code 4: what is put at the terminal of a revision that was not dropped is put at one that is out
  not-joined : (r : ℕ) → There ss r → Terminal d (y.terminal r) → y.joined r ≡ false
  not-joined r W T = cases (y.joined r) (λ e. either (gone_run ss A r e) (λ k. absurd (T.no_j k.0 k.1)) (λ i. absurd (W.1 i))) (λ e. e)

  -- and what is out was not dropped
  is-there : (r : ℕ) → IsOut y r → There ss r
  is-there r o = (o.0, λ i. false≢true (sym o.1 ∙ dropped-run ss A r i))

  -- a run one step longer, seen from client c's last event
  split : {c l : ℕ} (K : Latest fresh ss c l) (s : Step) → ss ++ (s ∷ []) ≡ K.before ++ (Event c K.revision K.update ∷ (K.rest ++ (s ∷ [])))
  split {c} K s = ap (λ z. z ++ (s ∷ [])) K.is ∙ append_assoc K.before (Event c K.revision K.update ∷ K.rest) (s ∷ [])

  -- what relates the last event to the new one, by their vertices
  moved : (P : Diagram → ℕ → ℕ → Type 0) {c l : ℕ} (K : Latest fresh ss c l) (s : Step)
      → P (run (ss ++ (s ∷ []))).diagram (length (run K.before).diagram) (length (run (K.before ++ (Event c K.revision K.update ∷ K.rest))).diagram) → P (after y s).diagram l (length d)
  unfolding run
  moved P {c} {l} K s p =
      subst (λ z. P z.diagram l (length d)) (run_step ss s)
      (subst (λ z. P (run (ss ++ (s ∷ []))).diagram z (length d)) (sym K.at) (subst (λ z. P (run (ss ++ (s ∷ []))).diagram (length (run K.before).diagram) (length (run z).diagram)) (sym K.is) p))

  -- a step that is lawful
  module _ (s : Step) (L : Lawful (ss ++ (s ∷ []))) where
    made : Constructed (after y s).diagram
    made = subst (λ z. Constructed z.diagram) (run_step ss s) L.constructed

    -- point 3: where a transaction is open and its client does nothing, its last event is still a terminal
    still : (c t : ℕ) → y.open_by c ≡ some t → NoEvent c (s ∷ []) → NoYield c (s ∷ []) → Terminal (after y s).diagram (y.terminal (y.transaction t).revision)
    unfolding run
    still c t q n m =
        let l = y.terminal (y.transaction t).revision in
        let K = latest ss c l (F.sound.runs c t q).last_is in
        let no_event : NoEvent c (K.rest ++ (s ∷ [])) = λ r u i. either (Memᴰ.append_cases K.rest i) (λ j. K.no_later r u j) (λ j. n r u j) in
        let no-yield : NoYield c (K.rest ++ (s ∷ [])) = λ i. either (Memᴰ.append_cases K.rest i) (no_yield_since ss c l t K q) m in
        let T = L.transacted.last_open K.before (K.rest ++ (s ∷ [])) c K.revision K.update (split K s) no_event no-yield in
        subst (λ z. Terminal z.diagram l) (run_step ss s) (subst (Terminal (run (ss ++ (s ∷ []))).diagram) (sym K.at) T)

    -- code 7: a step that takes a terminal away leaves no transaction of others open there
    idle : (r : ℕ) → (Terminal (after y s).diagram (y.terminal r) → ⊥) → (o : ℕ) → NoEvent o (s ∷ []) → NoYield o (s ∷ []) → is_on y (y.open_by o) r ≡ false
    idle r taken o n m = by (y.open_by o) refl
      where
        by : (p : Option ℕ) → y.open_by o ≡ p → is_on y p r ≡ false
        by none q = refl
        by (some t) q = cases (eqb (y.transaction t).revision r) (λ e. absurd (taken (subst (λ z. Terminal (after y s).diagram (y.terminal z)) (eqb-true _ r e) (still o t q n m)))) (λ e. e)

    not-busy : ((o q : ℕ) (w : Bool) → Event o q w ≡ s → ⊥) → ((o : ℕ) → Yield o ≡ s → ⊥) → (r : ℕ) → (Terminal (after y s).diagram (y.terminal r) → ⊥) → busy y r ≡ false
    unfolding busy
    not-busy n m r taken = any_never client_limit _ (λ o h. idle r taken o (λ q w i. n o q w (Memᴰ.eq_of_singleton i)) (λ i. m o (Memᴰ.eq_of_singleton i)))

  module _ (c r : ℕ) (u : Bool) (L : Lawful (ss ++ (Event c r u ∷ []))) where
    -- point 2: in an open transaction the event follows the last one
    follows : (t : ℕ) → y.open_by c ≡ some t → y.terminal (y.transaction t).revision ≡ y.terminal r
    unfolding after
    follows t q =
        let l = y.terminal (y.transaction t).revision in
        let K = latest ss c l (F.sound.runs c t q).last_is in
        let E = L.transacted.successive K.before K.rest [] c K.revision r K.update u (split K (Event c r u)) K.no_later (no_yield_since ss c l t K q) in
        Memᴰ.eq_of_singleton (s_edge_in ordered refl (moved (λ e x z. Edge s_sources x z e) K (Event c r u) E))

    -- code 6
    not-elsewhere : r < y.revisions → open_elsewhere y c r ≡ false
    unfolding open_elsewhere
    not-elsewhere h = by (y.open_by c) refl
      where
        by : (p : Option ℕ) → y.open_by c ≡ p → (is_some p && not (is_on y p r)) ≡ false
        by none q = refl
        by (some t) q =
            cases (eqb (y.transaction t).revision r)
            (λ e. rw e)
            (λ e. absurd (apart y F M (y.transaction t).revision r (F.sound.runs c t q).out.0 h (eqb-false _ r e) (Memᴰ.head (follows t q))))

    -- code 7
    no_other : busy_by_other y c r ≡ false
    unfolding busy_by_other after
    no_other = any_never client_limit _ each
      where
        each : (o : ℕ) → o < client_limit → (not (eqb o c) && is_on y (y.open_by o) r) ≡ false
        each o h =
            cases (eqb o c)
            (λ e. rw e)
            (λ e. rw e (idle (Event c r u) L r (λ T. T.no_s (length d) (newest refl (Memᴰ.head refl))) o (by-other e) no-yield))
          where
            by-other : eqb o c ≡ false → NoEvent o (Event c r u ∷ [])
            by-other e q w i =
                let p = Memᴰ.eq_of_singleton i in
                let z : o ≡ c = cc in
                eqb-false o c e z

            no-yield : NoYield o (Event c r u ∷ [])
            no-yield i =
                let p = Memᴰ.eq_of_singleton i in
                let z : ◌≡◌ {A = ℕ} 0 1 = cc in
                omega arith

    -- point 4: after a yield a path leads from the last event
    reached : (l : ℕ) → l < length d → (K : Latest fresh ss c l) → Memᴰ (Yield c) K.rest → leads d l (y.terminal r) ≡ true
    unfolding after
    reached l h K i =
        let P = L.transacted.in_sequence K.before K.rest [] c K.revision r K.update u (split K (Event c r u)) i in
        let n = newer (moved (λ e x z. HasPath e x z) K (Event c r u) P) in
        subst (λ z. leads d l z ≡ true) (Memᴰ.eq_of_singleton n.1) n.2
      where
        newer : HasPath (event (y.terminal r) c (new_update y u) ∷ d) l (length d) → (p : ℕ) × Memᴰ p (y.terminal r ∷ []) × (leads d l p ≡ true)
        newer P = leads_down (event (y.terminal r) c (new_update y u)) d l h (path_leads (one_more {v = event (y.terminal r) c (new_update y u)} {d = d} (λ p i. rw (Memᴰ.eq_of_singleton i) (F.sound.real.linked.bound r)) ordered) P)

    -- code 8
    not-stale : stale y c r ≡ false
    unfolding stale
    not-stale = by (y.last_event c) refl
      where
        by : (p : Option ℕ) → y.last_event c ≡ p → missing d p (y.terminal r) ≡ false
        by none q = refl
        by (some l) q = cases (leads d l (y.terminal r)) (λ e. rw e) (λ e. absurd (never e))
          where
            low : l < length d
            low = F.sound.sessions.last_low c l q

            K : Latest fresh ss c l
            K = latest ss c l q

            never : leads d l (y.terminal r) ≡ false → ⊥
            never e =
                let t = has-open ss K.before K.rest A c K.revision K.update K.is (λ i. false≢true (sym e ∙ reached l low K i)) in
                let g : l ≡ y.terminal r = same_some (sym q ∙ (F.sound.runs c t.0 t.1).last_is) ∙ follows t.0 t.1 in
                false≢true (sym e ∙ subst (λ z. leads d l z ≡ true) g (leads-self d l low))

    accept-lawful-event : Within ss (Event c r u) → accepted y (Event c r u) ≡ true
    unfolding after
    accept-lawful-event W =
        accept-event y c r u (is-client c W.0) (is-given y r W.1.0) (not-joined r W.1 (entered_at (made (Event c r u) L))) ((not-marked ss r).1 W.2)
        (not-elsewhere W.1.0) no_other not-stale (not_full y u W.3)

  accept-lawful-fork : (r : ℕ) (name : Option Name) → Lawful (ss ++ (Fork r name ∷ [])) → Within ss (Fork r name) → accepted y (Fork r name) ≡ true
  unfolding after none_left
  accept-lawful-fork r name L W =
      accept-fork y r name (is-given y r W.0.0) (not-joined r W.0 (forked_at (made (Fork r name) L)))
      (not-busy (Fork r name) L (λ o q w e. let z : ◌≡◌ {A = ℕ} 0 1 = cc in omega arith) (λ o e. let z : ◌≡◌ {A = ℕ} 0 1 = cc in omega arith)
      r (λ T. T.no_s (length d) (older (newest refl (Memᴰ.head refl)))))
      (ruled_out (none_left y) (λ q. let l = ltb-false _ revision_limit (not-true _ q) in let k = W.1 in omega arith))
      ((good_name ss K name).1 W.2)

  accept-lawful-join : (a b : ℕ) → Lawful (ss ++ (Join a b ∷ [])) → Within ss (Join a b) → accepted y (Join a b) ≡ true
  unfolding after
  accept-lawful-join a b L W =
      let m = joined_at (made (Join a b) L) in
      let oa = not-joined a W.0 m.0 in
      let ob = not-joined b W.1 m.1 in
      let free = not-busy (Join a b) L (λ o q w e. let z : ◌≡◌ {A = ℕ} 0 1 = cc in omega arith) (λ o e. let z : ◌≡◌ {A = ℕ} 0 1 = cc in omega arith) in
      accept-join y a b (is-given y a W.0.0) (is-given y b W.1.0) oa ob ((not-marked ss a).1 W.2) ((not-marked ss b).1 W.3)
      (free a (λ T. T.no_s (length d) (newest refl (Memᴰ.head refl))))
      (free b (λ T. T.no_j (length d) (newest refl (Memᴰ.head refl))))
      ((joinable_iff ss A a b (W.0.0, oa) (W.1.0, ob)).1 m.2)

  -- a mark is out
  accept-lawful-drop : (r : ℕ) → Within ss (Drop r) → accepted y (Drop r) ≡ true
  accept-lawful-drop r W =
      let m = is-marked y r W.0 W.1 in
      let o = K.out r m in
      accept-drop y r (is-given y r o.0) o.1 m

  accepts : (s : Step) → MayFollow ss s → accepted y s ≡ true
  accepts (Event c r u) (W, L) = accept-lawful-event c r u L W
  accepts (Yield c) (W, L) = accept-yield y c (is-client c W)
  accepts (Fork r name) (W, L) = accept-lawful-fork r name L W
  accepts (Join a b) (W, L) = accept-lawful-join a b L W
  accepts (Drop r) (W, L) = accept-lawful-drop r W

  -- and back: an accepted step is within the limits, and its run is lawful
  within : (s : Step) → accepted y s ≡ true → Within ss s
  unfolding log_full none_left
  within (Event c r u) e =
      let E = can-enter y c r u e in
      let full : (u ≡ true) → y.updates < update_limit = λ q.
      let f : log_full y ≡ false = rw q at (event-tests y c r u e).6 in
      let l = ltb-true _ update_limit (not-false _ f) in
      omega arith in
      (E.client_ok, is-there r E.out, (not-marked ss r).0 E.unmarked, full)
  within (Yield c) e = can-yield y c e
  within (Fork r name) e = let C = can-fork y r name e in (is-there r C.out, C.room, (good_name ss K name).0 C.name_ok)
  within (Join a b) e =
      let H = can-join y a b e in
      (is-there a H.out_a, is-there b H.out_b, (not-marked ss a).0 H.unmarked_a, (not-marked ss b).0 H.unmarked_b)
  within (Drop r) e = has_mark ss r (can-drop y r e).is_mark

  allowed : (s : Step) → accepted y s ≡ true → MayFollow ss s
  allowed s e = let B = accepted-more ss s A e in (within s e, record { constructed = (made-run (ss ++ (s ∷ [])) B).constructed; transacted = points (ss ++ (s ∷ [])) B })

-- the theorem: a step is accepted exactly if 002's rules and the limits of 01 and 02 allow it
pub taken_exactly : TakenExactly
taken_exactly ss A s = (allowed ss A s, accepts ss A s)

pub yields_lawful : YieldsLawful
yields_lawful ss A c h = ((taken_exactly ss A (Yield c)).0 (accept-yield (run ss) c (is-client c h))).1

accepted-along : (before rest : List Step) → Accepted before → EachMayFollow (before ++ rest) → AcceptedFrom (run before) rest
accepted-along before [] A E = tt
accepted-along before (s ∷ rest) A E =
    let a = (taken_exactly before A s).1 (E before rest s refl) in
    let e = append_assoc before (s ∷ []) rest in
    (a, subst (λ z. AcceptedFrom z rest) (run_step before s) (accepted-along (before ++ (s ∷ [])) rest (accepted-more before s A a) (subst EachMayFollow (sym e) E)))

-- and so of whole runs
pub runs_exactly : RunsExactly
unfolding run run_from
runs_exactly ss = (
  λ A before rest s e. let B = subst Accepted e A in (taken_exactly before (accepted_first before (s ∷ rest) B) s).0 (accepted_rest before (s ∷ rest) B).0,
  λ E. accepted-along [] ss tt E,
)
