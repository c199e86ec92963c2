-- 02, U8: a sync's fork is accepted where its join is; and on single-main days what was on a revision before its sync is visible to every revision
-- that starts with the sync or later.
use Prim.Native.Nat.{◌<◌, ◌≤◌, ℕ}
use mathlib.Core.Bool.{Bool, true, false}
use mathlib.Core.Path.{◌∙◌, ◌≡◌, ap, refl, subst, sym}
use mathlib.Core.Option.{Option, none, some}
use mathlib.Core.List.Memᴰ
use mathlib.Core.List.{List, Memᴰ, [], ◌++◌, ◌∷◌, append_assoc}
use native.Mathlib.Omega.{arith}
use lib.ListN.{length}
use lib.Dec.{eqb}
use borrow.Author.Tests.{eqb-true, lt-ltb, ne_eqb}
use Rattle.lists.specs.Lists.{changed}
use Rattle.lists.proofs.Cases.{cases}
use Rattle.lists.proofs.Changed.{changed_at, changed-other, changed_same}
use Rattle.lists.proofs.Sums.{any_never, any_same}
use Rattle.lists.specs.Names.{Name}
use Rattle.diagram.specs.Sizes.{client_limit, revision_limit}
use Rattle.diagram.specs.Diagram.{Diagram, Edge, HasPath, Vertex, event, fork, go, join, newest, older, s_sources, sources, stay}
use Rattle.diagram.specs.RootPaths.{Trail, alone, onward}
use Rattle.diagram.specs.Day.{Day, IsOut, fresh, is_named, out_count}
use Rattle.diagram.specs.Checks.{busy, is_on, none_left}
use Rattle.diagram.specs.Steps.{Drop, Event, Fork, Join, Step, Yield, after, enter, join_into, new_update, next_vertex, run, run_from, yield}
use Rattle.diagram.specs.Accepted.{Accepted, AcceptedFrom, accepted}
use Rattle.diagram.specs.Single.{VisibleTo}
use Rattle.diagram.proofs.Graph.Paths.{path_bound, path_older, path_trans}
use Rattle.diagram.proofs.Days.Accepting.{accept-fork, join-tests}
use Rattle.diagram.proofs.Days.Dropping.{not_main}
use Rattle.diagram.proofs.Days.Moves.{Moves, can-enter, can-join, drops_of, enters, forks_at, joins_into, not_last, step-moves, yields}
use Rattle.diagram.proofs.Days.Naming.{join-count}
use Rattle.diagram.proofs.Order.Growth.{Fine, Older, fine_fresh, next, older_moves, same}
use Rattle.diagram.proofs.Order.Runs.{accepted_first, accepted_rest, along, fine_run, fine_step, named-run, run-append, stays_there}
use Rattle.diagram.proofs.Order.Rules.{by_rules}
use Rattle.diagram.proofs.Order.Since.{seen}

-- on a single-main day "boxes only ever come from the main box and go back to it". The choice bars steps and changes none, so that the day of
-- revisions does not keep it: the plain day does. U9: "Single-main days have no marks"
abbrev pub OnLine : Step → Type 0
OnLine (Event c r u) = Unit {0}
OnLine (Yield c) = Unit {0}
OnLine (Fork r name) = (r ≡ 0) × (name ≡ none)
OnLine (Join a b) = a ≡ 0
OnLine (Drop r) = Unit {0}

abbrev pub SingleMain : List Step → Type 0
SingleMain [] = Unit {0}
SingleMain (s ∷ ss) = OnLine s × SingleMain ss

-- "joins it into box 0, then forks box 0"
abbrev pub sync : ℕ → List Step
sync b = Join 0 b ∷ Fork 0 none ∷ []

-- an event on b, entered after the steps `early`, and later a sync of b
abbrev pub SyncsAreSeen : List Step → Type 0
SyncsAreSeen ss =
    (early middle rest : List Step) (c b : ℕ) (u : Bool) → ss ≡ early ++ (Event c b u ∷ (middle ++ (sync b ++ rest)))
    → (r : ℕ) → (run (early ++ (Event c b u ∷ middle))).revisions ≤ r → r < (run ss).revisions → VisibleTo (run ss) r (next_vertex early)

no_marks_from : (ss : List Step) (y : Day) → SingleMain ss → ((r : ℕ) → y.mark r ≡ none) → (r : ℕ) → (run_from y ss).mark r ≡ none
unfolding run_from after
no_marks_from [] y S n = n
no_marks_from (Event c r u ∷ ss) y S n = no_marks_from ss (after y (Event c r u)) S.1 n
no_marks_from (Yield c ∷ ss) y S n = no_marks_from ss (after y (Yield c)) S.1 (by (y.open_by c))
  where
    by : (q : Option ℕ) (r : ℕ) → (yield y c q).mark r ≡ none
    by none = n
    by (some t) = n
no_marks_from (Fork r name ∷ ss) y S n =
    no_marks_from ss (after y (Fork r name)) S.1 (λ s. changed_at (λ o. o ≡ none) y.mark y.revisions name s (n s) S.0.1)
no_marks_from (Join a b ∷ ss) y S n = no_marks_from ss (after y (Join a b)) S.1 n
no_marks_from (Drop r ∷ ss) y S n = no_marks_from ss (after y (Drop r)) S.1 (λ s. changed_at (λ o. o ≡ none) y.mark r none s (n s) refl)

no_marks : (ss : List Step) → SingleMain ss → (r : ℕ) → (run ss).mark r ≡ none
unfolding run
no_marks ss S = no_marks_from ss fresh S (λ r. refl)

-- so every drop gives 18
pub none_named : (ss : List Step) → SingleMain ss → (n : Name) → is_named (run ss) n ≡ false
unfolding is_named
none_named ss S n = any_never (run ss).revisions _ (λ r l. rw (no_marks ss S r))

-- the main revision stays out
main_moves : (y z : Day) → Fine y → IsOut y 0 → Moves y z → IsOut z 0
main_moves y z F o (enters c r u E) = o
main_moves y z F o (yields c l) = by (y.open_by c)
  where
    by : (q : Option ℕ) → IsOut (yield y c q) 0
    by none = o
    by (some t) = o
main_moves y z F o (forks_at r name C) = (omega (arith, o.0), changed-other y.joined y.revisions false 0 (λ e. omega (arith, o.0)) ∙ o.1)
main_moves y z F o (joins_into a b H) = (o.0, changed-other y.joined b true 0 (λ e. H.not_main (sym e)) ∙ o.1)
main_moves y z F o (drops_of r D) =
    (o.0, changed-other y.joined r true 0 (λ e. not_main y F.layout F.hold F.sound r D.is_mark (sym e)) ∙ o.1)

pub main-run : (ss : List Step) → Accepted ss → IsOut (run ss) 0
unfolding run
main-run ss A =
    (along (λ y. Fine y × IsOut y 0) (λ y s e P. (fine_step y s e P.0, main_moves y (after y s) P.0 P.1 (step-moves y s e))) ss fresh A
    (fine_fresh, (omega arith, refl))).1

-- a join leaves the main revision idle
still_idle : (y : Day) (b : ℕ) → busy y 0 ≡ false → busy (join_into y 0 b) 0 ≡ false
unfolding busy
still_idle y b z = any_same client_limit _ _ (λ o l. by (y.open_by o)) ∙ z
  where
    by : (q : Option ℕ) → is_on (join_into y 0 b) q 0 ≡ is_on y q 0
    by none = refl
    by (some t) = refl

-- "sync never meets 10", on any day
pub syncs_go_on : (ss : List Step) → Accepted ss → (b : ℕ) → accepted (run ss) (Join 0 b) ≡ true → accepted (after (run ss) (Join 0 b)) (Fork 0 none) ≡ true
unfolding after none_left
syncs_go_on ss A b e =
    let y = run ss in
    let N = named-run ss A in
    let H = can-join y 0 b e in
    let t = join-tests y 0 b e in
    let c = join-count y N 0 b H in
    let a = N.counted in
    let f = N.few in
    accept-fork (join_into y 0 b) 0 none
    (rw (lt-ltb 0 y.revisions H.out_a.0))
    (rw (ne_eqb 0 b (λ q. H.not_main (sym q))) t.0)
    (still_idle y b t.4)
    (rw (lt-ltb (out_count (join_into y 0 b)) revision_limit (omega arith)))
    refl

-- paths stay
grown_path : {d e : Diagram} {x y : ℕ} → Older d e → HasPath d x y → HasPath e x y
grown_path same p = p
grown_path (next o) p = path_older (grown_path o p)

-- along a revision's own edges
s_edge : {x y : ℕ} {d : Diagram} → Edge s_sources x y d → Edge sources x y d
s_edge (newest e i) = newest e (Memᴰ.append_left _ (Memᴰ.append_left _ i))
s_edge (older e) = older (s_edge e)

trail_path : {d : Diagram} {a x : ℕ} {xs : List ℕ} → Trail d s_sources a x xs → HasPath d a x
trail_path (alone h) = stay refl h
trail_path (onward t e) = go (trail_path t) (s_edge e)

-- a terminal moves on from itself
module _ (d : Diagram) (v : Vertex) (terminal : ℕ → ℕ) (low : (x : ℕ) → terminal x < length d) (r : ℕ) (from : Memᴰ (terminal r) (sources v)) where
  moved : (x : ℕ) → HasPath (v ∷ d) (terminal x) (changed terminal r (length d) x)
  moved x =
      cases (eqb x r)
      (λ e. rw (e, eqb-true x r e) (go (stay refl (omega (arith, low r))) (newest refl from)))
      (λ e. rw e (stay refl (omega (arith, low x))))

terminal_moves : (y z : Day) → Fine y → Moves y z → (b : ℕ) → b < y.revisions → HasPath z.diagram (y.terminal b) (z.terminal b)
terminal_moves y z F (enters c r u E) b l = moved y.diagram (event (y.terminal r) c (new_update y u)) y.terminal F.sound.real.linked.bound r (Memᴰ.head refl) b
terminal_moves y z F (yields c h) b l = by (y.open_by c)
  where
    by : (q : Option ℕ) → HasPath (yield y c q).diagram (y.terminal b) ((yield y c q).terminal b)
    by none = stay refl (F.sound.real.linked.bound b)
    by (some t) = stay refl (F.sound.real.linked.bound b)
terminal_moves y z F (forks_at r name N) b l =
    rw (ne_eqb b y.revisions (λ e. omega arith))
    (path_older (moved y.diagram (fork (y.terminal r)) y.terminal F.sound.real.linked.bound r (Memᴰ.head refl) b))
terminal_moves y z F (joins_into a c H) b l = moved y.diagram (join (y.terminal a) (y.terminal c)) y.terminal F.sound.real.linked.bound a (Memᴰ.head refl) b
terminal_moves y z F (drops_of r D) b l = stay refl (F.sound.real.linked.bound b)

-- what a terminal sees it goes on seeing
sees_on : (e b : ℕ) (y z : Day) → Fine y → Moves y z → b < y.revisions → HasPath y.diagram e (y.terminal b) → HasPath z.diagram e (z.terminal b)
sees_on e b y z F M l p = path_trans (grown_path (older_moves y z M) p) (terminal_moves y z F M b l)

-- revision b sees e at its terminal
record Seen (e b : ℕ) (y : Day) : Type 0 where
  fine : Fine y
  there : b < y.revisions
  sees : HasPath y.diagram e (y.terminal b)

seen_step : (e b : ℕ) (y : Day) (s : Step) → accepted y s ≡ true → Seen e b y → Seen e b (after y s)
seen_step e b y s a S =
    let M = step-moves y s a in
    record { fine = fine_step y s a S.fine; there = stays_there y (after y s) M b S.there; sees = sees_on e b y (after y s) S.fine M S.there S.sees }

-- the main revision sees e, and so does each start vertex from now on
record FromNow (e m : ℕ) (y : Day) : Type 0 where
  main : Seen e 0 y
  starts : (r : ℕ) → m ≤ r → r < y.revisions → HasPath y.diagram e (y.start_of r)

from_now : (e m : ℕ) (y : Day) → FromNow e m y → (s : Step) → accepted y s ≡ true → OnLine s → FromNow e m (after y s)
unfolding after
from_now e m y P s a o = record { main = seen_step e 0 y s a P.main; starts = by s o }
  where
    by : (s : Step) → OnLine s → (r : ℕ) → m ≤ r → r < (after y s).revisions → HasPath (after y s).diagram e ((after y s).start_of r)
    by (Event c q u) o r l h = path_older (P.starts r l h)
    by (Yield c) o r l h = still (y.open_by c) h
      where
        still : (q : Option ℕ) → r < (yield y c q).revisions → HasPath (yield y c q).diagram e ((yield y c q).start_of r)
        still none k = P.starts r l k
        still (some t) k = P.starts r l k
    by (Fork q name) o r l h =
        let at_Fork = go (path_older (subst (λ k. HasPath y.diagram e (y.terminal k)) (sym o.0) P.main.sees)) (newest refl (Memᴰ.head refl)) in
        cases (eqb r y.revisions)
        (λ z. rw z (go (path_older at_Fork) (newest refl (Memᴰ.head refl))))
        (λ z. rw z (path_older (path_older (P.starts r l (not_last r y.revisions h z)))))
    by (Join a b) o r l h = path_older (P.starts r l h)
    by (Drop q) o r l h = P.starts r l h

from_then : (ss : List Step) (y : Day) → AcceptedFrom y ss → SingleMain ss → (e m : ℕ) → FromNow e m y → FromNow e m (run_from y ss)
unfolding run_from
from_then [] y A S e m P = P
from_then (s ∷ ss) y A S e m P = from_then ss (after y s) A.1 S.1 e m (from_now e m y P s A.0 S.0)

pub single_both : (a b : List Step) → SingleMain a → SingleMain b → SingleMain (a ++ b)
single_both [] b S T = T
single_both (s ∷ a) b S T = (S.0, single_both a b S.1 T)

single_rest : (a b : List Step) → SingleMain (a ++ b) → SingleMain b
single_rest [] b S = S
single_rest (s ∷ a) b S = single_rest a b S.1

-- from a sync of b on, what b sees is seen from each start vertex
from_sync : (y : Day) (b e : ℕ) → Seen e b y → (rest : List Step) → AcceptedFrom y (sync b ++ rest) → SingleMain (sync b ++ rest) → FromNow e y.revisions (run_from y (sync b ++ rest))
unfolding after run_from
from_sync y b e B rest A S =
    let H = can-join y 0 b A.0 in
    let main : Seen e 0 (join_into y 0 b) = record {
      fine = fine_step y (Join 0 b) A.0 B.fine;
      there = H.out_a.0;
      sees = go (path_older B.sees) (newest refl (Memᴰ.tail (Memᴰ.head refl)));
    } in
    from_then (Fork 0 none ∷ rest) (join_into y 0 b) A.1 S.1 e y.revisions (record { main = main; starts = λ r l h. absurd (omega arith) })

-- what a vertex sees it shows, and so does each vertex from there on
visible_to : (ss : List Step) → Accepted ss → (r e : ℕ) → r < (run ss).revisions → HasPath (run ss).diagram e ((run ss).start_of r) → VisibleTo (run ss) r e
visible_to ss A r e l p =
    let L = (fine_run ss A).sound.real.linked in
    let R = by_rules ss A in
    let x = (run ss).terminal r in
    record {
      at_start = p;
      at_end = subst (λ z. HasPath (run ss).diagram z x) (R.starts r l) (trail_path (R.composed x (L.bound r)).from_start);
      shown = λ x n q i. (seen ss A x (path_bound L.ordered q) n).1 (e, i, path_trans p q);
    }

pub syncs_are_seen : (ss : List Step) → Accepted ss → SingleMain ss → SyncsAreSeen ss
unfolding after run_from
syncs_are_seen ss A S early middle rest c b u q r l k =
    let before = early ++ (Event c b u ∷ middle) in
    let split : ss ≡ before ++ (sync b ++ rest) = q ∙ sym (append_assoc early (Event c b u ∷ middle) (sync b ++ rest)) in
    let whole = subst Accepted split A in
    let first = accepted_first before (sync b ++ rest) whole in
    let C = accepted_rest early (Event c b u ∷ middle) first in
    let y = run early in
    let x = next_vertex early in
    let v = event (y.terminal b) c (new_update y u) in
    let entered : Seen x b (enter y c b u) = record {
      fine = fine_step y (Event c b u) C.0 (fine_run early (accepted_first early (Event c b u ∷ middle) first));
      there = (can-enter y c b u C.0).out.0;
      sees = rw (changed_same y.terminal b x) (stay refl (omega arith));
    } in
    let P : Seen x b (run before) = rw (run-append early (Event c b u ∷ middle)) (along (Seen x b) (seen_step x b) middle (enter y c b u) C.1 entered) in
    let Q = from_sync (run before) b x P rest (accepted_rest before (sync b ++ rest) whole) (single_rest before (sync b ++ rest) (subst SingleMain split S)) in
    let ends : run ss ≡ run_from (run before) (sync b ++ rest) = ap run split ∙ run-append before (sync b ++ rest) in
    visible_to ss A r x k (rw (← ends) at Q.starts r l k)
