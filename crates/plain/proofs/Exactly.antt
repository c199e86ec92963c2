-- A call is taken exactly if the rules of 002 and the limits of 01 and 02 allow it.
use Prim.Native.Nat.{ℕ, ◌+◌, ◌*◌, ◌<◌, ◌/◌, ◌%◌}
use mathlib.Core.Bool.{Bool, true, false, not, ◌&&◌, ◌||◌, and-false}
use mathlib.Core.Path.{◌≡◌, refl, sym, ◌∙◌, ap, subst}
use mathlib.Core.Logic.{◌↔◌}
use mathlib.Core.Option.{none, some}
use mathlib.Core.List.{List, [], ◌∷◌, ◌++◌}
use native.Mathlib.Omega.{arith}
use lib.Dec.{eqb}
use lib.ListN.{length}
use borrow.Author.Tests.{eqb-true, eqb-false, eq-eqb, ne_eqb, le-ltb, lt-ltb, ltb-false, ltb-true, not-false}
use Rattle.lists.proofs.Cases.{cases, or-false}
use Rattle.updates.specs.declared.kind.Kind.{Kind}
use Rattle.updates.specs.declared.kind.Kind.TheVariants.{Time, Earliest, Penalty, Strike}
use Rattle.std.specs.Prelude.{Result, Ok, Err}
use Rattle.updates.specs.declared.kind.UnknownKind.{UnknownKind}
use Rattle.updates.specs.Kinds.{bad_bib, bad_kind, is_unknown, kind_check, unknown}
use Rattle.bundles.specs.declared.entry.Entry.{Entry}
use Rattle.bundles.specs.Records.{is_wrong}
use Rattle.orderfile.specs.File.{count, offset, is_bad_list}
use Rattle.orderfile.proofs.Numbers.{good_fits}
use Rattle.boards.specs.Board.{board_bytes, is_wrong_board}
use Rattle.desk.specs.Calls.{Batch, Call, Update, Query, Yield, Fork, Join, Sync, Mark, Drop, Bundle, Looks, Show, Fill, Preview, Verify, Bill, Entries, Records, entries_of, is_wrong_batch}
use Rattle.desk.specs.Checks.{checks}
use Rattle.desk.proofs.Checks as Rows
use Rattle.desk.proofs.Checks.{◌also◌, goes_on, passed_both}
use Rattle.diagram.specs.Day.{Day, Means, fresh, is_given, mark_named, meant}
use Rattle.diagram.specs.Steps as Steps
use Rattle.diagram.specs.Steps.{Event, Step, after, run}
use Rattle.diagram.specs.Accepted.{Accepted, AcceptedFrom, accepted}
use Rattle.diagram.specs.Lawful.{MayFollow}
use Rattle.diagram.proofs.Days.Accepting.{event-tests, fork-tests, join-tests, yield-test}
use Rattle.diagram.proofs.Days.Naming.{meant-low}
use Rattle.diagram.proofs.Days.Marking.{in_use, named-is}
use Rattle.diagram.proofs.Order.Growth.{Fine, busy_idle}
use Rattle.diagram.proofs.Order.Lawful.{runs_exactly, taken_exactly}
use Rattle.diagram.proofs.Order.Reuse.{by_numbers}
use Rattle.diagram.proofs.Order.Single.{main-run, syncs_go_on}
use Rattle.diagram.proofs.Order.Runs.{accepted_both, accepted_rest, fine_run}
use Rattle.plain.specs.Record.{PlainDay}
use Rattle.plain.specs.Answers.{Outcome, as_one, asked, called, day_after, ending, joined, refused, sent, synced}
use Rattle.plain.specs.Bundles.{AllTaken, parts}
use Rattle.plain.specs.Taken.{bundle_steps, end_of, steps_after}
use Rattle.plain.specs.Allowed.{Allowed, AreEntries, IsBatch, IsKind, IsList, JoinAllowed, Meaning, OnLine}
use Rattle.plain.proofs.Ends.{BoxesPass, Joins, Passes, board-passes, boxes-pass, drop-accepts, fork-accepts, mark-accepts, given, join-passes, known-kind, means, preview-passes, query-accepts, right_board, update-accepts, was_taken, yield-accepts}
use Rattle.plain.proofs.Bundles.{after-bundled, head_of, parts-sent, sent-parts}
use Rattle.plain.proofs.Steps.{all_accepted, marks-after, same_choice, same_day, sent-ran}

-- the limits: 5
good_bib : (bib : ℕ) → bad_bib bib ≡ false → bib < 1000
good_bib bib e = ltb-true bib 1000 (not-false _ e)

bib_good : (bib : ℕ) → bib < 1000 → bad_bib bib ≡ false
bib_good bib l = rw (lt-ltb bib 1000 l)

good_kind : (k : ℕ) (kind : Kind) → kind_check k ≡ Ok kind → IsKind k
unfolding kind_check
good_kind k kind e =
    cases (eqb k 1) (λ a. let z = eqb-true k 1 a in (omega arith, omega arith)) (λ a.
    cases (eqb k 2) (λ b. let z = eqb-true k 2 b in (omega arith, omega arith)) (λ b.
    cases (eqb k 3) (λ c. let z = eqb-true k 3 c in (omega arith, omega arith)) (λ c.
    cases (eqb k 4) (λ d. let z = eqb-true k 4 d in (omega arith, omega arith)) (λ d.
    absurd (let z : ◌≡◌ {A = Result Kind UnknownKind} (Err unknown) (Ok kind) = rw (a, b, c, d) at e in let w : ◌≡◌ {A = ℕ} 0 1 = cc in omega arith)))))

kind_good : (k : ℕ) → IsKind k → (kind : Kind) × (kind_check k ≡ Ok kind)
unfolding kind_check
kind_good k (l, h) =
    cases (eqb k 1) (λ a. (Time, rw a)) (λ a.
    cases (eqb k 2) (λ b. (Earliest, rw (a, b))) (λ b.
    cases (eqb k 3) (λ c. (Penalty, rw (a, b, c))) (λ c.
    cases (eqb k 4) (λ d. (Strike, rw (a, b, c, d))) (λ d.
    absurd (let p = eqb-false k 1 a in let q = eqb-false k 2 b in let r = eqb-false k 3 c in let s = eqb-false k 4 d in omega arith)))))

-- 14
good_batch : (batch : Batch) → is_wrong_batch batch ≡ false → IsBatch batch
unfolding is_wrong
good_batch (Records bytes) e =
    let p = or-false _ _ e in
    let q = or-false (eqb (length bytes / 12) 0) _ p.1 in
    let a = eqb-true (length bytes % 12) 0 (not-false _ p.0) in
    let b = eqb-false (length bytes / 12) 0 q.0 in
    let c = ltb-false 64 (length bytes / 12) q.1 in
    (length bytes / 12, omega arith, omega arith, omega arith)
good_batch (Entries es) e =
    let p = or-false (eqb (length es) 0) _ e in
    let a = eqb-false (length es) 0 p.0 in
    (omega arith, ltb-false 64 (length es) p.1)

batch_good : (batch : Batch) → IsBatch batch → is_wrong_batch batch ≡ false
unfolding is_wrong
batch_good (Records bytes) (n, l, a, b) =
    let q : length bytes / 12 ≡ n = omega arith in
    let r : length bytes % 12 ≡ 0 = omega arith in
    rw (r, q, ne_eqb n 0 (λ e. omega arith), le-ltb 64 n b)
batch_good (Entries es) (a, b) = rw (ne_eqb (length es) 0 (λ e. omega arith), le-ltb 64 (length es) b)

-- 19
board_good : (room : ℕ) → room ≡ board_bytes → is_wrong_board room ≡ false
board_good room e = rw e

-- 21
good_list : (file : List ℕ) → is_bad_list file ≡ false → IsList file
good_list file e = let g = good_fits file e in (omega arith, g.0, g.1)

list_good : (file : List ℕ) → IsList file → is_bad_list file ≡ false
unfolding is_bad_list
list_good file (a, b, c) = rw (le-ltb (length file) 8 a, le-ltb (offset file) 8 b, eq-eqb (offset file + 2 * count file) (length file) c)

-- where no check applies the call ends as it does
pub passed_is : (p : PlainDay) (c : Call ℕ) → Passes p c → called p c ≡ ending p c
unfolding called
passed_is p c P = goes_on (refused p) (ending p c) (checks (asked p) c) P

passed_on : (p : PlainDay) (c : Call ℕ) → Passes p c → (called p c).answer.code ≡ (ending p c).answer.code
passed_on p c P = ap (λ (o : Outcome). o.answer.code) (passed_is p c P)

neither : {a b : Bool} → a ≡ false → b ≡ false → (a || b) ≡ false
neither e f = rw (e, f)

-- an update's row: that its number was given out, and that it is an entry; and back, where the day accepts its step
update-given : (p : PlainDay) (c n k bib v : ℕ) → Passes p (Update c n k bib v) → not (is_given p.day n) ≡ false
update-given p c n k bib v (e1 also e2 also e3 also P) = e3

update-entry : (p : PlainDay) (c n k bib v : ℕ) → Passes p (Update c n k bib v) → (bib < 1000) × IsKind k
update-entry p c n k bib v (e1 also e2 also e3 also e4 also e16 also e5 also P) = let b = known-kind bib k e5 in (good_bib bib b.0, good_kind k _ b.1)

bad_kind_lem : (k : ℕ) → IsKind k → bad_kind k ≡ false
bad_kind_lem k h = ap is_unknown (kind_good k h).1

update_row : (p : PlainDay) (c n k bib v : ℕ) → not (is_given p.day n) ≡ false → (bib < 1000) × IsKind k → accepted p.day (Event c (meant p.day n) true) ≡ true → Passes p (Update c n k bib v)
update_row p c n k bib v g i a =
    let t = event-tests p.day c (meant p.day n) true a in
    refl also t.0 also g also t.1 also t.2 also neither (bib_good bib i.0) (bad_kind_lem k i.1) also t.3 also t.4 also t.5 also t.6 also Rows.none

-- the parts of a bundle, where all are taken, are entries; and back, where the steps are accepted
good_entries : (es : List Entry) (p : PlainDay) (c n : ℕ) → AllTaken p (parts c n es) → AreEntries es
good_entries [] p c n T = tt
good_entries (e ∷ es) p c n T =
    let i = update-entry p c n e.kind e.bib e.v (was_taken p (Update c n e.kind e.bib e.v) T.0).0 in
    (i.0, i.1, good_entries es _ c n T.1)

all_taken : (es : List Entry) (p : PlainDay) (c n : ℕ) → not (is_given p.day n) ≡ false → AreEntries es → AcceptedFrom p.day (bundle_steps c (meant p.day n) es) → AllTaken p (parts c n es)
unfolding is_given meant after
all_taken [] p c n g G A = (passed_on p (Yield c board_bytes) (refl also refl also yield-test p.day c A.0 also Rows.none), tt)
all_taken (e ∷ es) p c n g G A =
    let is = passed_is p (Update c n e.kind e.bib e.v) (update_row p c n e.kind e.bib e.v g (G.0, G.1) A.0) in
    (ap (λ (o : Outcome). o.answer.code) is, subst (λ (o : Outcome). AllTaken o.next (parts c n es)) (sym is) (all_taken es _ c n g G.2 A.1))

module _ (single : Bool) (before : List (Call ℕ)) where
  abbrev p : PlainDay
  p = day_after single before

  abbrev y : Day
  y = end_of single before

  abbrev ss : List Step
  ss = steps_after single before

  -- a step is accepted exactly if it may follow
  follows : (s : Step) → accepted y s ≡ true → MayFollow ss s
  follows s e = (taken_exactly ss (all_accepted single before) s).0 (subst (λ y. accepted y s ≡ true) (same_day single before) e)

  passes : (s : Step) → MayFollow ss s → accepted y s ≡ true
  passes s M = subst (λ y. accepted y s ≡ true) (sym (same_day single before)) ((taken_exactly ss (all_accepted single before) s).1 M)

  -- and so do some steps after one another
  longer : (more : List Step) → AcceptedFrom y more → Accepted (ss ++ more)
  unfolding run
  longer more A = accepted_both ss more fresh (all_accepted single before) (subst (λ y. AcceptedFrom y more) (same_day single before) A)

  shorter : (more : List Step) → Accepted (ss ++ more) → AcceptedFrom y more
  shorter more A = subst (λ y. AcceptedFrom y more) (sym (same_day single before)) (accepted_rest ss more A)

  fine : Fine y
  fine = subst Fine (sym (same_day single before)) (fine_run ss (all_accepted single before))

  -- a call that is taken is allowed
  meaning : {P : ℕ → Type 0} (n : ℕ) → not (is_given y n) ≡ false → P (meant y n) → Meaning y n P
  meaning n e h = record { given = not-false (is_given y n) e; holds = h }

  is-out : (n : ℕ) → not (is_given y n) ≡ false → meant y n < y.revisions
  is-out n e = meant-low y n (meant y n) (means p n e)

  -- 15: on a single-main day, box 0
  pub on_line : (n : ℕ) → (p.single && not (eqb n 0)) ≡ false → OnLine single n
  on_line n e t = eqb-true n 0 (not-false _ (rw (same_choice single before, t) at e))

  pub line_on : (n : ℕ) → OnLine single n → (p.single && not (eqb n 0)) ≡ false
  line_on n f = by single (same_choice single before) f
    where
      by : (b : Bool) → p.single ≡ b → (b ≡ true → n ≡ 0) → (p.single && not (eqb n 0)) ≡ false
      by true q g = rw (q, g refl)
      by false q g = rw q

  join-means : (n m : ℕ) → Joins p n m → JoinAllowed single before n m
  join-means n m J = (record { given = J.joiner; holds = record { given = J.joinee; holds = follows _ J.accepts } }, on_line n J.on_line)

  join-lent : (n m room : ℕ) → Passes p (Join n m room) → JoinAllowed single before n m × (room ≡ board_bytes)
  join-lent n m room P = (join-means n m (join-passes p n m (boxes-pass p n m room P)), board-passes p n m room P)

  bundle-means : (c n : ℕ) (batch : Batch) (room : ℕ) → is_wrong_batch batch ≡ false → is_wrong_board room ≡ false → (sent p c n (entries_of batch)).answer.code ≡ 0 → Allowed single before (Bundle c n batch room)
  bundle-means c n batch room e b z =
      let es = entries_of batch in
      let T = (sent-parts c n es p z).0 in
      let f = head_of batch e in
      let g = (was_taken p (Update c n f.0.kind f.0.bib f.0.v) (subst (λ es. AllTaken p (parts c n es)) f.2 T).0).0 in
      let A = (sent-ran c n (meant y n) es p refl z).accepts in
      (good_batch batch e, right_board room b, good_entries es p c n T, meaning n (update-given p c n f.0.kind f.0.bib f.0.v g) ((runs_exactly (ss ++ bundle_steps c (meant y n) es)).0 (longer (bundle_steps c (meant y n) es) A)))

  passed-allowed : (c : Call ℕ) → Passes p c → (ending p c).answer.code ≡ 0 → Allowed single before c
  passed-allowed (Update c n k bib v) P z = let i = update-entry p c n k bib v P in (meaning n (update-given p c n k bib v P) (follows _ (update-accepts p c n k bib v P)), i.0, i.1)
  passed-allowed (Query c n bib) (e1 also e2 also e3 also e4 also e16 also e5 also P) z =
      (meaning n e3 (follows _ (query-accepts p c n bib (e1 also e2 also e3 also e4 also e16 also e5 also P))), good_bib bib e5)
  passed-allowed (Yield c room) (e1 also e19 also P) z = (follows _ (yield-accepts p c room (e1 also e19 also P)), right_board room e19)
  passed-allowed (Fork n) (e1 also e3 also e4 also e15 also P) z = (meaning n e3 (follows _ (fork-accepts p n (e1 also e3 also e4 also e15 also P))), on_line n e15)
  passed-allowed (Join n m room) P z = join-lent n m room P
  passed-allowed (Sync m room) P z = join-lent 0 m room P
  passed-allowed (Mark n name) (e1 also e3 also e4 also e15 also P) z =
      (meaning n e3 (follows _ (mark-accepts p n name (e1 also e3 also e4 also e15 also P))), sym (same_choice single before) ∙ e15)
  passed-allowed (Drop name) (e1 also e18 also Rows.none) z =
      (mark_named y name, named-is y name (not-false _ e18), follows _ (drop-accepts p (marks-after single before) name (e1 also e18 also Rows.none)))
  passed-allowed (Bundle c n batch room) (e1 also e14 also e19 also Rows.none) z = bundle-means c n batch room e14 e19 (after-bundled p (sent p c n (entries_of batch)) z).0
  passed-allowed (Looks (Show n room)) (e1 also e3 also e4 also e7 also e12 also Rows.none) z = meaning n e3 (record { out = (is-out n e3, e4); idle = (busy_idle y fine (meant y n)).0 e7; fits = ltb-false room _ e12 })
  passed-allowed (Looks (Fill n)) (e1 also e3 also e4 also Rows.none) z = meaning n e3 (is-out n e3, e4)
  passed-allowed (Looks (Preview n m bib)) P z = let q = preview-passes p n m bib P in (join-means n m (join-passes p n m q.0), good_bib bib q.1)
  passed-allowed (Looks (Verify file)) (e1 also e21 also Rows.none) z = good_list file e21
  passed-allowed (Looks (Bill member)) P z = tt

  taken-allowed : (c : Call ℕ) → (called p c).answer.code ≡ 0 → Allowed single before c
  taken-allowed c e = let w = was_taken p c e in passed-allowed c w.0 (rw w.1 at e)

  -- a call that is allowed is taken
  join-row : (n m : ℕ) → JoinAllowed single before n m → BoxesPass p n m
  join-row n m A =
      let t = join-tests y (meant y n) (meant y m) (passes _ A.0.holds.holds) in
      neither (given A.0) (given A.0.holds) also neither t.0 t.1 also line_on n A.1 also neither t.2 t.3 also neither t.4 t.5 also t.6 also Rows.none

  -- box 0 is the main revision, after every list of calls
  pub main-means : Means y 0 0
  main-means =
      let N = by_numbers ss (all_accepted single before) in
      let m = N.out 0 (main-run ss (all_accepted single before)) in
      subst (λ y. Means y 0 0) (sym (same_day single before)) (subst (λ n. Means (run ss) n 0) N.main m)

  -- where a join into box 0 passes, so does a fork of box 0 after it
  fork-after : (b : ℕ) → accepted y (Steps.Join 0 b) ≡ true → accepted (after y (Steps.Join 0 b)) (Steps.Fork 0 none) ≡ true
  fork-after b = subst (λ y. accepted y (Steps.Join 0 b) ≡ true → accepted (after y (Steps.Join 0 b)) (Steps.Fork 0 none) ≡ true) (sym (same_day single before)) (syncs_go_on ss (all_accepted single before) b)

  pub sync-forks : (m : ℕ) → BoxesPass p 0 m → Passes (joined p 0 m).next (Fork 0)
  unfolding is_given meant after
  sync-forks m P =
      let a = (join-passes p 0 m P).accepts in
      let f = fork-after (meant y m) (subst (λ r. accepted y (Steps.Join r (meant y m)) ≡ true) main-means.1 a) in
      let t = fork-tests _ (meant y 0) none (subst (λ r. accepted (after y (Steps.Join r (meant y m))) (Steps.Fork r none) ≡ true) (sym main-means.1) f) in
      refl also ap not main-means.0 also t.0 also and-false p.single also t.1 also t.2 also Rows.none

  pub sync-ends : (m : ℕ) → BoxesPass p 0 m → synced p m ≡ called (joined p 0 m).next (Fork 0)
  unfolding called
  sync-ends m P = let is = passed_is (joined p 0 m).next (Fork 0) (sync-forks m P) in ap (as_one p) is ∙ sym is

  allowed-taken : (c : Call ℕ) → Allowed single before c → (called p c).answer.code ≡ 0
  allowed-taken (Update c n k bib v) A = passed_on p (Update c n k bib v) (update_row p c n k bib v (given A.0) (A.1, A.2) (passes _ A.0.holds))
  allowed-taken (Query c n bib) A =
      let t = event-tests y c (meant y n) false (passes _ A.0.holds) in
      passed_on p (Query c n bib) (refl also t.0 also given A.0 also t.1 also t.2 also bib_good bib A.1 also t.3 also t.4 also t.5 also Rows.none)
  allowed-taken (Yield c room) A = passed_on p (Yield c room) (refl also board_good room A.1 also yield-test y c (passes _ A.0) also Rows.none)
  allowed-taken (Fork n) A =
      let t = fork-tests y (meant y n) none (passes _ A.0.holds) in
      passed_on p (Fork n) (refl also given A.0 also t.0 also line_on n A.1 also t.1 also t.2 also Rows.none)
  allowed-taken (Mark n name) A =
      let t = fork-tests y (meant y n) (some name) (passes _ A.0.holds) in
      passed_on p (Mark n name) (refl also given A.0 also t.0 also (same_choice single before ∙ A.1) also t.1 also t.2 also t.3 also Rows.none)
  allowed-taken (Drop name) A = passed_on p (Drop name) (refl also ap not (in_use y (marks-after single before) name A.0 A.1) also Rows.none)
  allowed-taken (Join n m room) A = passed_on p (Join n m room) (refl also board_good room A.1 also join-row n m A.0)
  allowed-taken (Sync m room) A = let P = join-row 0 m A.0 in passed_on p (Sync m room) (refl also board_good room A.1 also P) ∙ ap (λ o. o.answer.code) (sync-ends m P ∙ passed_is _ (Fork 0) (sync-forks m P))
  allowed-taken (Bundle c n batch room) A =
      let steps = bundle_steps c (meant y n) (entries_of batch) in
      let T = all_taken (entries_of batch) p c n (given A.3) A.2 (shorter steps ((runs_exactly (ss ++ steps)).1 A.3.holds)) in
      passed_on p (Bundle c n batch room) (refl also batch_good batch A.0 also board_good room A.1 also Rows.none) ∙ rw (parts-sent c n (entries_of batch) p T)
  allowed-taken (Looks (Show n room)) A =
      let t = A.holds in
      passed_on p (Looks (Show n room)) (refl also given A also t.out.1 also (busy_idle y fine (meant y n)).1 t.idle also le-ltb room _ t.fits also Rows.none)
  allowed-taken (Looks (Fill n)) A = passed_on p (Looks (Fill n)) (refl also given A also A.holds.1 also Rows.none)
  allowed-taken (Looks (Preview n m bib)) A = passed_on p (Looks (Preview n m bib)) (refl also passed_both (join-row n m A.0) (bib_good bib A.1 also Rows.none))
  allowed-taken (Looks (Verify file)) A = passed_on p (Looks (Verify file)) (refl also list_good file A also Rows.none)
  allowed-taken (Looks (Bill member)) A = passed_on p (Looks (Bill member)) (refl also Rows.none)

  pub exactly : (c : Call ℕ) → ((called p c).answer.code ≡ 0) ↔ Allowed single before c
  exactly c = (taken-allowed c, allowed-taken c)
