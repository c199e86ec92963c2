-- The theorem: every list of calls has one line-up.
use Prim.Native.Nat.{◌<◌, ℕ}
use mathlib.Core.Bool.{Bool, false}
use mathlib.Core.Path.{◌∙◌, ◌≡◌, ap, refl, subst, sym}
use mathlib.Core.Option.{none, some}
use mathlib.Core.List.Memᴰ
use mathlib.Core.List.{List, [], ◌++◌, ◌∷◌, append_assoc, append-nil}
use native.Mathlib.Omega.{arith}
use lib.ListN.{length}
use Rattle.desk.specs.Calls.{Bill, Bundle, Call, Drop, Fill, Fork, Join, Looks, Mark, Preview, Query, Show, Sync, Update, Verify, Yield, Batch, entries_of, plainly, reading}
use Rattle.desk.proofs.Checks.{◌also◌}
use Rattle.diagram.proofs.Days.Naming.{meant-low}
use Rattle.diagram.proofs.Days.Marking.{Marks}
use Rattle.entries.specs.Folded.{of_bib, standing_of}
use Rattle.diagram.proofs.Graph.Tables.{number_step, tabulate-newest}
use Rattle.diagram.proofs.Order.Growth.{Fine, busy_idle, tabulate_stays}
use Rattle.diagram.proofs.Order.Inherited.{entry_is}
use Rattle.diagram.proofs.Order.Rules.{by_rules}
use Rattle.diagram.proofs.Order.Reuse.{by_numbers}
use Rattle.machine.proofs.Follow.Pool.{by_pool}
use Rattle.diagram.proofs.Order.Runs.{accepted_first, extends-run, fine_run, older_from, run_step}
use Rattle.diagram.proofs.Order.Lawful.{runs_exactly}
use Rattle.diagram.proofs.Order.Theorem.{Arbitration, arbitration}
use Rattle.diagram.proofs.Order.Witness.{witness}
use Rattle.diagram.specs.Arbitration.{Explains, Extends, Shows, WholeAt}
use Rattle.diagram.specs.Checks.{busy}
use Rattle.diagram.specs.Day.{Day, IsOut, meant, shown_at}
use Rattle.diagram.specs.Effects.{entry, number}
use Rattle.diagram.specs.Views.{view}
use Rattle.diagram.specs.Steps.{Event, Step, after, run}
use Rattle.diagram.specs.Accepted.{Accepted}
use Rattle.lists.proofs.Blocks.{flat_from}
use Rattle.lists.proofs.Changed.{changed_same}
use Rattle.lists.specs.Lists.{◌∈◌}
use Rattle.plain.proofs.Bundles.{after-bundled, sent-parts}
use Rattle.plain.proofs.Ends.{Passes, means, was_taken}
use Rattle.plain.proofs.Exactly.{exactly}
use Rattle.plain.proofs.Values.{fill-value, fork-none, fork-takes, fork-value, join-value, mark-takes}
use Rattle.plain.proofs.Previews.{foresees}
use Rattle.plain.proofs.Orders.{own_orders, verified}
use Rattle.plain.proofs.Bills.{bills_grow, told}
use Rattle.plain.proofs.Syncs.{never_ten, on_single_main, sync-is}
use Rattle.plain.proofs.Marks.{drop-value, mark-value, on_marks}
use Rattle.plain.proofs.Steps.{after-steps, all_accepted, day_is, did, marks-after, marks-next, named, next_is, ran, same_day, taken-steps}
use Rattle.plain.specs.Taken.{Taken, end_of, steps_after, steps_from, steps_of}
use Rattle.plain.specs.Answers.{called, day_after, day_from, ending, sent, stepped}
use Rattle.plain.specs.Bundles.{AllTaken, Bundled, part, parts}
use Rattle.plain.specs.Told.{AnsweredBy, ListedBy, Told}
use Rattle.plain.specs.LineUp.{LineUp}
use Rattle.entries.specs.declared.entry.Entry.{Entry}
use Rattle.plain.specs.Record.{PlainDay, lines_of, noted, path_result}
use Rattle.updates.specs.Applied.{applied, fresh_standing}
use Rattle.updates.specs.Kinds.{kind_of}

-- numbers shown at a vertex are those of updates taken
pub view-low : (ss : List Step) → Accepted ss → (x n : ℕ) → x < length (run ss).diagram → n ∈ view (run ss).diagram x → n < (run ss).updates
view-low ss P x n h i =
    let A = arbitration ss P in
    let s = A.ever ss [] (sym (append-nil ss)) x h in
    let e = flat_from (λ e. entry (number (run ss).diagram e)) n s.seen (rw s.are at i) in
    A.explains.numbered.low e.0 n (entry_is (number (run ss).diagram e.0) n e.2)

-- what some entries give does not depend on the others
pub of_bib_same : (f g : ℕ → Entry) (bib : ℕ) (ns : List ℕ) → ((n : ℕ) → n ∈ ns → f n ≡ g n) → of_bib f bib ns ≡ of_bib g bib ns
of_bib_same f g bib [] h = refl
of_bib_same f g bib (n ∷ ns) h = rw (h n (Memᴰ.head refl), of_bib_same f g bib ns (λ m i. h m (Memᴰ.tail i)))

pub lines_of_same : (f g : ℕ → Entry) (ns : List ℕ) → ((n : ℕ) → n ∈ ns → f n ≡ g n) → lines_of f ns ≡ lines_of g ns
lines_of_same f g [] h = refl
lines_of_same f g (n ∷ ns) h = rw (h n (Memᴰ.head refl), lines_of_same f g ns (λ m i. h m (Memᴰ.tail i)))

-- what the row of a list says
show_idle : (p : PlainDay) (n room : ℕ) → Passes p (Looks (Show n room)) → IsOut p.day (meant p.day n) × (busy p.day (meant p.day n) ≡ false)
show_idle p n room (e1 also e3 also e4 also e7 also P) = ((meant-low p.day n (meant p.day n) (means p n e3), e4), e7)

-- growth at a call, along its steps
grows : (single : Bool) (before : List (Call ℕ)) (c : Call ℕ) → Extends (end_of single before) (end_of single (before ++ (c ∷ [])))
grows single before c =
    let p = day_after single before in
    let d = did p (marks-after single before) c in
    let F = subst Fine (sym (same_day single before)) (fine_run (steps_after single before) (all_accepted single before)) in
    subst (λ y. Extends p.day y) (sym (ap (λ q. q.day) (next_is single before c) ∙ d.same)) (extends-run (steps_of p c) p.day F d.accepts)

module _ (single : Bool) (cs : List (Call ℕ)) where
  abbrev A : Arbitration (steps_after single cs)
  A = arbitration (steps_after single cs) (all_accepted single cs)

  e : end_of single cs ≡ run (steps_after single cs)
  e = same_day single cs

  -- a call c within the list, and the day before it
  module _ (before : List (Call ℕ)) (c : Call ℕ) (rest : List (Call ℕ)) (T : Taken single cs before c rest) where
    abbrev p : PlainDay
    p = day_after single before

    -- the entries that were there are there at the end
    entries-stay : (n : ℕ) → n < p.day.updates → p.entries n ≡ (day_after single cs).entries n
    entries-stay n h = sym (ap (λ z. z.entries n) (day_is single cs before c rest T) ∙ (ran (c ∷ rest) p (marks-after single before)).kept n h)

  queries : (before rest : List (Call ℕ)) (c n bib : ℕ) → Taken single cs before (Query c n bib) rest → AnsweredBy (day_after single cs) A.order (length (end_of single before).diagram) bib (called (day_after single before) (Query c n bib)).answer
  unfolding after
  queries before rest c n bib T = record { updates = shown; shown = seen; is = ap (λ o. o.answer) is ∙ ap (λ s. reading s 0 []) stands }
    where
      q : PlainDay
      q = day_after single before

      is : called q (Query c n bib) ≡ ending q (Query c n bib)
      is = (was_taken q (Query c n bib) T.code).1

      r : ℕ
      r = meant q.day n

      y1 : Day
      y1 = run (steps_after single before)

      shown : List ℕ
      shown = view (after y1 (Event c r false)).diagram (length y1.diagram)

      more : List Step
      more = steps_from (called q (Query c n bib)).next rest

      place : steps_after single cs ≡ steps_after single before ++ (Event c r false ∷ more)
      place = taken-steps single cs before (Query c n bib) rest T (Event c r false ∷ []) refl

      seen : Shows (end_of single cs) A.order (length q.day.diagram) shown
      seen =
          subst (λ y. Shows y A.order (length q.day.diagram) shown) (sym e)
          (subst (λ z. Shows (run (steps_after single cs)) A.order (length z.diagram) shown) (sym (same_day single before)) (A.queries (steps_after single before) more c r place))

      through : Accepted (steps_after single before ++ (Event c r false ∷ []))
      through = accepted_first (steps_after single before ++ (Event c r false ∷ [])) more (subst Accepted (place ∙ sym (append_assoc (steps_after single before) (Event c r false ∷ []) more)) (all_accepted single cs))

      low : (n : ℕ) → n ∈ shown → n < y1.updates
      low n i =
          let x = length y1.diagram in
          let step = run_step (steps_after single before) (Event c r false) in
          let there : x < length (run (steps_after single before ++ (Event c r false ∷ []))).diagram = subst (λ z. x < length z.diagram) (sym step) (omega arith) in
          subst (λ z. n < z.updates) step (view-low _ through x n there (subst (λ z. n ∈ view z.diagram x) (sym step) i))

      kept : (n : ℕ) → n ∈ shown → q.entries n ≡ (day_after single cs).entries n
      kept n i = entries-stay before (Query c _ bib) rest T n (rw (same_day single before) (low n i))

      stands : path_result (stepped q (Event c r false) 0) (length q.day.diagram) bib ≡ standing_of (day_after single cs).entries bib shown
      stands =
          ap (λ y. standing_of q.entries bib (view (after y (Event c r false)).diagram (length y.diagram))) (same_day single before)
          ∙ ap (λ us. applied us fresh_standing) (of_bib_same q.entries (day_after single cs).entries bib shown kept)

  lists : (before rest : List (Call ℕ)) (n room : ℕ) → Taken single cs before (Looks (Show n room)) rest
      → (t : ℕ) → t < (end_of single before).transactions → WholeAt (end_of single before) t ((end_of single before).terminal (meant (end_of single before) n)) (length (end_of single before).diagram)
  lists before rest n room T =
      let s = show_idle (day_after single before) n room (was_taken (day_after single before) (Looks (Show n room)) T.code).0 in
      let y1 = run (steps_after single before) in
      let idle = (busy_idle y1 (fine_run (steps_after single before) (all_accepted single before)) (meant y1 n)).0 (rw (same_day single before) at s.1) in
      rw (same_day single before) (A.lists (steps_after single before) _ (after-steps single cs before (Looks (Show n room)) rest T) (meant y1 n) (rw (same_day single before) at s.0) idle)

  -- a list that was taken: of a revision that is out and idle
  listed : (before rest : List (Call ℕ)) (n room : ℕ) → Taken single cs before (Looks (Show n room)) rest
      → ListedBy (day_after single cs) A.order (end_of single before) (meant (end_of single before) n) (called (day_after single before) (Looks (Show n room))).answer
  listed before rest n room T = record {
    updates = shown_at q.day r;
    shown = rw (e, same_day single before) (A.ever (steps_after single before) _ (after-steps single cs before (Looks (Show n room)) rest T) (y1.terminal (meant y1 n)) (low (meant y1 n)));
    is = ap (λ o. o.answer) is ∙ ap (plainly 0 (length (shown_at q.day r))) (lines_of_same q.entries (day_after single cs).entries (shown_at q.day r) (λ k i. entries-stay before (Looks (Show n room)) rest T k (taken_then k i)));
    whole = lists before rest n room T;
  }
    where
      q : PlainDay
      q = day_after single before

      r : ℕ
      r = meant q.day n

      y1 : Day
      y1 = run (steps_after single before)

      is : called q (Looks (Show n room)) ≡ ending q (Looks (Show n room))
      is = (was_taken q (Looks (Show n room)) T.code).1

      low : (r : ℕ) → y1.terminal r < length y1.diagram
      low = (fine_run (steps_after single before) (all_accepted single before)).sound.real.linked.bound

      -- what is listed was taken before the list
      taken_then : (k : ℕ) → k ∈ shown_at q.day r → k < q.day.updates
      taken_then k i = rw (same_day single before) (view-low (steps_after single before) (all_accepted single before) (y1.terminal (meant y1 n)) k (low (meant y1 n)) (rw (same_day single before) at i))

  number_at : (before rest : List (Call ℕ)) (c r k bib v : ℕ) → Taken single cs before (Update c r k bib v) rest
      → number (end_of single cs).diagram (length (end_of single before).diagram) ≡ some (called (day_after single before) (Update c r k bib v)).answer.value
  unfolding day_from after
  number_at before rest c r k bib v T =
      ap (λ z. number z.day.diagram x) (day_is single cs before (Update c r k bib v) rest T)
      ∙ ap (λ o. number (day_from o.next rest).day.diagram x) is
      ∙ ap (λ y. number y.diagram x) (ran rest next marks).same
      ∙ tabulate_stays number_step none (older_from (steps_from next rest) next.day (ran rest next marks).accepts) x (omega arith)
      ∙ tabulate-newest number_step none _ q.day.diagram
      ∙ ap some (sym (ap (λ o. o.answer.value) is))
    where
      q : PlainDay
      q = day_after single before

      x : ℕ
      x = length q.day.diagram

      is : called q (Update c r k bib v) ≡ ending q (Update c r k bib v)
      is = (was_taken q (Update c r k bib v) T.code).1

      next : PlainDay
      next = noted q c (meant q.day r) (kind_of k) bib v

      marks : Marks next.day
      marks = subst (λ o. Marks o.next.day) is (marks-next q (marks-after single before) (Update c r k bib v))

  noted-is : (before rest : List (Call ℕ)) (c r k bib v : ℕ) → Taken single cs before (Update c r k bib v) rest
      → (day_after single cs).entries (called (day_after single before) (Update c r k bib v)).answer.value ≡ record { kind = kind_of k; client = c; bib = bib; v = v }
  unfolding day_from after
  noted-is before rest c r k bib v T =
      ap (day_after single cs).entries (ap (λ o. o.answer.value) is) ∙ ap (λ z. z.entries n) (day_is single cs before (Update c r k bib v) rest T)
      ∙ ap (λ o. (day_from o.next rest).entries n) is ∙ (ran rest next marks).kept n (omega arith) ∙ changed_same q.entries n _
    where
      q : PlainDay
      q = day_after single before

      is : called q (Update c r k bib v) ≡ ending q (Update c r k bib v)
      is = (was_taken q (Update c r k bib v) T.code).1

      n : ℕ
      n = q.day.updates

      next : PlainDay
      next = noted q c (meant q.day r) (kind_of k) bib v

      marks : Marks next.day
      marks = subst (λ o. Marks o.next.day) is (marks-next q (marks-after single before) (Update c r k bib v))

  bundles : (before : List (Call ℕ)) (c n : ℕ) (batch : Batch) (room : ℕ) → (called (day_after single before) (Bundle c n batch room)).answer.code ≡ 0
      → Bundled (day_after single before) c n (entries_of batch) (called (day_after single before) (Bundle c n batch room))
  bundles before c n batch room e =
      let q = day_after single before in
      let w = was_taken q (Bundle c n batch room) e in
      let b = after-bundled q (sent q c n (entries_of batch)) (rw w.1 at e) in
      let s = sent-parts c n (entries_of batch) q b.0 in
      record {
        each = s.0;
        day = ap (λ o. o.next) (w.1 ∙ b.1) ∙ s.1;
        value = λ first others begins. ap (λ o. o.answer) (w.1 ∙ b.1) ∙ sym (ap (λ o. o.answer) (was_taken q (part c n first) (subst (λ es. AllTaken q (parts c n es)) begins s.0).0).1);
      }

  tells : (before rest : List (Call ℕ)) (c : Call ℕ) → Taken single cs before c rest → Told single before (day_after single cs) A.order c (called (day_after single before) c)
  tells before rest (Update c n k bib v) T = (number_at before rest c n k bib v T, noted-is before rest c n k bib v T)
  tells before rest (Query c n bib) T = queries before rest c n bib T
  tells before rest (Yield c room) T = ap (λ o. o.answer) (was_taken (day_after single before) (Yield c room) T.code).1
  tells before rest (Fork n) T = (fork-takes single before n T.code, fork-value single before n (named single before) T.code)
  tells before rest (Join n m room) T = join-value single before n m room T.code
  tells before rest (Sync m room) T = sync-is single before m room T.code
  tells before rest (Mark n name) T = (mark-takes single before n name T.code, mark-value single before n name T.code)
  tells before rest (Drop name) T = drop-value single before name T.code
  tells before rest (Bundle c n batch room) T = bundles before c n batch room T.code
  tells before rest (Looks (Show n room)) T = listed before rest n room T
  tells before rest (Looks (Fill n)) T = fill-value single before n T.code
  tells before rest (Looks (Preview n m bib)) T = foresees (day_after single before) n m bib T.code
  tells before rest (Looks (Verify file)) T = verified single before file T.code
  tells before rest (Looks (Bill member)) T = told single before member

  pub lined-up : LineUp single cs
  lined-up = record {
    steps = same_day single cs;
    lawful = (runs_exactly (steps_after single cs)).0 (all_accepted single cs);
    witness = witness (steps_after single cs) (all_accepted single cs);
    rules = by_rules (steps_after single cs) (all_accepted single cs);
    exactly = λ before rest c place. exactly single before c;
    pool = λ before rest place. by_pool (steps_after single before) (all_accepted single before);
    numbers_used = by_numbers (steps_after single cs) (all_accepted single cs);
    none_left = λ before rest n place. fork-none single before n (named single before);
    order = A.order;
    explains = subst (λ y. Explains y A.order) (sym e) A.explains;
    tells = tells;
    grows = λ before rest c place. grows single before c;
    never_ten = λ before rest m room place. never_ten single before m room;
    single_main = λ e. on_single_main cs;
    marks = on_marks single cs;
    own_orders = own_orders single cs;
    bills_grow = bills_grow single cs;
  }
