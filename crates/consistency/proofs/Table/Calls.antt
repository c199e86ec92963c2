-- Every call that is taken ends on the table as on the plain day.
use Prim.Native.Nat.{ℕ, ◌<◌, suc}
use mathlib.Core.Bool.{true, false, not}
use mathlib.Core.Path.{◌≡◌, refl, sym, ◌∙◌, ap, subst}
use mathlib.Core.Option.{none, some}
use mathlib.Core.List.{List, ◌++◌, []}
use native.Mathlib.Omega.{arith}
use lib.Dec.{eqb}
use lib.ListN.{length}
use borrow.Author.Tests.{eqb-false, ltb-true, not-false}
use Rattle.lists.specs.Lists.{changed}
use Rattle.lists.specs.Names.{Name}
use Rattle.lists.proofs.Cases.{cases, or-false}
use Rattle.updates.specs.declared.kind.Kind.{Kind}
use Rattle.updates.specs.declared.standing.State.{State}
use Rattle.updates.specs.Effect.{state_of, value_in}
use Rattle.updates.specs.Kinds.{bad_bib, kind_of}
use Rattle.desk.specs.Calls.{Update, Query, Yield, Fork, Join, Mark, Drop, Looks, Show, Fill, Answer, answer_on}
use Rattle.desk.proofs.Checks as Checks
use Rattle.desk.proofs.Checks.{◌also◌, same_end}
use Rattle.diagram.specs.Day.{Day, is_given, is_named, mark_named, meant, number_of}
use Rattle.diagram.specs.Checks as Day
use Rattle.diagram.specs.Steps as Steps
use Rattle.diagram.specs.Steps.{Step, after}
use Rattle.diagram.specs.Accepted.{accepted}
use Rattle.diagram.proofs.Days.Moves.{yield-updates}
use Rattle.diagram.proofs.Days.Found.{found-means}
use Rattle.diagram.proofs.Days.Marking.{Marks}
use Rattle.diagram.proofs.Days.Naming.{meant-number}
use Rattle.diagram.proofs.Order.Runs.{marks-run}
use Rattle.cells.specs.Sizes as Lower
use Rattle.cells.specs.Cells.{next_number}
use Rattle.cells.specs.Order.{order}
use Rattle.cells.specs.Checks.{bearer}
use Rattle.cells.specs.Steps.{drop_bytes, fork_bytes, join_bytes, mark_bytes, query_bytes, update_bytes}
use Rattle.entries.specs.Sizes as Upper
use Rattle.entries.specs.Stored.{entry}
use Rattle.entries.specs.Entries.{entry_at, wrote}
use Rattle.entries.proofs.Entries.{entry-wrote, wrote-length}
use Rattle.sheets.specs.Sheet.{sheet}
use Rattle.plain.specs.Record.{PlainDay, noted}
use Rattle.plain.specs.Answers as Plain
use Rattle.plain.specs.Answers.{Outcome, called, ending, joined, stepped}
use Rattle.plain.proofs.Steps.{starts_box}
use Rattle.plain.proofs.Ends.{BoxesPass, Passes, boxes-pass, drop-accepts, fork-accepts, mark-accepts, join-passes, known-kind, means, query-accepts, update-accepts, yield-accepts}
use Rattle.table.specs.Halves.{low, high, cells_of}
use Rattle.table.specs.Answers as Table
use Rattle.table.specs.Out.{Out}
use Rattle.table.specs.Calls.{update_out, query_out, yield_out, fork_out, join_end, join_out, mark_out, drop_out, list_out, fill_out, no_fill, standing_at, told}
use Rattle.table.specs.Served.{Served, level_reply, on_table, out_reply}
use Rattle.following.specs.Reached.{by_number, step_bytes}
use Rattle.consistency.specs.Table.{sheet_with}
use Rattle.consistency.proofs.Table.Stands.{Stands, bytes-are, high-size, numbers-are, stands-next}
use Rattle.consistency.proofs.Table.Rows.{agree, number}
use Rattle.consistency.proofs.Table.Values.{same_order, same-sheet, same-standing}

-- a call's end at the table and on the day: the same answer, on the sheet that it was lent, and a table that stands for the day
pub record Same (sheet : List ℕ) (s : Served) (o : Outcome) : Type 0 where
  pub reply : s.reply ≡ answer_on (λ ls. sheet_with ls sheet) o.answer
  pub stands : Stands o.next s.table

pub same_answer : {S : Type 0} {a b : State} {v w g h : ℕ} {s z : S} (code total : ℕ) → a ≡ b → v ≡ w → g ≡ h → s ≡ z
    → ◌≡◌ {A = Answer S} (record { code = code; state = a; value = v; total = total; gain = g; sheet = s }) (record { code = code; state = b; value = w; total = total; gain = h; sheet = z })
same_answer code total e f g h = rw (e, f, g, h)

module _ (p : PlainDay) (t : List ℕ) (S : Stands p t) where
  abbrev y : Day
  y = p.day

  -- a call that has the table lent
  abbrev pub OnTable : Out → Outcome → Type 0
  OnTable u o = Same [] (on_table u) o

  pub refused-same : (k : ℕ) → OnTable (Table.refused t k) (Plain.refused p k)
  refused-same k = record { reply = refl; stands = S }

  numbered : (n : ℕ) → not (is_given y n) ≡ false → number_of y (meant y n) ≡ n
  numbered n e = meant-number y n (meant y n) (means p n e)

  -- a step that notes no entry
  stepped-on : (s : Step) → accepted y s ≡ true → (after y s).updates ≡ y.updates → (b : List ℕ) → b ≡ step_bytes (low t) (by_number y s) → Stands (stepped p s (starts_box s)) (b ++ high t)
  stepped-on s e q b x = subst (λ k. Stands (stepped p s (starts_box s)) (k ++ high t)) (sym x) (stands-next p t S s e (stepped p s (starts_box s)) refl refl refl (high t) (high-size p t S) (λ n h. S.entries_are n (subst (λ k. n < k) q h)))

  by-step : (s : Step) → accepted y s ≡ true → (after y s).updates ≡ y.updates → (value w : ℕ) → w ≡ value → (b : List ℕ) → b ≡ step_bytes (low t) (by_number y s) → OnTable (Table.taken (b ++ high t) w) (Plain.taken (stepped p s (starts_box s)) value)
  by-step s e q value w z b x = record { reply = same_answer 0 0 refl z refl refl; stands = stepped-on s e q b x }

  room : Day.log_full y ≡ false → (cells_of t).updates < Upper.updates
  room e = ltb-true (cells_of t).updates Lower.updates (not-false _ ((bytes-are p t S).follow.same_full ∙ e))

  noted-same : (c r : ℕ) (kind : Kind) (bib v : ℕ) → accepted y (Steps.Event c r true) ≡ true → bad_bib bib ≡ false → Day.log_full y ≡ false
      → OnTable (Table.taken (step_bytes (low t) (by_number y (Steps.Event c r true)) ++ wrote (high t) (cells_of t).updates (entry kind c bib v)) (cells_of t).updates) (Plain.taken (noted p c r kind bib v) y.updates)
  unfolding after
  noted-same c r kind bib v e e5 e9 = record {
    reply = same_answer 0 0 refl is refl refl;
    stands = stands-next p t S (Steps.Event c r true) e (noted p c r kind bib v) refl refl (omega arith) (wrote (high t) (cells_of t).updates (entry kind c bib v)) (wrote-length (high t) (cells_of t).updates (entry kind c bib v) (high-size p t S) (room e9)) kept;
  }
    where
      is : (cells_of t).updates ≡ y.updates
      is = (bytes-are p t S).follow.same_updates

      low-bib : bib < Upper.bib_range
      low-bib = omega (arith, ltb-true bib 1000 (not-false _ e5))

      kept : (n : ℕ) → n < suc y.updates → entry_at (wrote (high t) (cells_of t).updates (entry kind c bib v)) n ≡ changed p.entries y.updates (record { kind = kind; client = c; bib = bib; v = v }) n
      kept n h =
          entry-wrote (high t) (cells_of t).updates (entry kind c bib v) n (high-size p t S) (room e9) low-bib
          ∙ rw is (cases (eqb n y.updates) (λ q. rw q) (λ q. rw q (S.entries_are n (let z = eqb-false n y.updates q in omega arith))))

  -- the ends of the calls that no check stops
  update-end : (c n k bib v : ℕ) → Passes p (Update c n k bib v)
      → OnTable (Table.taken (update_bytes (low t) c n ++ wrote (high t) (cells_of t).updates (entry (kind_of k) c bib v)) (cells_of t).updates) (ending p (Update c n k bib v))
  unfolding step_bytes
  update-end c n k bib v (e1 also e2 also e3 also e4 also e16 also e5 also e6 also e7 also e8 also e9 also Checks.none) =
      subst (λ z. OnTable (Table.taken (update_bytes (low t) c z ++ wrote (high t) (cells_of t).updates (entry (kind_of k) c bib v)) (cells_of t).updates) (ending p (Update c n k bib v))) (numbered n e3)
      (noted-same c (meant y n) (kind_of k) bib v (update-accepts p c n k bib v (e1 also e2 also e3 also e4 also e16 also e5 also e6 also e7 also e8 also e9 also Checks.none)) (known-kind bib k e5).0 e9)

  query-end : (c n bib : ℕ) → Passes p (Query c n bib) → OnTable (Table.answered (query_bytes (low t) c n ++ high t) (standing_at t n bib)) (ending p (Query c n bib))
  unfolding step_bytes after
  query-end c n bib (e1 also e2 also e3 also e4 also P) =
      let z = same-standing p t S n e3 e4 c bib in
      record {
        reply = same_answer 0 0 (ap state_of z) (ap value_in z) refl refl;
        stands = stepped-on (Steps.Event c (meant y n) false) (query-accepts p c n bib (e1 also e2 also e3 also e4 also P)) refl _ (ap (query_bytes (low t) c) (sym (numbered n e3)));
      }

  fork-end : (n : ℕ) → Passes p (Fork n) → OnTable (Table.taken (fork_bytes (low t) n (next_number (cells_of t)) ++ high t) (next_number (cells_of t))) (ending p (Fork n))
  unfolding step_bytes after
  fork-end n (e1 also e3 also e4 also e15 also e7 also e10 also Checks.none) =
      let accepts = fork-accepts p n (e1 also e3 also e4 also e15 also e7 also e10 also Checks.none) in
      by-step (Steps.Fork (meant y n) none) accepts refl _ _ ((bytes-are p t S).follow.same_number e10) _ (ap (λ z. fork_bytes (low t) z (next_number (cells_of t))) (sym (numbered n e3)))

  mark-end : (n : ℕ) (name : Name) → Passes p (Mark n name)
      → OnTable (Table.taken (mark_bytes (low t) n (next_number (cells_of t)) name ++ high t) (next_number (cells_of t))) (ending p (Mark n name))
  unfolding step_bytes after
  mark-end n name (e1 also e3 also e4 also e15 also e7 also e10 also e17 also Checks.none) =
      let accepts = mark-accepts p n name (e1 also e3 also e4 also e15 also e7 also e10 also e17 also Checks.none) in
      by-step (Steps.Fork (meant y n) (some name)) accepts refl _ _ ((bytes-are p t S).follow.same_number e10) _ (ap (λ z. mark_bytes (low t) z (next_number (cells_of t)) name) (sym (numbered n e3)))

  -- the number that the cells find is that of the mark which the name means
  borne : (name : Name) → is_named y name ≡ true → bearer (cells_of t) name ≡ number_of y (mark_named y name)
  borne name e = let n = bearer (cells_of t) name in sym (meant-number y n (mark_named y name) ((found-means y n (mark_named y name)).1 ((numbers-are p t S).same_bearer name e)))

  pub marks : Marks y
  marks = subst Marks (sym S.day_is) (marks-run S.steps S.ok)

  drop-end : (name : Name) → Passes p (Drop name) → OnTable (Table.taken (drop_bytes (low t) (bearer (cells_of t) name) ++ high t) 0) (ending p (Drop name))
  unfolding step_bytes after
  drop-end name (e1 also e18 also Checks.none) =
      by-step (Steps.Drop (mark_named y name)) (drop-accepts p marks name (e1 also e18 also Checks.none)) refl 0 0 refl _ (ap (drop_bytes (low t)) (borne name (not-false _ e18)))

  pub join-end : (n m : ℕ) → BoxesPass p n m → OnTable (join_end t n m) (joined p n m)
  unfolding step_bytes after
  join-end n m (e3 also e4 also P) =
      let J = join-passes p n m (e3 also e4 also P) in
      let g = or-false (not (is_given y n)) (not (is_given y m)) e3 in
      let o = or-false (y.joined (meant y n)) (y.joined (meant y m)) e4 in
      let numbers = ap (λ z. join_bytes (low t) z m) (sym (numbered n g.0)) ∙ ap (join_bytes (low t) (number_of y (meant y n))) (sym (numbered m g.1)) in
      by-step (Steps.Join (meant y n) (meant y m)) J.accepts refl _ _ ((number p t S m g.1).out o.1).same_gain _ numbers

  -- each call: the rows agree, and so do the ends
  pub update_same : (c n k bib v : ℕ) → OnTable (update_out t c n k bib v) (called p (Update c n k bib v))
  unfolding called update_out
  update_same c n k bib v = same_end OnTable (Table.refused t) (Plain.refused p) refused-same _ _ (agree p t S (Update c n k bib v)) (update-end c n k bib v)

  pub query-same : (c n bib : ℕ) → OnTable (query_out t c n bib) (called p (Query c n bib))
  unfolding called query_out
  query-same c n bib = same_end OnTable (Table.refused t) (Plain.refused p) refused-same _ _ (agree p t S (Query c n bib)) (query-end c n bib)

  pub yield-same : (c room : ℕ) → OnTable (yield_out t c room) (called p (Yield c room))
  unfolding called yield_out step_bytes after
  yield-same c room =
      same_end OnTable (Table.refused t) (Plain.refused p) refused-same _ _ (agree p t S (Yield c room))
      (λ P. by-step (Steps.Yield c) (yield-accepts p c room P) (yield-updates y c (y.open_by c)) 0 0 refl _ refl)

  pub fork-same : (n : ℕ) → OnTable (fork_out t n) (called p (Fork n))
  unfolding called fork_out
  fork-same n = same_end OnTable (Table.refused t) (Plain.refused p) refused-same _ _ (agree p t S (Fork n)) (fork-end n)

  pub join-same : (n m room : ℕ) → OnTable (join_out t n m room) (called p (Join n m room))
  unfolding called join_out
  join-same n m room = same_end OnTable (Table.refused t) (Plain.refused p) refused-same _ _ (agree p t S (Join n m room)) (λ P. join-end n m (boxes-pass p n m room P))

  pub mark-same : (n : ℕ) (name : Name) → OnTable (mark_out t n name) (called p (Mark n name))
  unfolding called mark_out
  mark-same n name = same_end OnTable (Table.refused t) (Plain.refused p) refused-same _ _ (agree p t S (Mark n name)) (mark-end n name)

  pub drop-same : (name : Name) → OnTable (drop_out t name) (called p (Drop name))
  unfolding called drop_out
  drop-same name = same_end OnTable (Table.refused t) (Plain.refused p) refused-same _ _ (agree p t S (Drop name)) (drop-end name)

  -- a list, which has a sheet lent; and a fill
  abbrev OnSheet : List ℕ → Out → Outcome → Type 0
  OnSheet s u o = Same s (record { reply = out_reply u u.lent; table = t; board = [] }) o

  pub list_same : (n : ℕ) (s : List ℕ) → OnSheet s (list_out t n s) (called p (Looks (Show n (length s))))
  unfolding called list_out
  list_same n s = same_end (OnSheet s) (Table.refused s) (Plain.refused p) (λ k. record { reply = refl; stands = S }) _ _ (agree p t S (Looks (Show n (length s)))) by
    where
      by : Passes p (Looks (Show n (length s))) → OnSheet s (Table.taken (sheet (entry_at (high t)) (order (cells_of t) n) s) (length (order (cells_of t) n))) (ending p (Looks (Show n (length s))))
      by (e1 also e3 also e4 also P) = record { reply = same_answer 0 0 refl (ap length (same_order p t S n e3 e4)) refl (same-sheet p t S n e3 e4 s); stands = S }

  pub fill-same : (n : ℕ) → Same [] (record { reply = level_reply (fill_out t n); table = t; board = [] }) (called p (Looks (Fill n)))
  unfolding called fill_out
  fill-same n = same_end (λ f o. Same [] (record { reply = level_reply f; table = t; board = [] }) o) no_fill (Plain.refused p) (λ k. record { reply = refl; stands = S }) (told (cells_of t) n) _ (agree p t S (Looks (Fill n))) by
    where
      by : Passes p (Looks (Fill n)) → Same [] (record { reply = level_reply (told (cells_of t) n); table = t; board = [] }) (ending p (Looks (Fill n)))
      by (e1 also e3 also e4 also Checks.none) = record { reply = rw (((number p t S n e3).out e4).same_gain, (bytes-are p t S).follow.same_updates); stands = S }
