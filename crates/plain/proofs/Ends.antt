-- What a call that is taken showed: no check of its row applies, it ended as it does, and its steps are accepted.
use Prim.Native.Nat.{ℕ}
use mathlib.Core.Bool.{true, false, not, ◌&&◌, ◌||◌, true≢false}
use mathlib.Core.Path.{◌≡◌, refl}
use mathlib.Core.Option.{none, some}
use lib.Dec.{eqb}
use borrow.Author.Tests.{eqb-true, not-false}
use Rattle.lists.specs.Names.{Name}
use Rattle.lists.proofs.Cases.{or-false}
use Rattle.std.specs.Prelude.{Result, Ok, Err}
use Rattle.updates.specs.declared.kind.Kind.{Kind}
use Rattle.updates.specs.declared.kind.UnknownKind.{UnknownKind}
use Rattle.updates.specs.Kinds.{bad_bib, bad_kind, is_unknown, kind_check, kind_in, kind_of}
use Rattle.boards.specs.Board.{board_bytes, is_wrong_board}
use Rattle.desk.specs.Calls.{Call, Update, Query, Yield, Fork, Join, Mark, Drop, Looks, Preview}
use Rattle.desk.specs.Checks.{checks, join_checks}
use Rattle.desk.proofs.Checks as Rows
use Rattle.desk.proofs.Checks.{Passed, ◌also◌, took}
use Rattle.diagram.specs.Day.{Day, Means, is_given, mark_named, meant}
use Rattle.diagram.proofs.Days.Found.{found, is_found}
use Rattle.diagram.specs.Checks.{busy, marked, not_joinable}
use Rattle.diagram.specs.Steps as Steps
use Rattle.diagram.specs.Accepted.{accepted, not_given}
use Rattle.diagram.proofs.Days.Naming.{meant-given}
use Rattle.diagram.proofs.Days.Accepting.{accept-event, accept-yield, accept-fork, accept-join}
use Rattle.diagram.proofs.Days.Marking as Marking
use Rattle.diagram.proofs.Days.Marking.{Marks}
use Rattle.plain.specs.Record.{PlainDay}
use Rattle.plain.specs.Allowed.{Meaning}
use Rattle.plain.specs.Answers.{Outcome, refused, asked, ending, called}

-- the row of a call on the day
abbrev pub Passes : PlainDay → Call ℕ → Type 0
Passes p c = Passed (checks (asked p) c)

pub was_taken : (p : PlainDay) (c : Call ℕ) → (called p c).answer.code ≡ 0 → Passes p c × (called p c ≡ ending p c)
unfolding called
was_taken p c e = let t = took (λ (o : Outcome). o.answer.code) (refused p) (λ k. refl) (asked p) c (ending p c) e in (t.passed, t.is)

-- 19 does not apply to a board of the right length alone
pub right_board : (room : ℕ) → is_wrong_board room ≡ false → room ≡ board_bytes
right_board room e = eqb-true room board_bytes (not-false _ e)

-- a byte that is no unknown kind is its kind
is_kind : (k : Result Kind UnknownKind) → is_unknown k ≡ false → k ≡ Ok (kind_in k)
is_kind (Err x) e = absurd (true≢false e)
is_kind (Ok kind) e = refl

pub known-kind : (bib k : ℕ) → (bad_bib bib || bad_kind k) ≡ false → (bad_bib bib ≡ false) × (kind_check k ≡ Ok (kind_of k))
known-kind bib k e = let o = or-false (bad_bib bib) (bad_kind k) e in (o.0, is_kind (kind_check k) o.1)

-- code 3 does not apply to a number that means something
pub given : {y : Day} {n : ℕ} {P : ℕ → Type 0} → Meaning y n P → not (is_given y n) ≡ false
given M = rw M.given

module _ (p : PlainDay) where
  abbrev y : Day
  y = p.day

  pub means : (n : ℕ) → not (is_given y n) ≡ false → found y n ≡ some (meant y n)
  means n e = is_found y n (not-false (is_given y n) e)

  pub meaning : (n : ℕ) → not (is_given y n) ≡ false → Means y n (meant y n)
  meaning n e = (not-false (is_given y n) e, refl)

  known : (n : ℕ) → not (is_given y n) ≡ false → not_given y (meant y n) ≡ false
  known n e = meant-given y n (meant y n) (means n e)

  pub update-accepts : (c n k bib v : ℕ) → Passes p (Update c n k bib v) → accepted y (Steps.Event c (meant y n) true) ≡ true
  update-accepts c n k bib v (e1 also e2 also e3 also e4 also e16 also e5 also e6 also e7 also e8 also e9 also Rows.none) = accept-event y c (meant y n) true e2 (known n e3) e4 e16 e6 e7 e8 e9

  pub query-accepts : (c n bib : ℕ) → Passes p (Query c n bib) → accepted y (Steps.Event c (meant y n) false) ≡ true
  query-accepts c n bib (e1 also e2 also e3 also e4 also e16 also e5 also e6 also e7 also e8 also Rows.none) = accept-event y c (meant y n) false e2 (known n e3) e4 e16 e6 e7 e8 refl

  pub yield-accepts : (c room : ℕ) → Passes p (Yield c room) → accepted y (Steps.Yield c) ≡ true
  yield-accepts c room (e1 also e19 also e2 also Rows.none) = accept-yield y c e2

  pub fork-accepts : (n : ℕ) → Passes p (Fork n) → accepted y (Steps.Fork (meant y n) none) ≡ true
  fork-accepts n (e1 also e3 also e4 also e15 also e7 also e10 also Rows.none) = accept-fork y (meant y n) none (known n e3) e4 e7 e10 refl

  pub mark-accepts : (n : ℕ) (name : Name) → Passes p (Mark n name) → accepted y (Steps.Fork (meant y n) (some name)) ≡ true
  mark-accepts n name (e1 also e3 also e4 also e15 also e7 also e10 also e17 also Rows.none) = accept-fork y (meant y n) (some name) (known n e3) e4 e7 e10 e17

  -- a mark is out, so that a drop has no refusal but 18
  pub drop-accepts : Marks y → (name : Name) → Passes p (Drop name) → accepted y (Steps.Drop (mark_named y name)) ≡ true
  drop-accepts M name (e1 also e18 also Rows.none) = Marking.drop-accepts y M name (not-false _ e18)

  -- of a join, and so of a preview and a sync
  pub record Joins (n m : ℕ) : Type 0 where
    pub joiner : is_given y n ≡ true
    pub joinee : is_given y m ≡ true
    pub on_line : (p.single && not (eqb n 0)) ≡ false
    pub accepts : accepted y (Steps.Join (meant y n) (meant y m)) ≡ true

  joins-by : (n m : ℕ) → (not (is_given y n) || not (is_given y m)) ≡ false → (y.joined (meant y n) || y.joined (meant y m)) ≡ false → (p.single && not (eqb n 0)) ≡ false
      → (marked y (meant y n) || marked y (meant y m)) ≡ false → (busy y (meant y n) || busy y (meant y m)) ≡ false → not_joinable y (meant y n) (meant y m) ≡ false → Joins n m
  joins-by n m e3 e4 e15 e16 e7 e11 =
      let g = or-false (not (is_given y n)) (not (is_given y m)) e3 in
      let o = or-false (y.joined (meant y n)) (y.joined (meant y m)) e4 in
      let k = or-false (marked y (meant y n)) (marked y (meant y m)) e16 in
      let i = or-false (busy y (meant y n)) (busy y (meant y m)) e7 in
      record { joiner = not-false (is_given y n) g.0; joinee = not-false (is_given y m) g.1; on_line = e15; accepts = accept-join y (meant y n) (meant y m) (known n g.0) (known m g.1) o.0 o.1 k.0 k.1 i.0 i.1 e11 }

  -- the checks of a join, those of its table and board apart
  abbrev pub BoxesPass : ℕ → ℕ → Type 0
  BoxesPass n m = Passed (join_checks (asked p) n m)

  pub join-passes : (n m : ℕ) → BoxesPass n m → Joins n m
  join-passes n m (e3 also e4 also e15 also e16 also e7 also e11 also Rows.none) = joins-by n m e3 e4 e15 e16 e7 e11

  -- they are in the row of a join, and of a sync, which is that of a join into box 0
  pub boxes-pass : (n m room : ℕ) → Passes p (Join n m room) → BoxesPass n m
  boxes-pass n m room (e1 also e19 also P) = P

  pub board-passes : (n m room : ℕ) → Passes p (Join n m room) → room ≡ board_bytes
  board-passes n m room (e1 also e19 also P) = right_board room e19

  -- and in that of a preview
  pub preview-passes : (n m bib : ℕ) → Passes p (Looks (Preview n m bib)) → BoxesPass n m × (bad_bib bib ≡ false)
  preview-passes n m bib (e1 also e3 also e4 also e15 also e16 also e7 also e11 also e5 also Rows.none) =
      (e3 also e4 also e15 also e16 also e7 also e11 also Rows.none, e5)
