-- The board's step behind a call (02, U10): a refusal brings nothing, and a yield, a join and a sync leave what the step asks of the table.
use Prim.Native.Nat.{ℕ}
use mathlib.Core.Bool.{true}
use mathlib.Core.Logic.{inl}
use mathlib.Core.Path.{◌≡◌, refl, sym, ◌∙◌, ap, subst}
use mathlib.Core.List.{List, [], ◌++◌}
use native.Mathlib.Omega.{arith}
use lib.Dec.{ltb}
use lib.ListN.{length}
use borrow.Author.Tests.{ltb-true, not-false}
use Rattle.boards.specs.Board.{posted_all}
use Rattle.cells.specs.Sizes.{clients, main, revisions}
use Rattle.cells.specs.Cells.{Cells, Settles, next_number, settled_since}
use Rattle.cells.specs.Checks.{is_client}
use Rattle.cells.specs.Decode.{cells}
use Rattle.cells.specs.Range.{in_range}
use Rattle.cells.specs.Steps.{close_bytes, fork_bytes, join_bytes}
use Rattle.cells.proofs.Decoded.{close-decoded, fork-decoded, join-decoded}
use Rattle.cells.proofs.Left.{join-leaves}
use Rattle.cells.proofs.Range.{next_ranged, ranges}
use Rattle.cells.proofs.Settled.{close-settles, fork-settles, join-settles, since_none}
use Rattle.cells.proofs.Stays.{Lower, close-stays, fork-stays, join-stays}
use Rattle.desk.specs.Calls.{Join, Sync, Yield, plainly}
use Rattle.desk.specs.Checks.{Check, checks, settle}
use Rattle.desk.proofs.Checks.{Passed, Settled, ◌also◌, goes, settled, stops}
use Rattle.entries.specs.Sizes as Upper
use Rattle.posting.specs.Brought.{entries_posted}
use Rattle.table.specs.Halves.{cells_of, high, is_table, low}
use Rattle.table.specs.Answers.{refused}
use Rattle.table.specs.Out.{Out, table_bytes}
use Rattle.table.specs.Calls.{asked, board_out, join_end, join_out, sync_out, yield_out}
use Rattle.table.specs.Served.{on_board}
use Rattle.table.specs.Shows.{Shows}
use Rattle.std.specs.Prelude.{Result}
use Rattle.table.specs.Told.{left}
use Rattle.table.specs.declared.refusal.Refusal.{Refusal}
use Rattle.table.proofs.Halves.{low_of, lower_of, table_of, upper_length}
use Rattle.table.proofs.Syncs.{joins, left-lower, sync-ends}

-- a call that leaves t as it was brings nothing
pub brings-nothing : (t board : List ℕ) → board_out t t board ≡ board
unfolding board_out posted_all
brings-nothing t board = rw (since_none (cells_of t).settled (cells_of t) (omega arith))

-- so a refusal leaves all that was lent
pub board-blank : (t board : List ℕ) {o : Out} → o ≡ refused t o.code → on_board t board o ≡ record { reply = plainly o.code 0 []; table = t; board = board }
board-blank t board {o} e = ap (on_board t board) e ∙ ap (λ b. record { reply = plainly o.code 0 []; table = t; board = b }) (brings-nothing t board)

pub stays_shown : (t : List ℕ) → is_table t ≡ true → Shows t t
stays_shown t h = record { table = h; settles = inl refl }

-- halves d and u, and the cells of d
pub halves_show : (t d u : List ℕ) (k : Cells) → Lower d → length u ≡ Upper.entry_bytes → cells d ≡ k → Settles (cells_of t).settled k → Shows t (d ++ u)
halves_show t d u k L l e s = record { table = table_of d u L l; settles = rw (low_of d u L.long, e) s }

module _ (t : List ℕ) (h : is_table t ≡ true) where
  L : Lower (low t)
  L = (lower_of t h).1

  upper : length (high t) ≡ Upper.entry_bytes
  upper = upper_length t (lower_of t h).0

  -- refused, the table stays
  pub row_shows : (ks : List Check) (end : Out) → (Passed ks → Shows t end.lent) → Shows t (settle ks (refused t) end).lent
  row_shows ks end f = by (settled (refused t) end ks)
    where
      by : {o : Out} → Settled ks (refused t) end o → Shows t o.lent
      by (stops k i) = stays_shown t h
      by (goes P) = f P

  pub yield-shows : (c room : ℕ) → Shows t (yield_out t c room).lent
  unfolding yield_out
  yield-shows c room = row_shows (checks (asked t) (Yield c room)) _ closes
    where
      closes : Passed (checks (asked t) (Yield c room)) → Shows t (close_bytes (low t) c ++ high t)
      closes (e1 also e19 also e2 also P) =
          let l = ltb-true c clients (not-false (is_client c) e2) in
          halves_show t (close_bytes (low t) c) (high t) _ (close-stays (low t) L c) upper (close-decoded (low t) L c l) (close-settles (cells_of t) c)

  pub join-shows : (n m room : ℕ) → Shows t (join_out t n m room).lent
  unfolding join_out
  join-shows n m room = row_shows (checks (asked t) (Join n m room)) (join_end t n m) (λ P.
      let J = joins t n m room P in
      halves_show t (join_bytes (low t) n m) (high t) _
      (join-stays (low t) L n m J.joiner J.joinee J.some) upper (join-decoded (low t) L n m J.joiner J.joinee) (join-settles (cells_of t) n m))

  pub sync-shows : (m room : ℕ) → Shows t (sync_out t m room).lent
  unfolding sync_out
  sync-shows m room = row_shows (checks (asked t) (Sync m room)) _ (λ P.
      let J = joins t 0 m room P in
      let d = join_bytes (low t) 0 m in
      let D = left-lower t h m J.joinee J.some in
      let c = next_number (cells d) in
      let next = next_ranged (cells d) (ranges d D.ranged) in
      let apart : c ≡ main → ⊥ = λ e. omega (arith, next.0) in
      let free = ltb-true (cells d).out revisions (not-false (ltb (cells d).out revisions) (join-leaves (low t) L 0 m (omega arith) J.joinee)) in
      let joined : Settles (cells_of t).settled (cells d) = rw (join-decoded (low t) L 0 m (omega arith) J.joinee) (join-settles (cells_of t) 0 m) in
      rw (sync-ends t m room P)
      (halves_show t (fork_bytes d 0 c) (high t) _
      (fork-stays d D 0 c (omega arith) next.1 free) upper (fork-decoded d D 0 c (omega arith) next.1 apart) (fork-settles (cells d) (cells_of t).settled 0 c apart joined)))

-- for code: t' is what a call left, and n was read before it
module _ (t t' : List ℕ) (n : ℕ) (e : n ≡ (cells_of t).settled) where
  pub can-bring : (a : Result ℕ Refusal) (o : Out) → left a t' ≡ o → Shows t o.lent → (length t' ≡ table_bytes) × (in_range (low t') ≡ true) × Settles n (cells_of t')
  can-bring a o f s =
      let now : Shows t t' = subst (Shows t) (sym (ap (λ o. o.lent) f)) s in
      let l = lower_of t' now.table in
      (l.0, l.1.ranged, rw e now.settles)

  pub brought-out : (board b : List ℕ) → b ≡ entries_posted (high t') (settled_since n (cells_of t')) board → b ≡ board_out t t' board
  unfolding board_out
  brought-out board b f = f ∙ ap (λ m. entries_posted (high t') (settled_since m (cells_of t')) board) e
