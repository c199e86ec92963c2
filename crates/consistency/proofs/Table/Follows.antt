-- The theorem: every call answers as on the plain day and leaves a table that stands for the day it leaves, and so does every list of calls.
use Prim.Native.Nat.{ℕ, ◌+◌}
use mathlib.Core.Bool.{Bool}
use mathlib.Core.Path.{◌≡◌, refl, ◌∙◌}
use mathlib.Core.List.{List, [], ◌∷◌, ◌++◌}
use native.Mathlib.Omega.{arith}
use lib.ListN.{length, length-append, replicate, length-replicate}
use borrow.Author.Tests.{eq-eqb}
use Rattle.diagram.specs.Steps.{run, run_from}
use Rattle.cells.specs.Sizes as Lower
use Rattle.cells.specs.Steps.{fresh_bytes}
use Rattle.entries.specs.Sizes as Upper
use Rattle.boards.specs.Board.{board_bytes}
use Rattle.desk.specs.Calls.{Call, Update, Query, Yield, Fork, Join, Sync, Mark, Drop, Bundle, Looks, Show, Fill, Preview, Verify, Bill, Records, Entries, call_on}
use Rattle.plain.specs.Record.{PlainDay, fresh_day}
use Rattle.plain.specs.Answers.{Outcome, called, answers, answers_from, day_from}
use Rattle.table.specs.Out.{Out, table_bytes}
use Rattle.table.specs.Calls.{fresh_out}
use Rattle.table.specs.Served.{on_board, on_table, served, sheet_of}
use Rattle.table.proofs.Halves.{low_of}
use Rattle.following.specs.Reached.{bytes_after, bytes_from}
use Rattle.following.proofs.Follow.{bytes_follow}
use Rattle.consistency.specs.Table.{calls, replies_on, table_after, replies}
use Rattle.consistency.proofs.Table.Stands.{Stands}
use Rattle.consistency.proofs.Table.Calls.{Same, update_same, query-same, yield-same, fork-same, join-same, mark-same, drop-same, list_same, fill-same}
use Rattle.consistency.proofs.Table.Bundles.{bundle_same, entries_same}
use Rattle.consistency.proofs.Table.Previews.{preview-same}
use Rattle.consistency.proofs.Table.Orders.{verify-same}
use Rattle.consistency.proofs.Table.Bills.{bill-same}
use Rattle.consistency.proofs.Table.Syncs.{sync-same}

module _ (p : PlainDay) (t : List ℕ) (S : Stands p t) where
  -- a board that is lent besides changes neither answer nor table
  on-board : {u : Out} {o : Outcome} (board : List ℕ) → Same [] (on_table u) o → Same [] (on_board t board u) o
  on-board board h = record { reply = h.reply; stands = h.stands }

  pub call_same : (q : Call (List ℕ)) → Same (sheet_of q) (served t q) (called p (call_on length q))
  call_same (Update c n k bib v) = update_same p t S c n k bib v
  call_same (Query c n bib) = query-same p t S c n bib
  call_same (Yield c board) = on-board board (yield-same p t S c (length board))
  call_same (Fork n) = fork-same p t S n
  call_same (Join n m board) = on-board board (join-same p t S n m (length board))
  call_same (Sync m board) = on-board board (sync-same p t S m (length board))
  call_same (Mark n name) = mark-same p t S n name
  call_same (Drop name) = drop-same p t S name
  call_same (Bundle c n (Records bytes) board) = on-board board (bundle_same p t S c n bytes (length board))
  call_same (Bundle c n (Entries es) board) = on-board board (entries_same p t S c n es (length board))
  call_same (Looks (Show n s)) = list_same p t S n s
  call_same (Looks (Fill n)) = fill-same p t S n
  call_same (Looks (Preview n m bib)) = preview-same p t S n m bib
  call_same (Looks (Verify file)) = verify-same p t S file
  call_same (Looks (Bill member)) = bill-same p t S member

filled : (a : List ℕ) (n m k : ℕ) → length a ≡ n → n + m ≡ k → length (a ++ replicate m 0) ≡ k
filled a n m k e f = length-append a (replicate m 0) ∙ rw (e, length-replicate {A = ℕ} m 0) f

-- a fresh table stands for the fresh day
pub fresh-stands : (t : List ℕ) → length t ≡ table_bytes → (single : Bool) → Stands (fresh_day single) (fresh_out t single board_bytes).lent
unfolding fresh_out bytes_after bytes_from run run_from
fresh-stands t h single =
    rw (eq-eqb (length t) table_bytes h)
    (record {
      steps = [];
      ok = tt;
      day_is = refl;
      low_is = low_of (fresh_bytes single) (replicate Upper.entry_bytes 0) fresh-size;
      boxes_are = refl;
      size = filled (fresh_bytes single) Lower.lower_bytes Upper.entry_bytes table_bytes fresh-size refl;
      entries_are = λ n k. absurd (omega arith);
    })
  where
    fresh-size : length (fresh_bytes single) ≡ Lower.lower_bytes
    fresh-size = (bytes_follow single [] tt).size

replies_from : (qs : List (Call (List ℕ))) (p : PlainDay) (t : List ℕ) → Stands p t → replies_on t qs ≡ replies qs (answers_from p (calls qs))
unfolding replies_on replies answers_from
replies_from [] p t S = refl
replies_from (q ∷ qs) p t S =
    let h = call_same p t S q in
    let first = h.reply in
    let rest = replies_from qs (called p (call_on length q)).next (served t q).table h.stands in
    λ i. first i ∷ rest i

-- the table that a list of calls leaves stands for the day that it leaves
pub stands_after : (qs : List (Call (List ℕ))) (p : PlainDay) (t : List ℕ) → Stands p t → Stands (day_from p (calls qs)) (table_after t qs)
unfolding table_after day_from
stands_after [] p t S = S
stands_after (q ∷ qs) p t S = stands_after qs (called p (call_on length q)).next (served t q).table (call_same p t S q).stands

pub table_follows : (t : List ℕ) → length t ≡ table_bytes → (single : Bool)
    → ((fresh_out t single board_bytes).code ≡ 0) × ((fresh_out t single board_bytes).value ≡ 0) × ((qs : List (Call (List ℕ))) → replies_on (fresh_out t single board_bytes).lent qs ≡ replies qs (answers single (calls qs)))
unfolding answers fresh_out
table_follows t h single =
    (rw (eq-eqb (length t) table_bytes h), rw (eq-eqb (length t) table_bytes h), λ qs. replies_from qs (fresh_day single) (fresh_out t single board_bytes).lent (fresh-stands t h single))
