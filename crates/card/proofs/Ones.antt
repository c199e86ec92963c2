-- Without a table every call gives 1 and changes nothing, whatever room the card has.
use Prim.Native.Nat.{ℕ, suc}
use mathlib.Core.Bool.{Bool, false}
use mathlib.Core.Path.{◌≡◌, refl, ◌∙◌, ap}
use mathlib.Core.List.{List, []}
use lib.ListN.{length}
use Rattle.desk.specs.Calls.{Call, Update, Query, Yield, Fork, Join, Sync, Mark, Drop, Bundle, Looks, Show, Fill, Preview, Verify, Bill, plainly}
use Rattle.desk.specs.Checks.{checks, settle}
use Rattle.desk.proofs.Checks.{no_table_first}
use Rattle.table.specs.Answers.{refused}
use Rattle.table.specs.Halves.{is_table}
use Rattle.table.specs.Out.{Out}
use Rattle.table.specs.Calls.{asked, bill_out, drop_out, fill_out, fork_out, join_out, list_out, mark_out, no_bill, no_fill, no_prospect, preview_out, query_out, sync_out, update_out, verdict, verify_out, yield_out}
use Rattle.table.specs.Served.{level_reply, on_board, on_table, out_reply, plain_reply, prospect_reply}
use Rattle.table.specs.Shared.{batch_shared, count_in, finds_full, unless_full, update_shared}
use Rattle.table.proofs.Brings.{board-blank}
use Rattle.card.specs.Courses.{Plain, sharing, turned_away}

module _ (t : List ℕ) (e : is_table t ≡ false) where
  one : {A : Type 0} (refusal : ℕ → A) (end : A) (c : Call ℕ) → settle (checks (asked t) c) refusal end ≡ refusal 1
  one refusal end c = no_table_first refusal end (asked t) (rw e) c

  on-board : (board : List ℕ) (end : Out) (c : Call ℕ) → on_board t board (settle (checks (asked t) c) (refused t) end) ≡ record { reply = plainly 1 0 []; table = t; board = board }
  on-board board end c = ap (on_board t board) (one (refused t) end c) ∙ board-blank t board {o = refused t 1} refl

  update-one : (full : ℕ → Bool) (c n k bib v : ℕ) → update_shared full t c n k bib v ≡ refused t 1
  unfolding update_shared finds_full update_out
  update-one full c n k bib v = ap (unless_full (full (suc (count_in t))) t) (one (refused t) _ (Update c n k bib v))

  pub no_table : (full : ℕ → Bool) (q : Call (List ℕ)) → sharing full t q ≡ turned_away 1 t (Plain q)
  unfolding query_out yield_out fork_out join_out sync_out mark_out drop_out batch_shared list_out fill_out preview_out verify_out bill_out
  no_table full (Update c n k bib v) = ap on_table (update-one full c n k bib v)
  no_table full (Query c n bib) = ap on_table (one (refused t) _ (Query c n bib))
  no_table full (Yield c board) = on-board board _ (Yield c (length board))
  no_table full (Fork n) = ap on_table (one (refused t) _ (Fork n))
  no_table full (Join n m board) = on-board board _ (Join n m (length board))
  no_table full (Sync m board) = on-board board _ (Sync m (length board))
  no_table full (Mark n name) = ap on_table (one (refused t) _ (Mark n name))
  no_table full (Drop name) = ap on_table (one (refused t) _ (Drop name))
  no_table full (Bundle c n batch board) = on-board board _ (Bundle c n batch (length board))
  no_table full (Looks (Show n sheet)) = ap (λ o. record { reply = out_reply o o.lent; table = t; board = [] }) (one (refused sheet) _ (Looks (Show n (length sheet))))
  no_table full (Looks (Fill n)) = ap (λ f. record { reply = level_reply f; table = t; board = [] }) (one no_fill _ (Looks (Fill n)))
  no_table full (Looks (Preview n m bib)) = ap (λ f. record { reply = prospect_reply f; table = t; board = [] }) (one no_prospect _ (Looks (Preview n m bib)))
  no_table full (Looks (Verify file)) = ap (λ a. record { reply = plain_reply a; table = t; board = [] }) (one (λ code. verdict code false) _ (Looks (Verify file)))
  no_table full (Looks (Bill member)) = ap (λ a. record { reply = plain_reply a; table = t; board = [] }) (one no_bill _ (Looks (Bill member)))
