-- What a verify says of every table, and that our own line-up gets a yes (02, U13).
use Prim.Native.Nat.{ℕ, ◌≤◌}
use mathlib.Core.Bool.{Bool, false}
use mathlib.Core.Path.{◌≡◌, refl, sym, ◌∙◌, ap}
use mathlib.Core.List.{List, []}
use native.Mathlib.Omega.{arith}
use lib.ListN.{length}
use Rattle.lists.proofs.Counts.{few_below}
use Rattle.orderfile.specs.File.{numbers_in, file_of}
use Rattle.orderfile.proofs.Exactly.{else_none, fits-exactly, yes_exactly}
use Rattle.orderfile.proofs.Numbers.{written_bytes}
use Rattle.cells.specs.Sizes.{revisions, updates}
use Rattle.cells.specs.Order.{order}
use Rattle.cells.proofs.Range.{ranges}
use Rattle.boards.specs.Board.{board_bytes}
use Rattle.desk.specs.Calls.{Call, Looks, Verify, answer_on}
use Rattle.desk.proofs.Checks.{took}
use Rattle.diagram.specs.Arbitration.{Explains}
use Rattle.plain.specs.Record.{PlainDay, fresh_day}
use Rattle.plain.specs.Answers.{day_after}
use Rattle.plain.specs.Orders.{updates_in}
use Rattle.plain.proofs.Orders as Plain
use Rattle.table.specs.Halves.{low, cells_of}
use Rattle.table.specs.Out.{table_bytes}
use Rattle.table.specs.Calls.{asked, fits_table, fresh_out, is_out, verdict, verify_out}
use Rattle.table.specs.Out.{Answer}
use Rattle.consistency.specs.Table.{calls, table_after, sheet_with}
use Rattle.consistency.specs.Orders.{OwnGetsYes, OwnOrdersOnDays, VerdictsFit}
use Rattle.consistency.proofs.Table.Stands.{Stands, bytes-are}
use Rattle.consistency.proofs.Table.Orders.{verify-same}
use Rattle.consistency.proofs.Table.Follows.{fresh-stands, stands_after}

pub verdicts_fit : VerdictsFit
unfolding verify_out
verdicts_fit t file e =
    let k = cells_of t in
    let b = fits_table k (numbers_in file) in
    let is = ap (λ (a : Answer). a.value) (took (λ (a : Answer). a.code) (λ code. verdict code false) (λ n. refl) (asked t) (Looks (Verify file)) (verdict 0 b) e).is in
    let exactly = fits-exactly k.updates revisions (is_out k) (order k) (numbers_in file) in
    record {
      agrees = (λ v. exactly.0 ((yes_exactly b).0 (sym is ∙ v)), λ f. is ∙ (yes_exactly b).1 (exactly.1 f));
      else_none = λ h. is ∙ else_none b (λ v. h (is ∙ v));
    }

module _ (t : List ℕ) (h : length t ≡ table_bytes) (single : Bool) (qs : List (Call (List ℕ))) where
  abbrev left : List ℕ
  left = table_after (fresh_out t single board_bytes).lent qs

  abbrev p : PlainDay
  p = day_after single (calls qs)

  S : Stands p left
  unfolding day_after
  S = stands_after qs (fresh_day single) (fresh_out t single board_bytes).lent (fresh-stands t h single)

  -- 4,096 at most
  few : p.day.updates ≤ updates
  few = let B = bytes-are p left S in let e = B.follow.same_updates in let r = (ranges (low left) B.ranged).taken in omega arith

  own-gets-yes : (own : List ℕ) → Explains p.day own → OwnGetsYes left (file_of (updates_in p.day own))
  own-gets-yes own E =
      let ns = updates_in p.day own in
      let all = few_below p.day.updates ns E.updates_once (λ u. (E.updates_all u).0) in
      let f = few in
      let reply = (verify-same p left S (file_of ns)).reply ∙ ap (answer_on (λ ls. sheet_with ls [])) (Plain.own_orders single (calls qs) own E) in
      record {
        are_bytes = written_bytes ns (omega arith) (λ n i. let l = (E.updates_all n).0 i in omega arith);
        is_yes = ap (λ r. record { code = r.code; value = r.value }) reply;
      }

pub own_orders : OwnOrdersOnDays
own_orders t h single qs own E = own-gets-yes t h single qs own E
