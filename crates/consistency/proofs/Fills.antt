-- What fills of a table tell adds up to the updates accepted, after every list of calls (02, U1).
use Prim.Native.Nat.{ℕ, ◌≤◌}
use mathlib.Core.Bool.{Bool}
use mathlib.Core.Path.{◌≡◌, refl, sym, ◌∙◌, ap}
use mathlib.Core.List.{List, [], ◌∷◌}
use lib.ListN.{length}
use Rattle.diagram.specs.Sizes.{revision_limit}
use Rattle.lists.proofs.Sums.{sum-ends, sum_same}
use Rattle.cells.specs.Sizes.{revisions}
use Rattle.boards.specs.Board.{board_bytes}
use Rattle.desk.specs.Calls.{Call, Looks, Fill, call_on}
use Rattle.plain.specs.Record.{PlainDay, fresh_day}
use Rattle.plain.specs.Answers.{called, day_after, answers, answers_from}
use Rattle.plain.specs.Fills.{accepted_in, codes_of}
use Rattle.plain.proofs.Fills as Plain
use Rattle.plain.proofs.Fills.{no-fill}
use Rattle.plain.proofs.Steps.{named}
use Rattle.table.specs.Out.{table_bytes}
use Rattle.table.specs.Calls.{fresh_out, fill_out}
use Rattle.consistency.specs.Table.{calls, replies_on, replies, table_after}
use Rattle.consistency.specs.Fills.{accepted_updates, fill_sum, FillsAddUpOnDays}
use Rattle.consistency.proofs.Table.Stands.{Stands}
use Rattle.consistency.proofs.Table.Calls.{fill-same}
use Rattle.consistency.proofs.Table.Follows.{fresh-stands, stands_after, table_follows}

-- the same codes, at the table and on paper
pub same_codes : (qs : List (Call (List ℕ))) (p : PlainDay) → codes_of (replies qs (answers_from p (calls qs))) ≡ codes_of (answers_from p (calls qs))
unfolding replies answers_from
same_codes [] p = refl
same_codes (q ∷ qs) p = ap (λ codes. (called p (call_on length q)).answer.code ∷ codes) (same_codes qs (called p (call_on length q)).next)

module _ (t : List ℕ) (h : length t ≡ table_bytes) (single : Bool) (qs : List (Call (List ℕ))) where
  left : List ℕ
  left = table_after (fresh_out t single board_bytes).lent qs

  p : PlainDay
  p = day_after single (calls qs)

  S : Stands p left
  unfolding left p day_after
  S = stands_after qs (fresh_day single) (fresh_out t single board_bytes).lent (fresh-stands t h single)

  few : p.day.numbering.given ≤ revisions
  unfolding p revision_limit
  few = (named single (calls qs)).few

  history : accepted_updates qs (replies_on (fresh_out t single board_bytes).lent qs) ≡ accepted_in (calls qs) (codes_of (answers single (calls qs)))
  unfolding answers
  history = ap (accepted_updates qs) ((table_follows t h single).2 qs) ∙ ap (accepted_in (calls qs)) (same_codes qs (fresh_day single))

  summed : fill_sum left ≡ accepted_updates qs (replies_on (fresh_out t single board_bytes).lent qs)
  unfolding p
  summed =
      sum_same revisions _ (λ n. (called p (Looks (Fill n))).answer.value) (λ n l. ap (λ r. r.value) (fill-same p left S n).reply)
      ∙ sum-ends p.day.numbering.given revisions (λ n. (called p (Looks (Fill n))).answer.value) few (no-fill p (named single (calls qs)))
      ∙ (Plain.fills_add_up single (calls qs)).sum
      ∙ sym history

  told : (n : ℕ) → (fill_out left n).code ≡ 0 → (fill_out left n).total ≡ accepted_updates qs (replies_on (fresh_out t single board_bytes).lent qs)
  unfolding p
  told n e = let f = (fill-same p left S n).reply in ap (λ r. r.total) f ∙ (Plain.fills_add_up single (calls qs)).total n (sym (ap (λ r. r.code) f) ∙ e) ∙ sym history

pub fills_add_up : FillsAddUpOnDays
unfolding left
fills_add_up t h single qs = record { sum = summed t h single qs; total = told t h single qs }
