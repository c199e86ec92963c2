-- Bills of a table made fresh are those of the calls and their replies, and no further call lowers one (02, U14).
use Prim.Native.Nat.{ℕ, ◌≤◌}
use mathlib.Core.Bool.{Bool}
use mathlib.Core.Path.{◌≡◌, refl, sym, ◌∙◌, ap}
use mathlib.Core.List.{List, [], ◌∷◌, ◌++◌}
use lib.ListN.{length}
use Rattle.boards.specs.Board.{board_bytes}
use Rattle.desk.specs.Calls as Desk
use Rattle.desk.specs.Calls.{Bill, Call, Looks, call_on}
use Rattle.plain.specs.Record.{Line, fresh_day}
use Rattle.plain.specs.Answers.{answers, called, day_after}
use Rattle.plain.specs.Fills.{codes_of}
use Rattle.plain.specs.Bills.{bill_after, bill_in}
use Rattle.plain.proofs.Bills as Plain
use Rattle.table.specs.Out.{table_bytes}
use Rattle.table.specs.Calls.{bill_out, fresh_out}
use Rattle.table.specs.Out.{Answer}
use Rattle.consistency.specs.Table.{calls, replies_on, table_after}
use Rattle.consistency.specs.Bills.{BillsOnDays, bill_of}
use Rattle.consistency.proofs.Fills.{same_codes}
use Rattle.consistency.proofs.Table.Stands.{Stands}
use Rattle.consistency.proofs.Table.Bills.{bill-same}
use Rattle.consistency.proofs.Table.Follows.{fresh-stands, stands_after, table_follows}

calls_both : (qs more : List (Call (List ℕ))) → calls (qs ++ more) ≡ calls qs ++ calls more
calls_both [] more = refl
calls_both (q ∷ qs) more = ap (λ cs. call_on length q ∷ cs) (calls_both qs more)

module _ (t : List ℕ) (h : length t ≡ table_bytes) (single : Bool) where
  abbrev left : List (Call (List ℕ)) → List ℕ
  left qs = table_after (fresh_out t single board_bytes).lent qs

  stands : (qs : List (Call (List ℕ))) → Stands (day_after single (calls qs)) (left qs)
  unfolding day_after
  stands qs = stands_after qs (fresh_day single) (fresh_out t single board_bytes).lent (fresh-stands t h single)

  codes-are : (qs : List (Call (List ℕ))) → codes_of (replies_on (fresh_out t single board_bytes).lent qs) ≡ codes_of (answers single (calls qs))
  unfolding answers
  codes-are qs = ap codes_of ((table_follows t h single).2 qs) ∙ same_codes qs (fresh_day single)

  abbrev on_paper : List (Call (List ℕ)) → Bool → Desk.Answer (List Line)
  on_paper qs member = (called (day_after single (calls qs)) (Looks (Bill member))).answer

  told-as : (qs : List (Call (List ℕ))) (member : Bool) → bill_out (left qs) member ≡ record { code = (on_paper qs member).code; value = (on_paper qs member).value }
  told-as qs member = ap (λ r. record { code = r.code; value = r.value }) (bill-same (day_after single (calls qs)) (left qs) (stands qs) member).reply

  told : (qs : List (Call (List ℕ))) (member : Bool) → bill_out (left qs) member ≡ record { code = 0; value = bill_of qs (replies_on (fresh_out t single board_bytes).lent qs) member }
  told qs member =
      told-as qs member
      ∙ ap (λ a. record { code = a.code; value = a.value }) (Plain.told single (calls qs) member)
      ∙ ap (λ codes. record { code = 0; value = bill_in (calls qs) codes member }) (sym (codes-are qs))

  value-is : (qs : List (Call (List ℕ))) (member : Bool) → (bill_out (left qs) member).value ≡ bill_after single (calls qs) member
  value-is qs member = ap (λ (a : Answer). a.value) (told-as qs member)

  grows : (qs more : List (Call (List ℕ))) (member : Bool) → (bill_out (left qs) member).value ≤ (bill_out (left (qs ++ more)) member).value
  grows qs more member =
      rw (value-is qs member, value-is (qs ++ more) member) (Plain.bills_grow single (calls (qs ++ more)) (calls qs) (calls more) (calls_both qs more) member)

pub bills_on_days : BillsOnDays
bills_on_days t h single qs = record { told = told t h single qs; grows = grows t h single qs }
