-- A bill tells at the table what it tells on the plain day: its cell has the boxes started, until the count stops (02, U14).
use Prim.Native.Nat.{ℕ}
use mathlib.Core.Bool.{Bool}
use mathlib.Core.Path.{◌≡◌, refl, ◌∙◌, ap₂}
use mathlib.Core.List.{List, []}
use Rattle.bills.specs.Bill.{bill}
use Rattle.bills.proofs.Grows.{bill-counted}
use Rattle.desk.specs.Calls.{Looks, Bill}
use Rattle.desk.proofs.Checks.{same_end}
use Rattle.plain.specs.Record.{PlainDay}
use Rattle.plain.specs.Answers as Plain
use Rattle.plain.specs.Answers.{called}
use Rattle.table.specs.Halves.{cells_of}
use Rattle.table.specs.Calls.{bill_out, no_bill}
use Rattle.table.specs.Served.{plain_reply}
use Rattle.consistency.proofs.Table.Stands.{Stands, bytes-are, started-is}
use Rattle.consistency.proofs.Table.Rows.{agree}
use Rattle.consistency.proofs.Table.Calls.{Same, same_answer}

module _ (p : PlainDay) (t : List ℕ) (S : Stands p t) where
  same-bill : (member : Bool) → bill (cells_of t).started (cells_of t).updates member ≡ bill p.started p.day.updates member
  same-bill member = ap₂ (λ a u. bill a u member) (started-is p t S) (bytes-are p t S).follow.same_updates ∙ bill-counted p.started p.day.updates member

  pub bill-same : (member : Bool) → Same [] (record { reply = plain_reply (bill_out t member); table = t; board = [] }) (called p (Looks (Bill member)))
  unfolding called bill_out
  bill-same member =
      same_end (λ a o. Same [] (record { reply = plain_reply a; table = t; board = [] }) o) no_bill (Plain.refused p) (λ k. record { reply = refl; stands = S }) _ _ (agree p t S (Looks (Bill member)))
      (λ P. record { reply = same_answer 0 0 refl (same-bill member) refl refl; stands = S })
