-- A preview ends on the table as on the plain day: the joined copy stands for the day with the join.
use Prim.Native.Nat.{ℕ}
use mathlib.Core.Bool.{false, true, not}
use mathlib.Core.Path.{◌≡◌, refl, sym, ◌∙◌, ap}
use mathlib.Core.List.{List, []}
use lib.ListN.{length}
use Rattle.lists.proofs.Cases.{or-false}
use Rattle.lists.proofs.Changed.{changed-other, changed_same}
use Rattle.updates.specs.Effect.{state_of, value_in}
use Rattle.desk.specs.Calls.{Looks, Preview}
use Rattle.desk.proofs.Checks.{◌also◌, same_end}
use Rattle.diagram.specs.Day.{meant, is_given}
use Rattle.diagram.specs.Steps.{after}
use Rattle.diagram.proofs.Days.Moves.{CanJoin, can-join}
use Rattle.plain.specs.Record.{PlainDay, path_result}
use Rattle.plain.specs.Answers as Plain
use Rattle.plain.specs.Answers.{called, ending, joined}
use Rattle.plain.proofs.Ends.{BoxesPass, Passes, join-passes, preview-passes}
use Rattle.table.specs.Calls.{foreseen, join_end, no_prospect, preview_out, standing_at}
use Rattle.table.specs.Served.{prospect_reply}
use Rattle.consistency.proofs.Table.Stands.{Stands}
use Rattle.consistency.proofs.Table.Rows.{agree}
use Rattle.consistency.proofs.Table.Calls.{OnTable, Same, join-end, same_answer}
use Rattle.consistency.proofs.Table.Values.{same-reading}

-- a join that would be taken: the copy stands for the day with the join
module _ (p : PlainDay) (t : List ℕ) (S : Stands p t) (n m : ℕ) (P : BoxesPass p n m) where
  abbrev a : ℕ
  a = meant p.day n

  abbrev q : PlainDay
  q = (joined p n m).next

  abbrev copy : List ℕ
  copy = (join_end t n m).lent

  pub as-joined : OnTable p t S (join_end t n m) (joined p n m)
  as-joined = join-end p t S n m P

  can : CanJoin p.day a (meant p.day m)
  can = can-join p.day a (meant p.day m) (join-passes p n m P).accepts

  given : not (is_given q.day n) ≡ false
  unfolding after is_given meant
  given = by P
    where
      by : BoxesPass p n m → not (is_given p.day n) ≡ false
      by (e3 also R) = (or-false (not (is_given p.day n)) (not (is_given p.day m)) e3).0

  same_bearer : meant q.day n ≡ a
  unfolding after is_given meant
  same_bearer = refl

  out : q.day.joined (meant q.day n) ≡ false
  unfolding after
  out = ap q.day.joined same_bearer ∙ changed-other p.day.joined (meant p.day m) true a (λ z. can.not_self (sym z)) ∙ can.out_a.1

  -- the join vertex, at which the joiner then ends, is read on the copy
  pub copy-reads : (bib : ℕ) → standing_at copy n bib ≡ path_result q (length p.day.diagram) bib
  unfolding after
  copy-reads bib = same-reading q copy as-joined.stands n given out bib ∙ ap (λ z. path_result q z bib) (ap q.day.terminal same_bearer ∙ changed_same p.day.terminal a (length p.day.diagram))

module _ (p : PlainDay) (t : List ℕ) (S : Stands p t) where
  preview-end : (n m bib : ℕ) → Passes p (Looks (Preview n m bib)) → Same [] (record { reply = prospect_reply (foreseen (standing_at (join_end t n m).lent n bib) (join_end t n m).value); table = t; board = [] }) (ending p (Looks (Preview n m bib)))
  preview-end n m bib P =
      let J = (preview-passes p n m bib P).0 in
      let s = copy-reads p t S n m J bib in
      record { reply = same_answer 0 0 (ap state_of s) (ap value_in s) (ap (λ r. r.value) (as-joined p t S n m J).reply) refl; stands = S }

  pub preview-same : (n m bib : ℕ) → Same [] (record { reply = prospect_reply (preview_out t n m bib); table = t; board = [] }) (called p (Looks (Preview n m bib)))
  unfolding called preview_out
  preview-same n m bib =
      same_end (λ f o. Same [] (record { reply = prospect_reply f; table = t; board = [] }) o) no_prospect (Plain.refused p) (λ k. record { reply = refl; stands = S }) _ _ (agree p t S (Looks (Preview n m bib))) (preview-end n m bib)
