-- A sync ends on the table as on the plain day: its join, and then the fork of what the join left (02, U8).
use Prim.Native.Nat.{ℕ}
use mathlib.Core.Path.{◌∙◌, ◌≡◌, ap, subst, sym}
use mathlib.Core.List.{List, []}
use lib.Dec.{eqb}
use Rattle.lists.proofs.Cases.{cases}
use Rattle.desk.specs.Calls.{Fork, Sync}
use Rattle.desk.proofs.Checks.{same_end}
use Rattle.plain.specs.Record.{PlainDay}
use Rattle.plain.specs.Answers as Plain
use Rattle.plain.specs.Answers.{Outcome, called, joined, synced}
use Rattle.plain.proofs.Ends.{BoxesPass, boxes-pass}
use Rattle.table.specs.Answers as Table
use Rattle.table.specs.Out.{Out}
use Rattle.table.specs.Calls.{as_one, fork_out, join_end, sync_out}
use Rattle.table.specs.Served.{on_table}
use Rattle.consistency.proofs.Table.Stands.{Stands}
use Rattle.consistency.proofs.Table.Rows.{agree}
use Rattle.consistency.proofs.Table.Calls.{OnTable, Same, fork-same, join-end, refused-same}

module _ (p : PlainDay) (t : List ℕ) (S : Stands p t) where
  one_same : (u : Out) (o : Outcome) → Same [] (on_table u) o → Same [] (on_table (as_one t u)) (Plain.as_one p o)
  one_same u o h =
      let k : u.code ≡ o.answer.code = ap (λ r. r.code) h.reply in
      let e = ap (λ k. eqb k 0) k in
      cases (eqb o.answer.code 0)
      (λ q. rw (e ∙ q, q) h)
      (λ q. rw (e ∙ q, q) (subst (λ k. Same [] (on_table (Table.refused t k)) (Plain.refused p o.answer.code)) (sym k) (refused-same p t S o.answer.code)))

  sync-end : (m : ℕ) → BoxesPass p 0 m → OnTable p t S (as_one t (fork_out (join_end t 0 m).lent 0)) (synced p m)
  unfolding called
  sync-end m P =
      let q = (joined p 0 m).next in
      one_same (fork_out (join_end t 0 m).lent 0) (called q (Fork 0)) (fork-same q (join_end t 0 m).lent (join-end p t S 0 m P).stands 0)

  pub sync-same : (m room : ℕ) → OnTable p t S (sync_out t m room) (called p (Sync m room))
  unfolding called sync_out
  sync-same m room = same_end (OnTable p t S) (Table.refused t) (Plain.refused p) (refused-same p t S) _ _ (agree p t S (Sync m room)) (λ P. sync-end m (boxes-pass p 0 m room P))
