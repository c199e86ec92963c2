-- A taken sync is a join and a fork, whatever the buffer is; after every list of calls from a fresh table no sync has 10, and on single-main days 11 arises
-- only with joinee 0 (02, U8).
use Prim.Native.Nat.{ℕ}
use mathlib.Core.Bool.{Bool, true, ◌||◌, and-false, true≢false}
use mathlib.Core.Path.{◌≡◌, refl, sym, ◌∙◌, ap, subst}
use mathlib.Core.List.{List, [], ◌++◌, ◌∷◌}
use native.Mathlib.Omega.{arith}
use lib.Dec.{eqb}
use lib.ListN.{length}
use borrow.Author.Tests.{eqb-false}
use Rattle.lists.proofs.Cases.{cases}
use Rattle.boards.specs.Board.{board_bytes, is_wrong_board}
use Rattle.desk.specs.Calls.{Call, Join, Looks, Preview, Sync}
use Rattle.desk.specs.Checks.{◌if◌}
use Rattle.desk.proofs.Checks.{code-exactly, goes_on, took}
use Rattle.cells.specs.Checks.{off_line}
use Rattle.plain.specs.Record.{PlainDay, fresh_day}
use Rattle.plain.specs.Answers.{called, day_after}
use Rattle.plain.proofs.Syncs.{never_ten, on_single_main}
use Rattle.table.specs.Halves.{cells_of}
use Rattle.table.specs.Answers.{refused}
use Rattle.table.specs.Out.{Out, table_bytes}
use Rattle.table.specs.Calls.{as_one, asked, fork_out, fresh_out, join_end, join_out, preview_out, sync_out}
use Rattle.consistency.specs.Table.{calls, table_after}
use Rattle.consistency.specs.Syncs.{NeverOffLine, SyncsAreBoth, SyncsOnDays}
use Rattle.consistency.proofs.Table.Stands.{Stands}
use Rattle.consistency.proofs.Table.Calls.{join-same}
use Rattle.consistency.proofs.Table.Previews.{preview-same}
use Rattle.consistency.proofs.Table.Syncs.{sync-same}
use Rattle.consistency.proofs.Table.Follows.{fresh-stands, stands_after}

one_is : (t : List ℕ) (o : Out) → (as_one t o).code ≡ 0 → as_one t o ≡ o
one_is t o z = cases (eqb o.code 0) (λ q. rw q) (λ q. absurd (eqb-false _ 0 q (rw q at z)))

pub syncs_are_both : SyncsAreBoth
unfolding sync_out join_out
syncs_are_both t m room e =
    let w = took (λ (o : Out). o.code) (refused t) (λ k. refl) (asked t) (Sync m room) (as_one t (fork_out (join_end t 0 m).lent 0)) e in
    let j : join_out t 0 m room ≡ join_end t 0 m = goes_on (refused t) (join_end t 0 m) _ w.passed in
    (ap (λ (o : Out). o.code) j, w.is ∙ one_is t (fork_out (join_end t 0 m).lent 0) (rw w.is at e) ∙ ap (λ (o : Out). fork_out o.lent 0) (sym j))

-- box 0 is on the line
main-line : (t : List ℕ) → off_line (cells_of t) 0 ≡ true → ⊥
main-line t e = true≢false (sym e ∙ and-false (cells_of t).single)

fork_line : (t : List ℕ) → (fork_out t 0).code ≡ 15 → ⊥
unfolding fork_out
fork_line t e =
    let q = asked t in
    let first = 1 if q.no_table ∷ 3 if q.never 0 ∷ 4 if q.joined 0 ∷ [] in
    let last = 7 if q.busy 0 ∷ 10 if q.all_out ∷ [] in
    main-line t ((code-exactly (λ (o : Out). o.code) (refused t) (λ k. refl) _ (15 if q.off_line 0) (λ z. omega arith) first last refl refl).0 e).1

one_code : (t : List ℕ) (o : Out) → (as_one t o).code ≡ o.code
one_code t o = cases (eqb o.code 0) (λ q. rw q) (λ q. rw q)

pub never_off_line : NeverOffLine
unfolding sync_out
never_off_line t m room e =
    let q = asked t in
    let d = (join_end t 0 m).lent in
    let first = 1 if q.no_table ∷ 19 if is_wrong_board room ∷ 3 if (q.never 0 || q.never m) ∷ 4 if (q.joined 0 || q.joined m) ∷ [] in
    let last = 16 if (q.marked 0 || q.marked m) ∷ 7 if (q.busy 0 || q.busy m) ∷ 11 if q.unjoinable 0 m ∷ [] in
    main-line t ((code-exactly (λ (o : Out). o.code) (refused t) (λ k. refl) (as_one t (fork_out d 0)) (15 if q.off_line 0) (λ z. fork_line d (sym (one_code t (fork_out d 0)) ∙ z)) first last refl refl).0 e).1

module _ (t : List ℕ) (h : length t ≡ table_bytes) (single : Bool) (qs : List (Call (List ℕ))) where
  abbrev left : List ℕ
  left = table_after (fresh_out t single board_bytes).lent qs

  abbrev p : PlainDay
  p = day_after single (calls qs)

  S : Stands p left
  unfolding day_after
  S = stands_after qs (fresh_day single) (fresh_out t single board_bytes).lent (fresh-stands t h single)

  join-code : (n m room : ℕ) → (join_out left n m room).code ≡ (called p (Join n m room)).answer.code
  join-code n m room = ap (λ r. r.code) (join-same p left S n m room).reply

  sync-code : (m room : ℕ) → (sync_out left m room).code ≡ (called p (Sync m room)).answer.code
  sync-code m room = ap (λ r. r.code) (sync-same p left S m room).reply

  preview-code : (n m bib : ℕ) → (preview_out left n m bib).code ≡ (called p (Looks (Preview n m bib))).answer.code
  preview-code n m bib = ap (λ r. r.code) (preview-same p left S n m bib).reply

  -- on a single-main day
  with-choice : single ≡ true → (c : Call ℕ) → (called p c).answer.code ≡ 11 → (called (day_after true (calls qs)) c).answer.code ≡ 11
  with-choice e c z = subst (λ b. (called (day_after b (calls qs)) c).answer.code ≡ 11) e z

pub syncs_on_days : SyncsOnDays
syncs_on_days t h single qs =
    let cs = calls qs in
    record {
      never_ten = λ m room e. never_ten single cs m room (sym (sync-code t h single qs m room) ∙ e);
      join_eleven = λ s n m room e. (on_single_main (cs ++ (Join n m room ∷ []))).join_eleven cs [] n m room refl (with-choice t h single qs s (Join n m room) (sym (join-code t h single qs n m room) ∙ e));
      sync_eleven = λ s m room e. (on_single_main (cs ++ (Sync m room ∷ []))).sync_eleven cs [] m room refl (with-choice t h single qs s (Sync m room) (sym (sync-code t h single qs m room) ∙ e));
      preview_eleven = λ s n m bib e. (on_single_main (cs ++ (Looks (Preview n m bib) ∷ []))).preview_eleven cs [] n m bib refl (with-choice t h single qs s (Looks (Preview n m bib)) (sym (preview-code t h single qs n m bib) ∙ e));
    }
