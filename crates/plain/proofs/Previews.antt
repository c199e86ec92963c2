-- A taken preview answers what a join taken there and then would show (02, U6).
use Prim.Native.Nat.{ℕ}
use mathlib.Core.Bool.{false}
use mathlib.Core.Path.{◌≡◌, refl, ◌∙◌, ap, sym}
use mathlib.Core.Option.{none}
use mathlib.Core.List.{[], append-nil}
use lib.ListN.{length}
use Rattle.lists.proofs.Changed.{changed_same}
use Rattle.desk.specs.Calls.{Query, Join, Looks, Preview, reading}
use Rattle.diagram.specs.Diagram.{event}
use Rattle.diagram.specs.Day.{meant, is_given}
use Rattle.diagram.specs.Views.{view, view_step}
use Rattle.diagram.specs.Steps as Steps
use Rattle.diagram.specs.Steps.{after}
use Rattle.diagram.proofs.Graph.Tables.{tabulate-newest}
use Rattle.boards.specs.Board.{board_bytes}
use Rattle.desk.proofs.Checks.{◌also◌}
use Rattle.entries.specs.Folded.{standing_of}
use Rattle.plain.specs.Record.{PlainDay, path_result}
use Rattle.plain.specs.Answers.{called, joined, stepped}
use Rattle.plain.specs.Previews.{Foresees, join_of}
use Rattle.plain.proofs.Ends.{preview-passes, was_taken}
use Rattle.plain.proofs.Exactly.{passed_is}

-- a query reads what its revision's terminal shows
pub reads_terminal : (q : PlainDay) (c r bib : ℕ) → path_result (stepped q (Steps.Event c r false) 0) (length q.day.diagram) bib ≡ path_result q (q.day.terminal r) bib
unfolding after
reads_terminal q c r bib = ap (standing_of q.entries bib) (tabulate-newest view_step [] (event (q.day.terminal r) c none) q.day.diagram ∙ append-nil (view q.day.diagram (q.day.terminal r)))

query_reads : (q : PlainDay) (c n bib : ℕ) → (called q (Query c n bib)).answer.code ≡ 0 → (called q (Query c n bib)).answer ≡ reading (path_result q (q.day.terminal (meant q.day n)) bib) 0 []
query_reads q c n bib e = ap (λ o. o.answer) (was_taken q (Query c n bib) e).1 ∙ ap (λ s. reading s 0 []) (reads_terminal q c (meant q.day n) bib)

-- where a preview is taken so would be the join
pub preview-join : (p : PlainDay) (n m bib : ℕ) → (called p (Looks (Preview n m bib))).answer.code ≡ 0 → called p (Join n m board_bytes) ≡ joined p n m
preview-join p n m bib e = passed_is p (Join n m board_bytes) (refl also refl also (preview-passes p n m bib (was_taken p (Looks (Preview n m bib)) e).0).0)

-- the joiner's line end would be the join vertex, the next one of the day
pub ends_there : (p : PlainDay) (n m bib : ℕ) → (called p (Looks (Preview n m bib))).answer.code ≡ 0 → (join_of p n m).next.day.terminal (meant p.day n) ≡ length p.day.diagram
unfolding after
ends_there p n m bib e = ap (λ o. o.next.day.terminal (meant p.day n)) (preview-join p n m bib e) ∙ changed_same p.day.terminal (meant p.day n) (length p.day.diagram)

pub foresees : (p : PlainDay) (n m bib : ℕ) → (called p (Looks (Preview n m bib))).answer.code ≡ 0 → Foresees p n m bib (called p (Looks (Preview n m bib))).answer
unfolding after is_given meant
foresees p n m bib e = record {
  joins = ap (λ o. o.answer.code) taken;
  is = ap (λ o. o.answer) (was_taken p (Looks (Preview n m bib)) e).1
      ∙ sym (ap (λ z. reading (path_result q z bib) (join_of p n m).answer.value []) ends ∙ ap (λ o. reading (path_result o.next x bib) o.answer.value []) taken);
  query = λ c f. query_reads q c n bib f ∙ ap (λ r. reading (path_result q (q.day.terminal r) bib) 0 []) (ap (λ o. meant o.next.day n) taken);
}
  where
    q : PlainDay
    q = (join_of p n m).next

    x : ℕ
    x = length p.day.diagram

    taken : join_of p n m ≡ joined p n m
    taken = preview-join p n m bib e

    ends : q.day.terminal (meant p.day n) ≡ x
    ends = ends_there p n m bib e
