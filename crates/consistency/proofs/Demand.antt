-- Demand 3 of the table: the agreement, the line-up of the plain day, and boards that stay right. The starred edges at a table.
use Prim.Native.Nat.{ℕ}
use mathlib.Core.Bool.{Bool, true, false}
use mathlib.Core.Path.{◌≡◌, refl, sym, ◌∙◌, ap, subst}
use mathlib.Core.List.Memᴰ
use mathlib.Core.List.{List, [], ◌∷◌, Memᴰ}
use lib.ListN.{length, length-replicate, replicate}
use Rattle.lists.proofs.Cases.{either}
use Rattle.boards.specs.Board.{board_bytes}
use Rattle.desk.specs.Calls.{Call, Update, Query, Yield, Fork, Join, Sync, Mark, Drop, Bundle, Looks, Show, Fill, Preview, Verify, Bill, Answer, answer_on, call_on, calls_on}
use Rattle.plain.specs.Record.{PlainDay, fresh_day}
use Rattle.plain.specs.Answers.{called, answers, answers_from, day_after}
use Rattle.plain.specs.Edges as Edges
use Rattle.plain.specs.Edges.{Edge, computed}
use Rattle.plain.proofs.Edges.{edges_hold, codes_hold, reused_hold, marks_hold, on_line_hold, orders_hold, boards_hold, bills_hold}
use Rattle.plain.proofs.LineUp.{lined-up}
use Rattle.plain.proofs.Steps.{never_one}
use Rattle.table.specs.Out.{table_bytes}
use Rattle.table.specs.Calls.{fresh_out}
use Rattle.consistency.specs.Table.{calls, replies, table_after}
use Rattle.consistency.specs.Demand.{DemandThree}
use Rattle.consistency.specs.Edges.{computed_on, EdgesHold}
use Rattle.consistency.proofs.Table.Follows.{fresh-stands, stands_after, table_follows}
use Rattle.consistency.proofs.Boards.{keeps-board}

never_from : (qs : List (Call (List ℕ))) (p : PlainDay) (r : Answer (List ℕ)) → Memᴰ r (replies qs (answers_from p (calls qs))) → r.code ≡ 1 → ⊥
unfolding replies answers_from
never_from [] p r i = absurd (Memᴰ.not-nil i)
never_from (q ∷ qs) p r i = either (Memᴰ.cases_cons i) (λ e n. never_one p (call_on length q) (sym (ap (λ r. r.code) e) ∙ n)) (never_from qs (called p (call_on length q)).next r)

pub demand_three : DemandThree
unfolding answers day_after
demand_three t h single qs =
    let f = table_follows t h single in
    record {
      fresh_code = f.0;
      fresh_value = f.1;
      agreement = f.2 qs;
      sound = λ r i. never_from qs (fresh_day single) r (subst (Memᴰ r) (f.2 qs) i);
      line_up = lined-up single (calls qs);
      boards = λ before rest q place board. keeps-board (day_after single (calls before)) (table_after (fresh_out t single board_bytes).lent before) (stands_after before (fresh_day single) (fresh_out t single board_bytes).lent (fresh-stands t h single)) board q;
    }

-- a call asked with a sheet or a board of zeros is the call
abbrev zeros : ℕ → List ℕ
zeros room = replicate room 0

same_call : (c : Call ℕ) → call_on length (call_on zeros c) ≡ c
same_call (Update c n k bib v) = refl
same_call (Query c n bib) = refl
same_call (Yield c room) = ap (Yield c) (length-replicate {A = ℕ} room 0)
same_call (Fork n) = refl
same_call (Join n m room) = ap (Join n m) (length-replicate {A = ℕ} room 0)
same_call (Sync m room) = ap (Sync m) (length-replicate {A = ℕ} room 0)
same_call (Mark n name) = refl
same_call (Drop name) = refl
same_call (Bundle c n batch room) = ap (Bundle c n batch) (length-replicate {A = ℕ} room 0)
same_call (Looks (Show n room)) = ap (λ l. Looks (Show n l)) (length-replicate {A = ℕ} room 0)
same_call (Looks (Fill n)) = refl
same_call (Looks (Preview n m bib)) = refl
same_call (Looks (Verify file)) = refl
same_call (Looks (Bill member)) = refl

same_calls : (cs : List (Call ℕ)) → calls (calls_on zeros cs) ≡ cs
same_calls [] = refl
same_calls (c ∷ cs) = let first = same_call c in let rest = same_calls cs in λ i. first i ∷ rest i

said_from : (qs : List (Call (List ℕ))) (p : PlainDay) → Edges.said (replies qs (answers_from p (calls qs))) ≡ Edges.said (answers_from p (calls qs))
unfolding replies answers_from
said_from [] p = refl
said_from (q ∷ qs) p = ap (λ z. answer_on (λ s. tt) (called p (call_on length q)).answer ∷ z) (said_from qs (called p (call_on length q)).next)

module _ (t : List ℕ) (h : length t ≡ table_bytes) (single : Bool) where
  same-computed : (es : List Edge) → computed_on t single es ≡ computed single es
  unfolding answers
  same-computed [] = refl
  same-computed (e ∷ es) =
      let first = ap Edges.said ((table_follows t h single).2 (calls_on zeros e.calls)) ∙ said_from (calls_on zeros e.calls) (fresh_day single) ∙ ap (λ cs. Edges.said (answers single cs)) (same_calls e.calls) in
      let rest = same-computed es in
      λ i. first i ∷ rest i

pub edges_at_table : EdgesHold
edges_at_table t h = (
  same-computed t h false Edges.edges ∙ edges_hold,
  same-computed t h false Edges.codes ∙ codes_hold,
  same-computed t h false Edges.reused ∙ reused_hold,
  same-computed t h false Edges.marks ∙ marks_hold,
  same-computed t h true Edges.on_line ∙ on_line_hold,
  same-computed t h false Edges.orders ∙ orders_hold,
  same-computed t h false Edges.boards ∙ boards_hold,
  same-computed t h false Edges.bills ∙ bills_hold,
)
