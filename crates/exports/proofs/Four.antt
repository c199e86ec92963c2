-- An export of a call on four tables gives back what the call answers and leaves.
use Prim.Native.Nat.{ℕ}
use mathlib.Core.List.{List, []}
use mathlib.Core.Path.{◌≡◌, ◌∙◌, ap}
use Rattle.desk.specs.Calls.{Answer}
use Rattle.card.specs.Courses.{Ask, Tables}
use Rattle.federation.specs.Out.{FourOut, course_out, four_left}
use Rattle.beside.specs.Replies.{replied}
use Rattle.beside.specs.declared.reply.Reply.{Reply}
use Rattle.packing.specs.Packed.{packed_reply, returned}
use Rattle.exports.specs.Four.{course_exported, exported_reply, four_returned}

pub gives-four : (ts : Tables) (i : ℕ) (ask : Ask) {r : ℕ} {a : Reply} {t0 t1 t2 t3 board : List ℕ}
    → r ≡ packed_reply (replied a []) → four_left a [] t0 t1 t2 t3 board ≡ course_out ts i ask → four_returned r t0 t1 t2 t3 board ≡ course_exported ts i ask
unfolding course_exported
gives-four ts i ask {t0 = t0} {t1} {t2} {t3} {board} p q =
    ap (λ n. four_returned n t0 t1 t2 t3 board) p ∙ ap (λ (o : FourOut). record { result = packed_reply o.reply; tables = o.tables; board = o.board }) q

pub gives-sheet : {r : ℕ} {a : Reply} {sheet : List ℕ} {q : Answer (List ℕ)} → r ≡ packed_reply (replied a []) → replied a sheet ≡ q → returned r sheet ≡ exported_reply q
unfolding packed_reply exported_reply
gives-sheet {sheet = sheet} p q = ap (λ n. returned n sheet) p ∙ ap exported_reply q
