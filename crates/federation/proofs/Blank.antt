-- What a refusal of a call leaves: the sheet and the board that it was lent.
use Prim.Native.Nat.{ℕ}
use mathlib.Core.Path.{◌≡◌, refl}
use mathlib.Core.List.{List, []}
use Rattle.beside.specs.Replies.{of_answer, replied}
use Rattle.beside.specs.declared.reply.Reply.{Reply}
use Rattle.card.specs.Courses.{Plain, turned_away}
use Rattle.desk.specs.Calls.{Call, Look, Looks}
use Rattle.federation.specs.Out.{served_as}
use Rattle.federation.specs.Steps.{Lends}
use Rattle.table.specs.Served.{sheet_of}

pub table_turned : {r : Reply} (q : Call (List ℕ)) (t board : List ℕ) → Lends q board → r ≡ of_answer (record { code = 1; value = 0 }) → served_as r [] t board ≡ turned_away 1 t (Plain q)
table_turned q t board l e = rw (e, l.0, l.1) refl

pub look_turned : {r : Reply} (l : Look (List ℕ)) (t sheet : List ℕ) → sheet_of (Looks l) ≡ sheet → r ≡ of_answer (record { code = 1; value = 0 }) → replied r sheet ≡ (turned_away 1 t (Plain (Looks l))).reply
look_turned l t sheet s e = rw (e, s) refl
