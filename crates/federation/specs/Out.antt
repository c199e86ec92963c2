-- What a call on four tables gives: its answer, and the four tables and the board as it leaves them.
use Rattle.std.specs.Prelude.{ℕ, List, [], ◌∷◌}
use Rattle.desk.specs.Calls.{Answer}
use Rattle.table.specs.Served.{Served}
use Rattle.card.specs.Courses.{Ask, Tables, course_served, written}
use Rattle.beside.specs.Replies.{replied}
use Rattle.beside.specs.declared.reply.Reply.{Reply}

-- of one table, and the board lent to it
abbrev pub served_as : Reply → List ℕ → List ℕ → List ℕ → Served
served_as r sheet t board = record { reply = replied r sheet; table = t; board = board }

pub record FourOut : Type 0 where
  pub reply : Answer (List ℕ)
  pub tables : List (List ℕ)
  pub board : List ℕ

-- an answer, and the four tables and the board at exit
abbrev pub four_left : Reply → List ℕ → List ℕ → List ℕ → List ℕ → List ℕ → List ℕ → FourOut
four_left r sheet t0 t1 t2 t3 board = record { reply = replied r sheet; tables = t0 ∷ t1 ∷ t2 ∷ t3 ∷ []; board = board }

-- of a call on course i, by the definition of a call on four tables
unfoldable pub course_out : Tables → ℕ → Ask → FourOut
course_out ts i ask =
    let after = written ts (record { course = i; ask = ask }) in
    record { reply = (course_served ts i ask).reply; tables = after 0 ∷ after 1 ∷ after 2 ∷ after 3 ∷ []; board = (course_served ts i ask).board }
