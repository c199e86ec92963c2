-- 02, U12: what an export of a call on four tables returns: the answer in one number, with the bits of its table's call, beside the lent bytes at exit.
use Rattle.std.specs.Prelude.{ℕ, List, [], ◌∷◌}
use Rattle.desk.specs.Calls.{Answer}
use Rattle.card.specs.Courses.{Ask, Tables}
use Rattle.federation.specs.Out.{course_out}
use Rattle.packing.specs.Packed.{Returned, packed_reply, returned}

-- of a list: with the sheet
unfoldable pub exported_reply : Answer (List ℕ) → Returned
exported_reply a = returned (packed_reply a) a.sheet

pub record FourReturned : Type 0 where
  pub result : ℕ
  pub tables : List (List ℕ)
  pub board : List ℕ

-- a result, and the four tables and the board at exit
abbrev pub four_returned : ℕ → List ℕ → List ℕ → List ℕ → List ℕ → List ℕ → FourReturned
four_returned result t0 t1 t2 t3 board = record { result = result; tables = t0 ∷ t1 ∷ t2 ∷ t3 ∷ []; board = board }

unfoldable pub course_exported : Tables → ℕ → Ask → FourReturned
course_exported ts i ask = let o = course_out ts i ask in record { result = packed_reply o.reply; tables = o.tables; board = o.board }
