-- A refusal has a number, and it is not that of a call that is taken.
use mathlib.Core.Path.{◌≡◌}
use native.Mathlib.Omega.{arith}
use Rattle.table.specs.Told.{code_of}
use Rattle.table.specs.declared.refusal.Refusal.{Refusal}
use Rattle.table.specs.declared.refusal.Refusal.TheVariants.{NoTable, StrangeClient, NeverSent, Joined, BadEntry, OpenElsewhere, Busy, NotCaughtUp, LogFull, NoneLeft, NotJoinable}
use Rattle.table.specs.declared.refusal.Refusal.TheVariants.{SheetShort, StrangeStep, WrongBundle, OffTheLine, Marked, BadName, NoSuchMark, WrongBoard, CardFull, BadList}

pub code_some : (x : Refusal) → code_of x ≡ 0 → ⊥
code_some NoTable e = absurd (omega arith)
code_some StrangeClient e = absurd (omega arith)
code_some NeverSent e = absurd (omega arith)
code_some Joined e = absurd (omega arith)
code_some BadEntry e = absurd (omega arith)
code_some OpenElsewhere e = absurd (omega arith)
code_some Busy e = absurd (omega arith)
code_some NotCaughtUp e = absurd (omega arith)
code_some LogFull e = absurd (omega arith)
code_some NoneLeft e = absurd (omega arith)
code_some NotJoinable e = absurd (omega arith)
code_some SheetShort e = absurd (omega arith)
code_some StrangeStep e = absurd (omega arith)
code_some WrongBundle e = absurd (omega arith)
code_some OffTheLine e = absurd (omega arith)
code_some Marked e = absurd (omega arith)
code_some BadName e = absurd (omega arith)
code_some NoSuchMark e = absurd (omega arith)
code_some WrongBoard e = absurd (omega arith)
code_some CardFull e = absurd (omega arith)
code_some BadList e = absurd (omega arith)
