-- Whether a mark bears a name, as a test. It need not be believed: a name means the mark that bears it (`ByMarks.means`, specs/Marks).
use Rattle.std.specs.Prelude.{Bool, false}
use Rattle.std.proofs.Math.Option.{Option, none, some}
use Rattle.lists.specs.Names.{Name, same_name}

abbrev pub is_name : Option Name → Name → Bool
is_name none n = false
is_name (some m) n = same_name m n
