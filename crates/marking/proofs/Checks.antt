-- What a name that code 17 lets through is.
use mathlib.Core.Bool.{false, not}
use mathlib.Core.Path.{◌≡◌}
use lib.ListN.{length}
use borrow.Author.Tests.{not-false}
use Rattle.lists.specs.Names.{Name, four_letters}
use Rattle.lists.proofs.Cases.{or-false}
use Rattle.lists.proofs.Names.{four-long}
use Rattle.cells.specs.Cells.{Cells}
use Rattle.cells.specs.Checks.{bad_name, no_such_mark}

-- code 17
pub name_long : (k : Cells) (n : Name) → bad_name k n ≡ false → length n ≡ 4
name_long k n e = four-long n (not-false (four_letters n) (or-false (not (four_letters n)) (not (no_such_mark k n)) e).0)
