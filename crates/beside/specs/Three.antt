-- No claim rests on this file: it serves the code. What the check of the other three tables finds.
use Rattle.std.specs.Prelude.{ℕ, cond, ◌&&◌, List}
use Rattle.table.specs.Halves.{is_table}
use Rattle.table.specs.declared.sound.TableCheck.{TableCheck}
use Rattle.table.specs.declared.sound.TableCheck.TheVariants.{Damaged, Sound}

unfoldable pub three_check : List ℕ → List ℕ → List ℕ → TableCheck
three_check a b c = cond (is_table a && is_table b && is_table c) Sound Damaged
