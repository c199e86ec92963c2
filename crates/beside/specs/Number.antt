-- No claim rests on this file: it serves the code. What the check of a course's number finds.
use Rattle.std.specs.Prelude.{ℕ, cond, ltb}
use Rattle.card.specs.Log.{courses}
use Rattle.beside.specs.declared.number.CourseCheck.{CourseCheck}
use Rattle.beside.specs.declared.number.CourseCheck.TheVariants.{Known, Unknown}

unfoldable pub course_check : ℕ → CourseCheck
course_check i = cond (ltb i courses) Known Unknown
