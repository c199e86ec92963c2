-- What the check of a course's number says.
use Prim.Native.Nat.{ℕ, ◌<◌}
use mathlib.Core.Path.{◌≡◌, sym, ◌∙◌}
use mathlib.Core.Bool.{true≢false}
use lib.Dec.{ltb}
use borrow.Author.Tests.{ltb-true, lt-ltb}
use Rattle.lists.proofs.Told.{Told, told}
use Rattle.card.specs.Log.{courses}
use Rattle.beside.specs.Number.{course_check}
use Rattle.beside.specs.declared.number.CourseCheck.TheVariants.{Known, Unknown}

number-told : (i : ℕ) → Told (ltb i courses) Known Unknown (course_check i)
unfolding course_check
number-told i = told _ _ _ (λ h. cc)

pub known_course : (i : ℕ) → course_check i ≡ Known → i < courses
known_course i e = ltb-true i courses ((number-told i).holds e)

pub unknown_course : (i : ℕ) → course_check i ≡ Unknown → i < courses → ⊥
unknown_course i e l = true≢false (sym (lt-ltb i courses l) ∙ (number-told i).fails e)
