-- `beside::number::check_course` meets its contract: the test decides. Assumes nothing.
use borrow.Author.Tests.{le-ltb, lt-ltb}
use Rattle.beside.specs.Number.{course_check}
use Rattle.beside.proofs.number.check_course.Goals as goal

pub returns-then-course-lt-COURSES : goal.returns-then-course-lt-COURSES
unfolding course_check
returns-then-course-lt-COURSES c = simp (lt-ltb _ _ c.if-course-lt-COURSES.true)

pub returns : goal.returns
unfolding course_check
returns c = simp (le-ltb _ _ c.if-course-lt-COURSES.false)
