-- `federation::fresh::fresh` meets its contract: the course's table, whatever the other three are. Assumes nothing.
use mathlib.Core.List.{[]}
use mathlib.Core.Path.{◌≡◌, ◌∙◌, ap, sym}
use native.Mathlib.Omega.{arith}
use Rattle.beside.proofs.Numbers.{known_course, unknown_course}
use Rattle.card.proofs.Courses.{fresh-by_number}
use Rattle.card.specs.Courses.{four}
use Rattle.federation.proofs.Numbers.{left-first, left-fourth, left-none, left-second, left-third}
use Rattle.federation.specs.Out.{served_as}
use Rattle.federation.proofs.fresh.fresh.Goals as goal

pub returns-in_default : goal.returns-in_default
returns-in_default c =
    let s = c.args in
    let other = unknown_course _ (sym c.check_course.ensures ∙ c.in_default.is) in
    left-none _ _ _ _ _ other (ap (λ r. served_as r [] (four s.t0.now s.t1.now s.t2.now s.t3.now s.course) s.board.now) c.no_course.ensures)

pub returns-in-0 : goal.returns-in-0
unfolding four
returns-in-0 c =
    left-first _ _ _ _ _ c.in-0.is (c.make.ensures ∙ sym (fresh-by_number _ 0 (omega arith) _ _))

pub returns-in-1 : goal.returns-in-1
unfolding four
returns-in-1 c =
    left-second _ _ _ _ _ c.in-1.is (c.make-in-1.ensures ∙ sym (fresh-by_number _ 1 (omega arith) _ _))

pub returns-in-2 : goal.returns-in-2
unfolding four
returns-in-2 c =
    left-third _ _ _ _ _ c.in-2.is (c.make-in-2.ensures ∙ sym (fresh-by_number _ 2 (omega arith) _ _))

pub returns-in_default-course : goal.returns-in_default-course
unfolding four
returns-in_default-course c =
    let known = known_course _ (sym c.check_course.ensures ∙ c.in-Known.is) in
    let last : c.args.course ≡ 3 = omega arith in
    left-fourth _ _ _ _ _ last (c.make-in_default-course.ensures ∙ sym (fresh-by_number _ 3 (omega arith) _ _))
