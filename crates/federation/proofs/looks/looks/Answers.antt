-- `federation::looks::looks` meets its contract: the course's table, beside the other three. Assumes nothing.
use mathlib.Core.Path.{◌≡◌, ◌∙◌, ap, sym}
use native.Mathlib.Omega.{arith}
use Rattle.beside.proofs.Numbers.{known_course, unknown_course}
use Rattle.card.proofs.Courses.{no-such-course}
use Rattle.federation.proofs.Blank.{look_turned}
use Rattle.federation.proofs.Numbers.{look_first, look_fourth, look_second, look_third}
use Rattle.table.specs.Served.{Served}
use Rattle.federation.proofs.looks.looks.Goals as goal

pub returns-in_default : goal.returns-in_default
returns-in_default g c =
    let other = unknown_course _ (sym c.check_course.ensures ∙ c.in_default.is) in
    look_turned g.look c.args.t0.now _ c.requires.1.1.0 c.no_course.ensures ∙ ap (λ (u : Served). u.reply) (sym (no-such-course _ _ other _))

pub returns-in-0 : goal.returns-in-0
returns-in-0 g c =
    look_first c.args.t0.now c.args.t1.now c.args.t2.now c.args.t3.now g.look c.in-0.is c.on_beside.ensures

pub returns-in-1 : goal.returns-in-1
returns-in-1 g c =
    look_second c.args.t0.now c.args.t1.now c.args.t2.now c.args.t3.now g.look c.in-1.is c.on_beside-in-1.ensures

pub returns-in-2 : goal.returns-in-2
returns-in-2 g c =
    look_third c.args.t0.now c.args.t1.now c.args.t2.now c.args.t3.now g.look c.in-2.is c.on_beside-in-2.ensures

pub returns-in_default-course : goal.returns-in_default-course
returns-in_default-course g c =
    let known = known_course _ (sym c.check_course.ensures ∙ c.in-Known.is) in
    let last : c.args.course ≡ 3 = omega arith in
    look_fourth c.args.t0.now c.args.t1.now c.args.t2.now c.args.t3.now g.look last c.on_beside-in_default-course.ensures
