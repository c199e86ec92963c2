-- `federation::on_table::on_table` meets its contract: the course's table, beside the other three. Assumes nothing.
use mathlib.Core.Path.{◌≡◌, ◌∙◌, sym}
use native.Mathlib.Omega.{arith}
use Rattle.beside.proofs.Numbers.{known_course, unknown_course}
use Rattle.federation.proofs.Blank.{table_turned}
use Rattle.federation.proofs.Numbers.{call_first, call_fourth, call_second, call_third, left-none}
use Rattle.federation.proofs.on_table.on_table.Goals as goal

pub returns-in_default : goal.returns-in_default
returns-in_default g c =
    let other = unknown_course _ (sym c.check_course.ensures ∙ c.in_default.is) in
    left-none _ _ _ _ _ other (table_turned g.call _ _ c.requires.1.1.0 c.no_course.ensures)

pub returns-in-0 : goal.returns-in-0
returns-in-0 g c =
    call_first c.args.t0.now c.args.t1.now c.args.t2.now c.args.t3.now g.call c.in-0.is c.on_beside.ensures

pub returns-in-1 : goal.returns-in-1
returns-in-1 g c =
    call_second c.args.t0.now c.args.t1.now c.args.t2.now c.args.t3.now g.call c.in-1.is c.on_beside-in-1.ensures

pub returns-in-2 : goal.returns-in-2
returns-in-2 g c =
    call_third c.args.t0.now c.args.t1.now c.args.t2.now c.args.t3.now g.call c.in-2.is c.on_beside-in-2.ensures

pub returns-in_default-course : goal.returns-in_default-course
returns-in_default-course g c =
    let known = known_course _ (sym c.check_course.ensures ∙ c.in-Known.is) in
    let last : c.args.course ≡ 3 = omega arith in
    call_fourth c.args.t0.now c.args.t1.now c.args.t2.now c.args.t3.now g.call last c.on_beside-in_default-course.ensures
