-- `federation::looks::on_beside` meets its contract: 1 of the other three, then the step. Assumes nothing.
use mathlib.Core.Path.{◌∙◌, ap, refl, sym}
use Rattle.beside.proofs.Beside.{beside_none, beside-tables}
use Rattle.federation.proofs.Blank.{look_turned}
use Rattle.table.specs.Served.{Served}
use Rattle.federation.proofs.looks.on_beside.Goals as goal

pub returns-in_default : goal.returns-in_default
returns-in_default g c =
    let none = beside_none _ _ _ _ _ (sym c.check_three.ensures ∙ c.in_default.is) in
    look_turned g.look c.args.t.now _ c.requires.1.1.0 c.no_course.ensures ∙ ap (λ (u : Served). u.reply) (sym none)

pub returns : goal.returns
returns g c =
    let all = beside-tables _ _ _ _ _ (sym c.check_three.ensures ∙ c.in-Sound.is) in
    c.requires.1.1.1 _ _ _ _ refl c.step.ensures ∙ ap (λ (u : Served). u.reply) (sym all)
