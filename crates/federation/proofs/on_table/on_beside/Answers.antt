-- `federation::on_table::on_beside` meets its contract: 1 of the other three, the room that they leave, then the step. Assumes nothing.
use mathlib.Core.Path.{◌∙◌, ap, refl, subst, sym}
use Prim.Native.Nat.{◌≤◌}
use Rattle.card.specs.Log.{card}
use Rattle.card.specs.Courses.{sharing}
use Rattle.beside.proofs.Beside.{beside_none, beside-tables, long-tables}
use Rattle.federation.proofs.Blank.{table_turned}
use Rattle.federation.proofs.Numbers.{most_on_card}
use Rattle.table.specs.Shared.{above}
use Rattle.federation.proofs.on_table.on_beside.Goals as goal

pub returns-in_default : goal.returns-in_default
returns-in_default g c =
    let none = beside_none _ _ _ _ _ (sym c.check_three.ensures ∙ c.in_default.is) in
    table_turned g.call _ _ c.requires.1.1.0 c.no_course.ensures ∙ sym none

pub most_beside-requires : goal.most_beside-requires
most_beside-requires g c =
    long-tables _ _ _ (sym c.check_three.ensures ∙ c.in-Sound.is)

pub returns : goal.returns
returns g c =
    let all = beside-tables _ _ _ _ _ (sym c.check_three.ensures ∙ c.in-Sound.is) in
    let few = subst (λ m. m ≤ card) (sym c.most_beside.ensures) (most_on_card _) in
    c.requires.1.1.1 _ _ _ _ _ _ few refl c.step.ensures ∙ ap (λ m. sharing (above m) c.args.t.now g.call) c.most_beside.ensures ∙ sym all
