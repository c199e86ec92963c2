-- `verifying::verify::verify_sound` meets its contract: 21, or the verdict. Assumes nothing.
use mathlib.Core.Path.{sym, ◌∙◌}
use borrow.Author.Rules.{rules}
use Rattle.verifying.proofs.Calls.{inside}
use Rattle.verifying.proofs.verify.verify_sound.Goals as goal

pub slice_bounds-fits-count : goal.slice_bounds-fits-count
slice_bounds-fits-count c =
    let h = inside c.args.t.now _ c.requires.0 _ (sym c.check_list.ensures ∙ c.in-Some.is) in
    search rules

pub slice_bounds-fits-start : goal.slice_bounds-fits-start
slice_bounds-fits-start c =
    let h = inside c.args.t.now _ c.requires.0 _ (sym c.check_list.ensures ∙ c.in-Some.is) in
    search rules
