-- `revisions::inherit::inherit` meets its contract: by the revision forked from. Assumes nothing.
use mathlib.Core.Path.{◌∙◌, ap, sym}
use Rattle.cells.specs.Parts.{glue, split}
use Rattle.cells.specs.Steps.{inherit_parts}
use Rattle.revisions.proofs.inherit.inherit.Goals as goal

pub returns-then-parent-eq0 : goal.returns-then-parent-eq0
returns-then-parent-eq0 c =
    c.by_count.ensures ∙ ap (λ p. glue (inherit_parts (split c.args.d.now) p c.args.child.0)) (sym c.if-parent-eq0.true)

pub returns : goal.returns
returns c = c.by_row.ensures
