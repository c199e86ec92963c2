-- `fields::read::inherited` meets its contract: the row is read in its place. Assumes nothing.
use Prim.Native.Nat.{◌%◌, ◌*◌, ◌+◌, ◌-◌, ◌/◌}
use mathlib.Core.Path.{◌∙◌, ap, sym}
use native.Mathlib.Omega.{arith}
use lib.ListN.{get_or}
use Rattle.cells.specs.Flags.{bit}
use Rattle.fields.proofs.FlagReads.{main-unflagged, flagged-at, unused-unflagged}
use Rattle.fields.proofs.read.inherited.Goals as goal

pub returns-then-x-eq0 : goal.returns-then-x-eq0
returns-then-x-eq0 c =
    main-unflagged c.args.d.now c.args.r.0 c.args.u (sym c.wide-x.ensures.0 ∙ c.if-x-eq0.true)

pub returns-then-used : goal.returns-then-used
returns-then-used c =
    let s = c.args in
    let w = c.wide-x in
    c.flag.ensures ∙ ap (λ x. bit (get_or s.d.now (512 * (x - 1) + s.u / 8) 0) (s.u % 8)) w.ensures.0
    ∙ flagged-at s.d.now s.r.0 s.u (omega arith) (λ e. c.if-x-eq0.false (w.ensures.0 ∙ e)) (omega arith) (sym c.used.ensures ∙ c.if-used.true)

pub returns : goal.returns
returns c =
    unused-unflagged c.args.d.now c.args.r.0 c.args.u (sym c.used.ensures ∙ c.if-used.false)
