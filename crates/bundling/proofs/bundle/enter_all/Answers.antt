-- `bundling::bundle::enter_all` meets its contract: the entries before `p` are in, and the others fit. Assumes nothing.
use Prim.Native.Nat.{◌+◌}
use mathlib.Core.Path.{◌≡◌, sym, ◌∙◌, ap, subst}
use native.Mathlib.Omega.{arith}
use lib.ListN.{drop}
use Rattle.bundles.specs.Packed.{held}
use Rattle.cells.specs.Sizes.{updates}
use Rattle.table.specs.Halves.{cells_of}
use Rattle.bundling.specs.Bundles.{Going, entered_all, sent_check}
use Rattle.std.specs.Prelude.{Ok}
use Rattle.bundling.proofs.Records.{bib-below, entered-next, fits_on}
use Rattle.bundling.proofs.bundle.enter_all.Goals as goal

pub enter-requires : goal.enter-requires
enter-requires c =
    let s = c.args in
    let l = c.loop-p in
    let e = c.entry_in in
    let o = fits_on s.records.now l.p-index (omega arith) _ e.result e.ensures l.t s.c.0 s.r.0 l.invariant.0 l.invariant.1 in
    (l.invariant.0, o.fits.room, bib-below e.result.bib o.fits.bib_in)

pub loop-p-preserved : goal.loop-p-preserved
loop-p-preserved c =
    let s = c.args in
    let l = c.loop-p in
    let e = c.entry_in in
    let o = fits_on s.records.now l.p-index (omega arith) _ e.result e.ensures l.t s.c.0 s.r.0 l.invariant.0 l.invariant.1 in
    let is = c.enter.ensures in (
      subst (λ d. Going d s.c.0 s.r.0) (sym is) o.going,
      subst (λ d. sent_check (held (drop (l.p-index + 1) s.records.now)) (cells_of d).updates updates ≡ Ok tt) (sym is) o.others,
      l.invariant.2 ∙ entered-next s.records.now l.p-index (omega arith) _ e.result e.ensures l.t s.c.0 s.r.0
          ∙ ap (λ d. entered_all d s.c.0 s.r.0 (held (drop (l.p-index + 1) s.records.now))) (sym is),
    )
