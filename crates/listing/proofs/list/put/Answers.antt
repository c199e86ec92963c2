-- `listing::list::put` meets its contract: the check of the sheet, then the lines. Assumes nothing.
use mathlib.Core.Path.{sym, ◌∙◌}
use Rattle.table.specs.Halves.{high}
use Rattle.listing.proofs.Listed.{put_done}
use Rattle.listing.proofs.list.put.Goals as goal

pub returns : goal.returns
unfolding high
returns c =
    let s = c.args in
    put_done s.t.now s.sheet.now _ _ c.requires.0 (sym c.check_sheet.ensures ∙ c.in-Fits.is) c.lines.ensures
