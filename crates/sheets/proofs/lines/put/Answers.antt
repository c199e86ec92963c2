-- `sheets::lines::put` meets its contract: the line's twelve bytes are lent and come back written. Assumes nothing.
use Prim.Native.Nat.{◌*◌}
use mathlib.Core.Path.{◌∙◌}
use Rattle.lists.proofs.Replaced.{lent-replaced}
use Rattle.entries.specs.Entries.{entry_at}
use Rattle.sheets.specs.Lines.{line}
use Rattle.sheets.proofs.lines.put.Goals as goal

pub returns : goal.returns
unfolding line
returns c =
    let s = c.args in
    lent-replaced s.s.now _ (line (entry_at s.t.now s.n) s.n) (12 * s.i) 12 (c.write.ensures ∙ rw (c.from.ensures, c.read-e.ensures, c.from-2.ensures))
