-- `joining::join::join_lower` meets its contract: the lower half is lent and comes back written. Assumes nothing.
use mathlib.Core.Path.{◌≡◌}
use native.Mathlib.Omega.{arith}
use borrow.Author.Rules.{rules}
use Rattle.cells.specs.Decode.{cells}
use Rattle.cells.specs.Steps.{join_bytes}
use Rattle.cells.proofs.Range.{ranges}
use Rattle.table.specs.Halves.{low}
use Rattle.table.proofs.Halves.{low-lent}
use Rattle.joining.proofs.join.join_lower.Goals as goal

pub join-n-requires : goal.join-n-requires
unfolding low
join-n-requires c = search rules

pub overflow_cast-result : goal.overflow_cast-result
unfolding low
overflow_cast-result c =
    let s = c.args in
    let r = (ranges (low s.t.now) c.requires.1).count s.b.0 c.requires.3 in
    let e : c.join-n.result ≡ (cells (low s.t.now)).count s.b.0 = c.join-n.ensures.0 in
    omega arith

pub returns : goal.returns
unfolding low
returns c =
    let s = c.args in
    (c.join-n.ensures.0, low-lent (λ d. join_bytes d s.a.0 s.b.0) s.t.now _ c.join-n.ensures.1)
