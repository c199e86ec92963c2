-- `lending::lent::bundle_packed` meets its contract: the records' bytes are lent to the call. Assumes nothing.
use Prim.Native.Nat.{◌*◌}
use mathlib.Core.Path.{◌≡◌, sym, ◌∙◌, ap}
use native.Mathlib.Omega.{arith}
use lib.ListN.{length, take}
use lib.Seq.{length-take-le}
use borrow.Author.Rules.{rules}
use Rattle.bundles.specs.Packed.{records_in}
use Rattle.table.specs.Calls.{bundle_out}
use Rattle.lending.proofs.Packed.{among-most}
use Rattle.lending.proofs.lent.bundle_packed.Goals as goal

pub overflow_mul-end : goal.overflow_mul-end
overflow_mul-end c = let most = among-most c.args.p.count in record { fits = omega (arith, c.among-end.ensures) }

pub slice_bounds-bundle-end : goal.slice_bounds-bundle-end
slice_bounds-bundle-end c =
    let p = c.args.p in
    let room : 768 ≡ length p.bytes = search rules in
    let most = among-most p.count in
    sym (length-take-le _ p.bytes (omega (arith, c.among-end.ensures)))

pub returns : goal.returns
unfolding records_in
returns c =
    let s = c.args in
    (c.bundle.ensures.0 ∙ ap (λ k. bundle_out s.t.now s.client s.revision (take (12 * k) s.p.bytes) (length s.board.now)) c.among-end.ensures, c.bundle.ensures.1)
