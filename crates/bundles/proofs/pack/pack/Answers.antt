-- `bundles::pack::pack` meets its contract: entry i's record is put behind the i records before it. Assumes nothing.
use Prim.Native.Nat.{ℕ, ◌<◌, min}
use mathlib.Core.Path.{◌≡◌, ◌∙◌, ap}
use mathlib.Core.List.{List}
use native.Mathlib.Omega.{arith}
use lib.ListN.{length, take}
use lib.Seq.{length-take-le}
use Rattle.std.proofs.lemmas.List.{get_or-take}
use Rattle.bundles.specs.declared.entry.Entry.{Entry}
use Rattle.bundles.specs.declared.pack.Packed.{Packed}
use Rattle.bundles.specs.Packed.{filled, packed_of}
use Rattle.bundles.proofs.Filled.{none_filled, one_more, all_taken}
use Rattle.bundles.proofs.pack.pack.Goals as goal

abbrev of_bytes : List Entry → List ℕ → Packed
of_bytes es bytes = record { bytes = bytes; count = length es }

-- what stands past the end of a list; no entry that is read
abbrev none : Entry
none = record { kind = 0; bib = 0; v = 0 }

pub loop-i-init : goal.loop-i-init
loop-i-init c = none_filled c.args.es.now

pub loop-i-preserved : goal.loop-i-preserved
loop-i-preserved c =
    let es = c.args.es.now in
    let l = c.loop-i in
    let n = length-take-le c.min-n.result es (omega arith) in
    let small : (l.i < length es) × (l.i < 64) = (omega arith, omega arith) in
    c.put.ensures ∙ rw (l.invariant, get_or-take c.min-n.result es l.i none (omega arith)) (one_more es l.i none small.1 small.0)

pub returns : goal.returns
unfolding packed_of
returns c =
    let es = c.args.es.now in
    let l = c.loop-i in
    let n = length-take-le c.min-n.result es (omega arith) in
    let all : l.i ≡ min (length es) 64 = omega arith in
    ap (of_bytes es) (l.invariant ∙ ap (λ k. filled (take k es)) all ∙ ap filled (all_taken es))
