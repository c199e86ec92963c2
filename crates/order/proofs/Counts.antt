-- An order of which nothing is cut off.
use Prim.Native.Nat.{ℕ, ◌+◌, ◌≤◌}
use mathlib.Core.Bool.{Bool}
use mathlib.Core.Path.{◌≡◌}
use mathlib.Core.List.{List, [], ◌∷◌, ◌++◌}
use native.Mathlib.Omega.{arith}
use lib.ListN.{length, drop, length-append, length-take, length-drop}
use lib.Seq.{take_all}
use Rattle.lists.specs.Lists.{keep}
use Rattle.lists.specs.Arranged.{behind, flat_back}
use Rattle.lists.proofs.Cases.{cases}
use Rattle.cells.specs.Sizes.{updates}
use Rattle.cells.specs.Cells.{Cells, own, outs, flagged}
use Rattle.cells.specs.Order.{picks, base_in, inherited, order}
use Rattle.cells.proofs.Chain.{chain_length}
use Rattle.order.specs.Counts.{counts}

keep-length : (f : ℕ → Bool) (l : List ℕ) → length (keep f l) ≤ length l
keep-length f [] = omega arith
keep-length f (x ∷ l) = let h = keep-length f l in cases (f x) (λ e. rw e (omega arith)) (λ e. rw e (omega arith))

picks-length : (b : ℕ) (f : ℕ → Bool) (l : List ℕ) → length (picks b f l) ≤ length l
picks-length b f l = let h = keep-length f (drop b l) in let e = length-drop b l in rw (length-append, length-take) (omega arith)

module _ (k : Cells) where
  inherited-length : (r : ℕ) (l : List ℕ) → length (flat_back (inherited k r) l) ≤ counts k l
  inherited-length r [] = omega arith
  inherited-length r (x ∷ l) =
      let h = inherited-length r l in
      let p = picks-length (base_in k r x) (flagged k r) (own k x) in
      let n = chain_length k.link (k.last x) (k.count x) in
      rw length-append (omega arith)

  -- an order of lists that have room is these lists
  pub whole : (r : ℕ) → counts k (behind r (outs k)) + k.count r ≤ updates → order k r ≡ flat_back (inherited k r) (behind r (outs k)) ++ own k r
  unfolding order
  whole r h =
      let b = inherited-length r (behind r (outs k)) in
      let n = chain_length k.link (k.last r) (k.count r) in
      take_all updates (flat_back (inherited k r) (behind r (outs k)) ++ own k r) (rw length-append (omega arith))
