-- Counts that stop at their range: short of it they are what they count, and they never leave it.
use Prim.Native.Nat.{ℕ, ◌-◌, ◌<◌, ◌≤◌}
use mathlib.Core.Path.{◌≡◌}
use native.Mathlib.Omega.{arith}
use lib.Dec.{ltb}
use borrow.Author.Tests.{lt-ltb, ltb-false, ltb-true}
use Rattle.lists.proofs.Cases.{cases}
use Rattle.cells.specs.Sizes.{updates}
use Rattle.cells.specs.CellSteps.{counted, one_fewer}

pub counted_is : (n : ℕ) → n ≤ updates → counted n ≡ n
unfolding counted
counted_is n h = cases (ltb n updates) (λ e. rw e) (λ e. let g = ltb-false n updates e in rw e (omega arith))

pub counted_few : (n : ℕ) → counted n ≤ updates
unfolding counted
counted_few n = cases (ltb n updates) (λ e. let g = ltb-true n updates e in rw e (omega arith)) (λ e. rw e (omega arith))

pub fewer_is : (n : ℕ) → 1 < n → one_fewer n ≡ n - 1
unfolding one_fewer
fewer_is n h = rw (lt-ltb 1 n h)

pub fewer_some : (n : ℕ) → 0 < one_fewer n
unfolding one_fewer
fewer_some n = cases (ltb 1 n) (λ e. let g = ltb-true 1 n e in rw e (omega arith)) (λ e. rw e (omega arith))

pub fewer_most : (n m : ℕ) → n ≤ m → 0 < m → one_fewer n ≤ m
unfolding one_fewer
fewer_most n m h g = cases (ltb 1 n) (λ e. rw e (omega arith)) (λ e. rw e (omega arith))

pub fewer_less : (n m : ℕ) → n ≤ m → 1 < m → one_fewer n < m
unfolding one_fewer
fewer_less n m h g = cases (ltb 1 n) (λ e. let k = ltb-true 1 n e in rw e (omega arith)) (λ e. rw e (omega arith))
