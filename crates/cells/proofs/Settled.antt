-- What a step settles of the main revision's own updates, and how it is found: along the links, no further than it goes.
use Prim.Native.Nat.{ℕ, ◌-◌, ◌+◌, ◌≤◌}
use mathlib.Core.Path.{◌≡◌, sym, ◌∙◌, ap}
use mathlib.Core.Logic.{inl, inr}
use mathlib.Core.List.{[]}
use native.Mathlib.Omega.{arith}
use lib.Dec.{eqb, ltb}
use lib.ListN.{length, drop, length-take, drop_of_length-le}
use lib.Seq.{drop_at, take_all}
use borrow.Author.Tests.{eqb-true, ltb-false, ltb-true, ne_eqb}
use Rattle.lists.proofs.Cases.{cases, either}
use Rattle.cells.specs.Sizes.{main}
use Rattle.cells.specs.Cells.{Cells, Settles, chain, own, settled_own, settled_since}
use Rattle.cells.specs.CellSteps.{close_cells, fork_cells, join_cells}
use Rattle.cells.proofs.Chain.{chain-append, chain_length, walk}

-- where no more are settled nothing was brought
pub since_none : (n : ℕ) (k : Cells) → k.settled ≤ n → settled_since n k ≡ []
since_none n k h =
    let l : length (settled_own k) ≤ n = rw length-take (omega arith) in
    drop_of_length-le (settled_own k) {i = n} l

-- all but the first m of a chain
pub chain_last : (link : ℕ → ℕ) (at m n : ℕ) → drop m (chain link at n) ≡ chain link at (n - m)
unfolding chain
chain_last link at m n =
    let l = chain_length link at n in
    cases (ltb n m)
    (λ t. let g = ltb-true n m t in let z : n - m ≡ 0 = omega arith in drop_of_length-le (chain link at n) {i = m} (omega arith) ∙ rw z)
    (λ t.
    let g = ltb-false n m t in
    let e : n ≡ m + (n - m) = omega arith in
    ap (λ j. drop m (chain link at j)) e ∙ ap (drop m) (chain-append link at m (n - m)) ∙ drop_at (chain link (walk link at (n - m)) m) (chain link at (n - m)) m (chain_length link (walk link at (n - m)) m))

-- what was brought is the end of the own list
pub since_chain : (n : ℕ) (k : Cells) → Settles n k → settled_since n k ≡ chain k.link (k.last main) (k.settled - n)
unfolding chain
since_chain n k h =
    either h
    (λ e. let z : k.settled - n ≡ 0 = omega arith in since_none n k (omega arith) ∙ rw z)
    (λ e.
    let l = chain_length k.link (k.last main) (k.count main) in
    ap (drop n) (take_all k.settled (own k main) (omega arith))
    ∙ chain_last k.link (k.last main) n (k.count main)
    ∙ ap (λ m. chain k.link (k.last main) (m - n)) (sym e))

module _ (k : Cells) where
  pub close-settles : (c : ℕ) → Settles k.settled (close_cells k c)
  close-settles c = cases (eqb (k.opened c) main) (λ e. inr (rw e)) (λ e. inl (rw e))

  pub join-settles : (a b : ℕ) → Settles k.settled (join_cells k a b)
  join-settles a b = cases (eqb a main) (λ e. let m = eqb-true a main e in inr (rw m)) (λ e. inl (rw e))

  -- a fork leaves the main revision's list, and what is settled of it
  pub fork-settles : (n p c : ℕ) → (c ≡ main → ⊥) → Settles n k → Settles n (fork_cells k p c)
  fork-settles n p c apart h = either h inl (λ e. inr (e ∙ rw (ne_eqb main c (λ z. apart (sym z)))))
