-- A linked list read backwards: what a changed link leaves as it was, and two lists in a row.
use Prim.Native.Nat.{ℕ, zero, suc, ◌+◌}
use mathlib.Core.Path.{◌≡◌, refl, sym, ◌∙◌, ap}
use mathlib.Core.List.Memᴰ
use mathlib.Core.List.{[], ◌∷◌, ◌++◌, append-nil, append_assoc, Nodup, Nodup-cons}
use native.Mathlib.Nat.{add-suc, add-zero}
use native.Mathlib.Omega.{arith}
use lib.ListN.{length, length-append}
use Rattle.lists.specs.Lists.{◌∈◌, changed}
use Rattle.lists.proofs.Changed.{changed_same, changed-other}
use Rattle.cells.specs.Cells.{chain}

-- n links back from `at`
unfoldable pub walk : (ℕ → ℕ) → ℕ → ℕ → ℕ
walk link at zero = at
walk link at (suc n) = walk link (link at) n

pub walk_link : (link : ℕ → ℕ) (at n : ℕ) → walk link at (suc n) ≡ link (walk link at n)
unfolding walk
walk_link link at zero = refl
walk_link link at (suc n) = walk_link link (link at) n

pub chain_first : (link : ℕ → ℕ) (at n : ℕ) → chain link at (suc n) ≡ walk link at n ∷ chain link at n
unfolding chain walk
chain_first link at zero = refl
chain_first link at (suc n) = ap (λ z. z ++ (at ∷ [])) (chain_first link (link at) n)

pub chain-append : (link : ℕ → ℕ) (at n m : ℕ) → chain link at (n + m) ≡ chain link (walk link at m) n ++ chain link at m
unfolding chain walk
chain-append link at n zero = rw (add-zero, append-nil)
chain-append link at n (suc m) = rw (add-suc, chain-append link (link at) n m, append_assoc)

pub chain_length : (link : ℕ → ℕ) (at n : ℕ) → length (chain link at n) ≡ n
unfolding chain
chain_length link at zero = refl
chain_length link at (suc n) = rw (length-append, chain_length link (link at) n) (omega arith)

-- a link changes that is not looked at
pub kept-walk : (link : ℕ → ℕ) (u v at n : ℕ) → (u ∈ chain link at n → ⊥) → walk (changed link u v) at n ≡ walk link at n
unfolding chain walk
kept-walk link u v at zero h = refl
kept-walk link u v at (suc n) h =
    rw (changed-other link u v at (λ e. h (Memᴰ.append_right (chain link (link at) n) (Memᴰ.head (sym e)))))
    (kept-walk link u v (link at) n (λ m. h (Memᴰ.append_left (at ∷ []) m)))

pub kept-past : (link : ℕ → ℕ) (u v at n : ℕ) → (u ∈ chain link at n → ⊥) → chain (changed link u v) at (suc n) ≡ chain link at (suc n)
unfolding chain
kept-past link u v at zero h = refl
kept-past link u v at (suc n) h =
    rw (
      changed-other link u v at (λ e. h (Memᴰ.append_right (chain link (link at) n) (Memᴰ.head (sym e)))),
      kept-past link u v (link at) n (λ m. h (Memᴰ.append_left (at ∷ []) m)),
    )

pub kept-chain : (link : ℕ → ℕ) (u v at n : ℕ) → (u ∈ chain link at n → ⊥) → chain (changed link u v) at n ≡ chain link at n
unfolding chain
kept-chain link u v at zero h = refl
kept-chain link u v at (suc n) h = kept-past link u v at n (λ m. h (rw chain_first (Memᴰ.tail m)))

-- the first entry of a list with no duplicates stands nowhere else in it
pub first_apart : (link : ℕ → ℕ) (at n : ℕ) → Nodup (chain link at (suc n)) → walk link at n ∈ chain link at n → ⊥
first_apart link at n d m = (Nodup-cons.0 (rw chain_first at d)).0 ∣ m ∣₁

-- two lists in a row: the first link of the second is the end of the first
pub splice : (link : ℕ → ℕ) (e n at m : ℕ) → Nodup (chain link at (suc m)) → (walk link at m ∈ chain link e n → ⊥)
    → chain (changed link (walk link at m) e) at (n + suc m) ≡ chain link e n ++ chain link at (suc m)
splice link e n at m d h =
    let a = first_apart link at m d in
    let f = walk link at m in
    let t : walk (changed link f e) at (suc m) ≡ e = walk_link (changed link f e) at m ∙ ap (changed link f e) (kept-walk link f e at m a) ∙ changed_same link f e in
    chain-append (changed link f e) at n (suc m) ∙ rw (t, kept-chain link f e e n h, kept-past link f e at m a)
