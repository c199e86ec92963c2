-- A function changed at one place.
use Prim.Native.Nat.{ℕ}
use mathlib.Core.Path.{◌≡◌, refl}
use lib.Dec.{eqb}
use borrow.Author.Tests.{eq-eqb, ne_eqb}
use Rattle.lists.specs.Lists.{changed}
use Rattle.lists.proofs.Cases.{cond_all}

pub changed_same : {A : Type 0} (f : ℕ → A) (a : ℕ) (v : A) → changed f a v a ≡ v
changed_same f a v = rw (eq-eqb a a refl)

pub changed-other : {A : Type 0} (f : ℕ → A) (a : ℕ) (v : A) (x : ℕ) → (x ≡ a → ⊥) → changed f a v x ≡ f x
changed-other f a v x h = rw (ne_eqb x a h)

-- what holds of a value, and of the one put in, holds there after the change
pub changed_at : {A : Type 0} (P : A → Type 0) (f : ℕ → A) (a : ℕ) (v : A) (x : ℕ) → P (f x) → P v → P (changed f a v x)
changed_at P f a v x h g = cond_all P (eqb x a) v (f x) g h
