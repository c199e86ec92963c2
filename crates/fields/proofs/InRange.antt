-- What a range check of a number says, and the check of a revision number.
use Prim.Native.Nat.{ℕ, suc, ◌<◌, ◌≤◌}
use mathlib.Core.Bool.{cond}
use mathlib.Core.Path.{◌≡◌, refl, sym, ◌∙◌, ap}
use native.Mathlib.Omega.{arith}
use lib.Dec.{ltb}
use borrow.Author.Tests.{ltb-true, ltb-false}
use Rattle.lists.proofs.Cases.{cases}
use Rattle.cells.specs.Sizes.{revisions}
use Rattle.sizes.specs.Numbers.{revision_of}
use Rattle.sizes.specs.declared.numbers.Revision.{Revision}
use Rattle.sizes.specs.declared.numbers.OutOfRange.{OutOfRange}
use Rattle.std.specs.Prelude.{Result, Ok, Err}

-- An answer of such a check, told as a number: the number that it knows, plus one, or 0. So it tells on which side of the limit n is.
module _ {C : Type 0} (told : C → ℕ) (n limit : ℕ) (yes no : C) (ey : told yes ≡ suc n) (en : told no ≡ 0) {a : C} (e : cond (ltb n limit) yes no ≡ a) where
  pub known-below : (x : ℕ) → told a ≡ suc x → (x ≡ n) × (n < limit)
  known-below x t =
      cases (ltb n limit)
      (λ q. let s : suc n ≡ suc x = sym ey ∙ ap told (rw q at e) ∙ t in (omega arith, ltb-true n limit q))
      (λ q. let s : 0 ≡ suc x = sym en ∙ ap told (rw q at e) ∙ t in absurd (omega arith))

  pub unknown-above : told a ≡ 0 → limit ≤ n
  unknown-above t = cases (ltb n limit) (λ q. let s : suc n ≡ 0 = sym ey ∙ ap told (rw q at e) ∙ t in absurd (omega arith)) (λ q. ltb-false n limit q)

abbrev told : Result Revision OutOfRange → ℕ
told (Ok r) = suc r.0
told (Err e) = 0

pub known-revision : (n : ℕ) (r : Revision) → revision_of n ≡ Ok r → (r.0 ≡ n) × (n < revisions)
unfolding revision_of
known-revision n r e = known-below told n revisions (Ok (record { 0 = n })) (Err (record {})) refl refl e r.0 refl

pub unknown_revision : (n : ℕ) (x : OutOfRange) → revision_of n ≡ Err x → revisions ≤ n
unfolding revision_of
unknown_revision n x e = unknown-above told n revisions (Ok (record { 0 = n })) (Err (record {})) refl refl e refl
