-- What a number means, as one search: the latest revision that bore it, if any did.
use Prim.Native.Nat.{ℕ, suc, zero}
use mathlib.Core.Bool.{cond, false≢true, true}
use mathlib.Core.Logic.{◌↔◌}
use mathlib.Core.Path.{◌∙◌, ◌≡◌, ap, refl, sym}
use mathlib.Core.Option.{Option, none, some}
use lib.Dec.{eqb}
use Rattle.lists.specs.Sums.{any_below, last_below}
use Rattle.lists.proofs.Cases.{cases}
use Rattle.diagram.specs.Checks.{is_some}
use Rattle.diagram.specs.Day.{Day, Means, is_given, meant}

abbrev pub searched : (ℕ → ℕ) → ℕ → ℕ → Option ℕ
searched of n zero = none
searched of n (suc m) = cond (eqb (of m) n) (some m) (searched of n m)

unfoldable pub found : Day → ℕ → Option ℕ
found y n = searched y.numbering.of n y.revisions

abbrev pub or_main : Option ℕ → ℕ
or_main none = 0
or_main (some r) = r

any_searched : (of : ℕ → ℕ) (n m : ℕ) → any_below m (λ r. eqb (of r) n) ≡ is_some (searched of n m)
unfolding any_below
any_searched of n zero = refl
any_searched of n (suc m) = cases (eqb (of m) n) (λ e. rw e) (λ e. rw e (any_searched of n m))

last_searched : (of : ℕ → ℕ) (n m : ℕ) → last_below m (λ r. eqb (of r) n) ≡ or_main (searched of n m)
last_searched of n zero = refl
last_searched of n (suc m) = cases (eqb (of m) n) (λ e. rw e) (λ e. rw e (last_searched of n m))

some_is : (o : Option ℕ) → is_some o ≡ true → o ≡ some (or_main o)
some_is none e = absurd (false≢true e)
some_is (some r) e = refl

module _ (y : Day) (n : ℕ) where
  pub given-found : is_given y n ≡ is_some (found y n)
  unfolding is_given found
  given-found = any_searched y.numbering.of n y.revisions

  pub meant-found : meant y n ≡ or_main (found y n)
  unfolding meant found
  meant-found = last_searched y.numbering.of n y.revisions

  -- a number given out is found
  pub is_found : is_given y n ≡ true → found y n ≡ some (meant y n)
  is_found e = some_is (found y n) (sym given-found ∙ e) ∙ ap some (sym meant-found)

  pub found-means : (r : ℕ) → (found y n ≡ some r) ↔ Means y n r
  found-means r = (λ e. (given-found ∙ ap is_some e, meant-found ∙ ap or_main e), λ (g, e). is_found g ∙ ap some e)
