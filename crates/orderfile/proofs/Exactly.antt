-- The test is `Fits`: of every count, boxes, lists and numbers.
use Prim.Native.Nat.{ℕ, ◌<◌}
use mathlib.Core.Bool.{Bool, true, false, cond, false≢true}
use mathlib.Core.Path.{◌≡◌, refl}
use mathlib.Core.Logic.{◌↔◌}
use mathlib.Core.List.{List}
use native.Mathlib.Omega.{arith}
use borrow.Author.Tests.{not-true, not-false}
use Rattle.lists.specs.Sums.{any_below}
use Rattle.lists.proofs.Cases.{cases, and-true}
use Rattle.lists.proofs.Sums.{any_none, any_never}
use Rattle.lists.proofs.Counts.{few_below}
use Rattle.orderfile.specs.Fits.{Fits}
use Rattle.orderfile.specs.Test.{is_complete, place_in, rises, wrong, in_order, fits}
use Rattle.orderfile.proofs.Complete.{Complete, complete, is-complete, all_there, at-least}
use Rattle.orderfile.proofs.Rises.{rising_sub, sub_rising}

-- yes or no as a value, 1 or 0
pub yes_exactly : (b : Bool) → (◌≡◌ {A = ℕ} (cond b 1 0) 1) ↔ (b ≡ true)
yes_exactly true = (λ e. refl, λ e. refl)
yes_exactly false = (λ e. absurd (omega arith), λ e. absurd (false≢true e))

pub else_none : (b : Bool) → (◌≡◌ {A = ℕ} (cond b 1 0) 1 → ⊥) → ◌≡◌ {A = ℕ} (cond b 1 0) 0
else_none true h = absurd (h refl)
else_none false h = refl

-- a box that is out and below the number
abbrev Among : ℕ → (ℕ → Bool) → ℕ → Type 0
Among boxes out r = (r < boxes) × (out r ≡ true)

module _ (taken boxes : ℕ) (out : ℕ → Bool) (listed : ℕ → List ℕ) (ns : List ℕ) where
  fitting : fits taken boxes out listed ns ≡ true → Fits taken (Among boxes out) listed ns
  unfolding fits in_order
  fitting h =
      let a = and-true (is_complete taken ns) _ h in
      let c = complete taken ns a.0 in
      let bad = wrong out listed (place_in ns) in
      let none = any_none boxes bad (not-true (any_below boxes bad) a.1) in
      let rising : (r : ℕ) → Among boxes out r → rises (place_in ns) 0 (listed r) ≡ true = λ r o. not-false (rises (place_in ns) 0 (listed r)) (rw o.1 at (none r o.0)) in
      record {
        every = all_there taken ns c;
        once = c.once;
        no_other = c.low;
        in_order = λ r o. rising_sub 1 ns 0 (listed r) c.once (omega arith) (rising r o);
      }

  tested : Fits taken (Among boxes out) listed ns → fits taken boxes out listed ns ≡ true
  unfolding fits in_order
  tested f =
      let a = few_below taken ns f.once f.no_other in
      let b = at-least taken ns f.every in
      let c : Complete taken ns = record { many = omega arith; low = f.no_other; once = f.once } in
      let rising : (r : ℕ) → Among boxes out r → rises (place_in ns) 0 (listed r) ≡ true = λ r o. sub_rising 1 ns 0 (listed r) f.once (omega arith) (f.in_order r o) in
      rw (is-complete taken ns c, any_never boxes (wrong out listed (place_in ns)) (λ r l. cases (out r) (λ o. rw (o, rising r (l, o))) (λ o. rw o)))

  pub fits-exactly : (fits taken boxes out listed ns ≡ true) ↔ Fits taken (λ r. (r < boxes) × (out r ≡ true)) listed ns
  fits-exactly = (fitting, tested)
