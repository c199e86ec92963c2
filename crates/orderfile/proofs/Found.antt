-- The test of an order by its two halves: whether it is complete, and with the places that the code keeps.
use Prim.Native.Nat.{ℕ}
use mathlib.Core.Bool.{Bool, true, false}
use mathlib.Core.Path.{◌≡◌, sym, ◌∙◌}
use mathlib.Core.List.{List}
use lib.ListN.{length}
use Rattle.lists.proofs.Sums.{any_same}
use Rattle.orderfile.specs.Test.{place_in, wrong, in_order, fits}
use Rattle.orderfile.specs.Checks.{PlacesOf, place_at}
use Rattle.orderfile.proofs.Complete.{not_as_many}
use Rattle.orderfile.proofs.Rises.{rises_same}

pub another_count : (taken boxes : ℕ) (out : ℕ → Bool) (listed : ℕ → List ℕ) (ns : List ℕ) → (length ns ≡ taken → ⊥) → false ≡ fits taken boxes out listed ns
unfolding fits
another_count taken boxes out listed ns h = rw (sym (not_as_many taken ns h))

module _ (taken boxes : ℕ) (out : ℕ → Bool) (listed : ℕ → List ℕ) (ns places : List ℕ) (found : Bool) (p : PlacesOf taken ns places found) where
  pub not-complete : found ≡ false → false ≡ fits taken boxes out listed ns
  unfolding fits
  not-complete e = rw (sym p.is ∙ e)

  pub complete-and : found ≡ true → (x : Bool) → x ≡ in_order boxes out listed (place_at places) → x ≡ fits taken boxes out listed ns
  unfolding fits in_order
  complete-and e x h =
      let same = any_same boxes (wrong out listed (place_at places)) (wrong out listed (place_in ns)) (λ r l. rw (rises_same (place_at places) (place_in ns) 0 (listed r) (p.each e))) in
      rw (sym p.is ∙ e) (rw same at h)
