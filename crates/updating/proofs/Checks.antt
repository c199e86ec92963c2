-- What the checks of an update alone say: its bib is in range, and the log has room, by 20.
use Prim.Native.Nat.{ℕ, suc, ◌<◌}
use mathlib.Core.Bool.{true, false, not}
use mathlib.Core.Path.{◌≡◌, sym, ◌∙◌, ap}
use native.Mathlib.Omega.{arith}
use lib.Dec.{ltb}
use borrow.Author.Tests.{ltb-true, not-false}
use Rattle.lists.proofs.Told.{Told, told}
use Rattle.updates.specs.Kinds.{bad_bib}
use Rattle.entries.specs.Sizes.{bib_range}
use Rattle.checks.specs.declared.log.LogCheck.{LogCheck}
use Rattle.checks.specs.declared.log.LogCheck.TheVariants as log
use Rattle.table.specs.Shared.{above}
use Rattle.table.proofs.Shared.{above-next}
use Rattle.updating.specs.Checks.{room_check}

-- code 5
pub bib_in : (n : ℕ) → bad_bib n ≡ false → n < bib_range
bib_in n e = let l = ltb-true n 1000 (not-false (ltb n 1000) e) in omega arith

-- code 20, and code 9 of a bundle's entry
module _ (taken most : ℕ) where
  pub room-told : Told (ltb taken most) log.Room log.Full (room_check taken most)
  unfolding room_check
  room-told = told _ _ _ (λ h. cc)

  -- the count as it was read of a table that has n
  module _ (n : ℕ) (e : taken ≡ n) (a : LogCheck) (h : a ≡ room_check taken most) where
    above-is : above most (suc n) ≡ not (ltb taken most)
    above-is = above-next most n ∙ ap (λ k. not (ltb k most)) (sym e)

    pub room-left : a ≡ log.Room → above most (suc n) ≡ false
    room-left q = above-is ∙ ap not (room-told.holds (sym h ∙ q))

    pub room_gone : a ≡ log.Full → above most (suc n) ≡ true
    room_gone q = above-is ∙ ap not (room-told.fails (sym h ∙ q))
