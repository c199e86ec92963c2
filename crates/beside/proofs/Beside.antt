-- What the check of the other three tables says, and a call that it ends or lets pass.
use Prim.Native.Nat.{ℕ}
use mathlib.Core.Bool.{true, false, ◌&&◌}
use mathlib.Core.Path.{◌≡◌}
use mathlib.Core.List.{List}
use lib.ListN.{length}
use Rattle.lists.proofs.Cases.{and-true}
use Rattle.lists.proofs.Told.{Told, told}
use Rattle.desk.specs.Calls.{Call}
use Rattle.table.specs.Halves.{is_table}
use Rattle.table.specs.Out.{table_bytes}
use Rattle.table.specs.Checks.{table_check}
use Rattle.table.specs.Shared.{above}
use Rattle.table.specs.declared.sound.TableCheck.TheVariants as table
use Rattle.table.proofs.Halves.{lower_of}
use Rattle.card.specs.Courses.{Plain, sharing, turned_away}
use Rattle.card.specs.Room.{beside, most, served_beside}
use Rattle.beside.specs.Three.{three_check}

module _ (a b c : List ℕ) where
  -- one that is no table ends the check; the third decides
  pub first-damaged : is_table a ≡ false → table.Damaged ≡ three_check a b c
  unfolding three_check
  first-damaged h = rw h

  pub second-damaged : is_table a ≡ true → is_table b ≡ false → table.Damaged ≡ three_check a b c
  unfolding three_check
  second-damaged h k = rw (h, k)

  pub third-decides : is_table a ≡ true → is_table b ≡ true → table_check c ≡ three_check a b c
  unfolding three_check table_check
  third-decides h k = rw (h, k)

  three-told : Told (is_table a && is_table b && is_table c) table.Sound table.Damaged (three_check a b c)
  unfolding three_check
  three-told = told _ _ _ (λ h. cc)

  pub long-tables : three_check a b c ≡ table.Sound → (length a ≡ table_bytes) × (length b ≡ table_bytes) × (length c ≡ table_bytes)
  long-tables e =
      let p = and-true (is_table a && is_table b) (is_table c) (three-told.holds e) in
      let q = and-true (is_table a) (is_table b) p.0 in
      ((lower_of a q.0).0, (lower_of b q.1).0, (lower_of c p.1).0)

  -- the call on t
  module _ (t : List ℕ) (q : Call (List ℕ)) where
    pub beside-tables : three_check a b c ≡ table.Sound → served_beside a b c t q ≡ sharing (above (most (beside a b c))) t q
    unfolding served_beside
    beside-tables e = rw (three-told.holds e)

    pub beside_none : three_check a b c ≡ table.Damaged → served_beside a b c t q ≡ turned_away 1 t (Plain q)
    unfolding served_beside
    beside_none e = rw (three-told.fails e)
