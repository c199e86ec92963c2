-- What is shown of revisions, said of the numbers that mean them.
use Prim.Native.Nat.{ℕ}
use Rattle.diagram.specs.Day.{Day, Means, number_of}
use Rattle.diagram.proofs.Days.Found.{found-means}
use Rattle.diagram.proofs.Days.Naming.{meant-low, meant-number}
use Rattle.cells.specs.Cells.{Cells}
use Rattle.following.specs.Follow.{CellsFollow}
use Rattle.following.specs.Numbers.{Number, NumberOut, NumbersFollow}

module _ (y : Day) (k : Cells) (F : CellsFollow y k) where
  of_number : (n r : ℕ) → Means y n r → Number y k n r
  of_number n r e =
      let l = meant-low y n r ((found-means y n r).1 e) in
      let q = meant-number y n r ((found-means y n r).1 e) in
      record {
        same_joined = F.same_joined n r e;
        same_marked = F.same_marked n r e;
        same_elsewhere = λ c l. F.same_elsewhere c n r l e;
        same_busy_by_other = λ c. F.same_busy_by_other c n r e;
        same_busy = F.same_busy n r e;
        out = λ o. let a : NumberOut y k (number_of y r) r = record { same_order = F.same_order r (l, o); same_gain = F.same_gain r (l, o); same_stale = λ c k. F.same_stale c r k (l, o) } in rw q at a;
      }

  pub numbers-follow : NumbersFollow y k
  numbers-follow = record {
    same_given = F.same_given;
    number = of_number;
    same_joinable = λ n m a b p q oa ob.
        let f = (found-means y n a).1 p in
        let g = (found-means y m b).1 q in
        rw (meant-number y n a f, meant-number y m b g) at (F.same_joinable a b (meant-low y n a f, oa) (meant-low y m b g, ob));
    same_bad_name = F.same_bad_name;
    same_no_mark = F.same_no_mark;
    same_bearer = F.same_bearer;
  }
