-- As many bytes copied as were lent.
use Prim.Native.Nat.{ℕ}
use mathlib.Core.Path.{◌≡◌, ap}
use mathlib.Core.List.{List, ◌++◌}
use lib.ListN.{length, take}
use lib.Seq.{drop-drop}
use borrow.Rule.Slice.PartMut.{put_mid}
use Rattle.lists.specs.Arranged.{replaced}

pub copied : (t from q : List ℕ) (at k : ℕ) → k ≡ length from → q ≡ from → put_mid at k t q ≡ replaced t at (length from) from
copied t from q at k e f = rw (f, e) (ap (λ z. take at t ++ (from ++ z)) (drop-drop (length from) at t))
