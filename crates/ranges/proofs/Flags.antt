-- A flag kept over a loop.
use Prim.Native.Nat.{ℕ, ◌+◌}
use mathlib.Core.Bool.{Bool, ◌&&◌}
use mathlib.Core.Path.{◌≡◌}
use native.Mathlib.Numerals.{add-one}
use Rattle.cells.specs.Tables.{every}

-- whether f holds of each number so far, and of the next
pub every-next : (f : ℕ → Bool) (i : ℕ) {ok x : Bool} → ok ≡ every f i → x ≡ f i → (ok && x) ≡ every f (i + 1)
unfolding every
every-next f i p e = rw (add-one, p, e)
