-- `flags::change::both` meets its contract: the bytes up to `k` are made. Assumes nothing.
use Rattle.std.proofs.Common.{◌≡◌, ◌<◌, ◌≤◌, ℕ, length}
use Rattle.cells.specs.Words.{byte}
use Rattle.flags.proofs.change.both.Given as goal

abbrev pub invariant-loop-k : goal.invariant-loop-k
invariant-loop-k g l = (l.k ≤ 8) × (length l.z ≡ 8) × ((j : ℕ) → j < l.k → goal.F-post g l.fn.f (byte l.a j) (byte l.b j) (byte l.z j))
