-- 02, U11, of every buffer, also one that no day made: "A taken join may make the table differ from its former bytes at no more than 256 places, however many
-- updates it brings over." Join and sync promise it in their own contracts too (crates announcing and exports).
use Rattle.std.specs.Prelude.{ℕ, ◌≤◌, ◌≡◌, List}
use Rattle.lists.specs.Differences.{differences}
use Rattle.cells.specs.Words.{Bytes}
use Rattle.table.specs.Halves.{high}
use Rattle.table.specs.Out.{Out}
use Rattle.table.specs.Calls.{join_out, sync_out}

-- the bytes that a call leaves of the lent ones: they differ at n places at most, and no entry was written
pub record Light (t : List ℕ) (n : ℕ) (o : Out) : Type 0 where
  pub places : differences t o.lent ≤ n
  pub entries : high o.lent ≡ high t

abbrev pub LightJoins : Type 0
LightJoins = (t : List ℕ) → Bytes t → (n m room : ℕ) → Light t 256 (join_out t n m room)

-- "carry it through sync, where the fork may add 256 more"
abbrev pub LightSyncs : Type 0
LightSyncs = (t : List ℕ) → Bytes t → (m room : ℕ) → Light t 512 (sync_out t m room)
