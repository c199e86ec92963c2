-- The standing of a bib, from the entries in the upper half.
use Prim.Native.Nat.{ℕ}
use mathlib.Core.Path.{◌≡◌, ◌∙◌, ap}
use mathlib.Core.List.{List}
use lib.ListN.{length, take}
use Rattle.updates.specs.declared.standing.Standing.{Standing}
use Rattle.cells.specs.Order.{order}
use Rattle.entries.specs.Sizes as Upper
use Rattle.entries.specs.Entries.{entry_at}
use Rattle.entries.specs.Folded.{standing_of}
use Rattle.table.specs.Halves.{high, cells_of}
use Rattle.table.specs.Out.{table_bytes}
use Rattle.table.specs.Calls.{standing_at}
use Rattle.table.proofs.Halves.{high_whole}

-- the standing after some numbers, from the upper half as it was lent
pub along-entries : (t ns : List ℕ) (bib : ℕ) (s : Standing) → length t ≡ table_bytes → s ≡ standing_of (entry_at (take Upper.entry_bytes (high t))) bib ns → s ≡ standing_of (entry_at (high t)) bib ns
along-entries t ns bib s h e = e ∙ ap (λ (u : List ℕ). standing_of (entry_at u) bib ns) (high_whole t h)

pub standing-along : (t : List ℕ) (r bib : ℕ) (s : Standing) → length t ≡ table_bytes → s ≡ standing_of (entry_at (take Upper.entry_bytes (high t))) bib (order (cells_of t) r) → s ≡ standing_at t r bib
unfolding standing_at
standing-along t r bib s h e = along-entries t (order (cells_of t) r) bib s h e
