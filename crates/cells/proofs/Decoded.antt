-- The cells of the bytes that each step leaves, of any bytes in range.
use Prim.Native.Nat.{ℕ, ◌<◌}
use mathlib.Core.Bool.{Bool}
use mathlib.Core.Path.{◌≡◌, ◌∙◌, ap}
use mathlib.Core.List.{List}
use native.Mathlib.Omega.{arith}
use lib.ListN.{length}
use Rattle.lists.specs.Names.{Name}
use Rattle.cells.specs.Sizes.{clients, main, revisions, updates}
use Rattle.cells.specs.Parts.{Parts, Sized, glue, split}
use Rattle.cells.specs.Cells.{Cells}
use Rattle.cells.specs.Decode.{cells, decode}
use Rattle.cells.specs.CellSteps.{fresh_cells, query_cells, update_cells, close_cells, fork_cells, mark_cells, drop_cells, join_cells}
use Rattle.cells.specs.Steps.{fresh_parts, query_parts, update_parts, close_parts, fork_parts, mark_parts, drop_parts, join_parts}
use Rattle.cells.specs.Steps.{fresh_bytes, query_bytes, update_bytes, close_bytes, fork_bytes, mark_bytes, join_bytes, drop_bytes}
use Rattle.cells.proofs.Follow.{close_follows, drop-follows, join-follows, query-follows, update-follows}
use Rattle.cells.proofs.FollowFork.{fork-follows, mark-follows}
use Rattle.cells.proofs.FollowFresh.{fresh_follows}
use Rattle.cells.proofs.Parts.{split-glue, split_sized}
use Rattle.cells.proofs.Range.{Ranges, ranges}
use Rattle.cells.proofs.Sized.{close_sized, drop_sized, fork_sized, fresh_sized, join_sized, mark_sized, query_sized, update_sized}
use Rattle.cells.proofs.Stays.{Lower}

glued : (p : Parts) (k : Cells) → Sized p → decode p ≡ k → cells (glue p) ≡ k
unfolding cells
glued p k s e = ap decode (split-glue p s) ∙ e

pub fresh-decoded : (single : Bool) → cells (fresh_bytes single) ≡ fresh_cells single
unfolding fresh_bytes
fresh-decoded single = glued (fresh_parts single) (fresh_cells single) (fresh_sized single) (fresh_follows single)

module _ (d : List ℕ) (L : Lower d) where
  abbrev p : Parts
  p = split d

  sized : Sized p
  sized = split_sized d L.long

  R : Ranges (cells d)
  R = ranges d L.ranged

  pub query-decoded : (c r : ℕ) → c < clients → r < revisions → cells (query_bytes d c r) ≡ query_cells (cells d) c r
  unfolding cells query_bytes
  query-decoded c r cl rl = glued (query_parts p c r) _ (query_sized sized c r cl) (query-follows p sized c r cl rl)

  pub update-decoded : (c r : ℕ) → c < clients → r < revisions → (cells d).updates < updates → cells (update_bytes d c r) ≡ update_cells (cells d) c r
  unfolding cells update_bytes
  update-decoded c r cl rl ul = glued (update_parts p c r) _ (update_sized sized c r cl) (update-follows p sized c r cl rl ul (R.last r rl))

  pub close-decoded : (c : ℕ) → c < clients → cells (close_bytes d c) ≡ close_cells (cells d) c
  unfolding cells close_bytes
  close-decoded c cl = glued (close_parts p c) _ (close_sized sized c) (close_follows p sized c main cl (omega arith))

  pub fork-decoded : (q c : ℕ) → q < revisions → c < revisions → (c ≡ main → ⊥) → cells (fork_bytes d q c) ≡ fork_cells (cells d) q c
  unfolding cells fork_bytes
  fork-decoded q c ql cl pos = glued (fork_parts p q c) _ (fork_sized sized q c cl) (fork-follows p sized q c ql cl pos)

  pub mark-decoded : (q c : ℕ) (n : Name) → q < revisions → c < revisions → (c ≡ main → ⊥) → length n ≡ 4 → cells (mark_bytes d q c n) ≡ mark_cells (cells d) q c n
  unfolding cells mark_bytes
  mark-decoded q c n ql cl pos l = glued (mark_parts p q c n) _ (mark_sized sized q c n cl) (mark-follows p sized q c ql cl pos n l)

  pub join-decoded : (a b : ℕ) → a < revisions → b < revisions → cells (join_bytes d a b) ≡ join_cells (cells d) a b
  unfolding cells join_bytes
  join-decoded a b al bl = glued (join_parts p a b) _ (join_sized sized a b al) (join-follows p sized a b al bl (R.first b bl) (R.last a al))

  pub drop-decoded : (r : ℕ) → r < revisions → cells (drop_bytes d r) ≡ drop_cells (cells d) r
  unfolding cells drop_bytes
  drop-decoded r rl = glued (drop_parts p r) _ (drop_sized sized r) (drop-follows p sized r rl)
