-- The calls whose refusals 02 tells by those of another: sync and preview by join, mark by fork.
use Prim.Native.Nat.{ℕ}
use mathlib.Core.Bool.{cond}
use mathlib.Core.Path.{◌≡◌, refl}
use Rattle.lists.specs.Names.{Name}
use Rattle.updates.specs.Kinds.{bad_bib}
use Rattle.boards.specs.Board.{board_bytes}
use Rattle.desk.specs.Calls.{Fork, Join, Sync, Mark, Looks, Preview}
use Rattle.desk.specs.Checks.{Tests, checks, settle}

module _ {A : Type 0} (refusal : ℕ → A) (end : A) (q : Tests) where
  -- 02, U8: a sync "has join's refusals for joiner 0"
  pub sync-as-join : (m room : ℕ) → settle (checks q (Sync m room)) refusal end ≡ settle (checks q (Join 0 m room)) refusal end
  sync-as-join m room = refl

  -- 02, U6, of a preview: "Refusals are those of the join, then 5 for the bib". It has no board, as a join with one of the right length
  pub preview-as-join : (n m bib : ℕ)
      → settle (checks q (Looks (Preview n m bib))) refusal end ≡ settle (checks q (Join n m board_bytes)) refusal (cond (bad_bib bib) (refusal 5) end)
  preview-as-join n m bib = refl

  -- 02, U9: "Mark has fork's refusals", 15 on a day without marks, and "17 and 18 are checked last"
  pub mark-as-fork : (n : ℕ) (name : Name) → q.off_line n ≡ q.markless
      → settle (checks q (Mark n name)) refusal end ≡ settle (checks q (Fork n)) refusal (cond (q.bad_name name) (refusal 17) end)
  mark-as-fork n name e = rw e refl
