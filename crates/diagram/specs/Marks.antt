-- 02, U9, "Marked states", on every run of accepted steps: names, what a mark shows, and that what comes of a mark stays apart.
use Rattle.std.specs.Prelude.{ℕ, ◌<◌, true, ◌≡◌, ◌↔◌, List, ◌∷◌, ◌++◌}
use Rattle.std.proofs.Math.Option.{some}
use Rattle.lists.specs.Names.{Name}
use Rattle.lists.specs.Letters.{FourLetters}
use Rattle.diagram.specs.Views.{view}
use Rattle.diagram.specs.Construction.{Joinable}
use Rattle.diagram.specs.Day.{Day, IsOut, IsIdle, is_named, mark_named, shown_at}
use Rattle.diagram.specs.Checks.{marked}
use Rattle.diagram.specs.Steps.{Step, Fork, Drop, run}
use Rattle.diagram.specs.Lawful.{MayFollow}
use Rattle.diagram.specs.Arbitration.{Sees}

-- name n means revision r
abbrev pub NameMeans : Day → Name → ℕ → Type 0
NameMeans y n r = (is_named y n ≡ true) × (mark_named y n ≡ r)

-- revision r was started as a mark, whether it was dropped since or not
pub record StartedAsMark (ss : List Step) (r : ℕ) : Type 0 where
  pub before : List Step
  pub rest : List Step
  pub forked : ℕ
  pub name : Name
  pub is : ss ≡ before ++ (Fork forked (some name) ∷ rest)
  pub starts : r ≡ (run before).revisions

-- revision x is the mark r, or was forked from it or from what comes of it: a path leads from the mark's start vertex to its own
abbrev pub FromMark : Day → ℕ → ℕ → Type 0
FromMark y r x = Sees y (y.start_of x) (y.start_of r)

pub record ByMarks (ss : List Step) : Type 0 where
  -- "Dropping a mark, by its name": a name means the one mark that bears it, so that no two bear the same
  pub means : (n : Name) (r : ℕ) → NameMeans (run ss) n r ↔ ((run ss).mark r ≡ some n)
  -- "18 no such mark, for a drop": a drop of a name in use has no refusal
  pub drops : (n : Name) → is_named (run ss) n ≡ true → MayFollow ss (Drop (mark_named (run ss) n))
  -- "a name of four letters A to Z"
  pub letters : (r : ℕ) (n : Name) → (run ss).mark r ≡ some n → FourLetters n
  -- "At most 64 boxes out, marked ones included": a mark is out; and no transaction is open on it
  pub out : (r : ℕ) → marked (run ss) r ≡ true → IsOut (run ss) r
  pub idle : (r : ℕ) → marked (run ss) r ≡ true → IsIdle (run ss) r
  -- "not written, queried or joined": it lists what its start vertex shows, and so has no update of its own, and lists the same as long as it is out
  pub still : (r : ℕ) → marked (run ss) r ≡ true → shown_at (run ss) r ≡ view (run ss).diagram ((run ss).start_of r)
  pub still_later : (before rest : List Step) (r : ℕ) → ss ≡ before ++ rest → marked (run before) r ≡ true → marked (run ss) r ≡ true
      → shown_at (run ss) r ≡ shown_at (run before) r
  -- "Coming back means forking it": what comes of a mark stays apart. A revision's terminal sees the mark's start vertex exactly if the revision is from it
  pub by_starts : (r x : ℕ) → StartedAsMark ss r → x < (run ss).revisions
      → Sees (run ss) ((run ss).terminal x) ((run ss).start_of r) ↔ FromMark (run ss) r x
  -- so what comes of it can be joined only into one that is from it, and never into the main revision
  pub among : (r a b : ℕ) → StartedAsMark ss r → a < (run ss).revisions → b < (run ss).revisions → FromMark (run ss) r b → (b ≡ r → ⊥)
      → Joinable (run ss).diagram ((run ss).terminal a) ((run ss).terminal b) → FromMark (run ss) r a
  pub never_main : (r b : ℕ) → StartedAsMark ss r → b < (run ss).revisions → FromMark (run ss) r b → (b ≡ r → ⊥)
      → Joinable (run ss).diagram ((run ss).terminal 0) ((run ss).terminal b) → ⊥
