-- 02, U7, on every run of accepted steps: the numbers that revisions bear, by the history of forks and hand-ins.
use Rattle.std.specs.Prelude.{ℕ, ◌<◌, ◌≤◌, Bool, not, ◌&&◌, ◌≡◌, ◌↔◌, List, [], ◌∷◌, ◌++◌, eqb, ltb}
use Rattle.std.proofs.Math.Option.{Option}
use Rattle.lists.specs.Lists.{keep, mapped}
use Rattle.lists.specs.Sums.{any_below}
use Rattle.lists.specs.Names.{Name}
use Rattle.diagram.specs.Sizes.{revision_limit}
use Rattle.diagram.specs.Day.{Day, IsOut, Means, number_of, out_count}
use Rattle.diagram.specs.Steps.{Step, Event, Yield, Fork, Join, Drop, run}

-- the revisions handed in, in the order of their hand-ins; U9: a drop "frees its number as a hand-in does"
abbrev pub hand_ins : List Step → List ℕ
hand_ins [] = []
hand_ins (Event c r u ∷ ss) = hand_ins ss
hand_ins (Yield c ∷ ss) = hand_ins ss
hand_ins (Fork r name ∷ ss) = hand_ins ss
hand_ins (Join a b ∷ ss) = b ∷ hand_ins ss
hand_ins (Drop r ∷ ss) = r ∷ hand_ins ss

-- a later revision bears the number of revision r
abbrev pub used_again : Day → ℕ → Bool
used_again y r = any_below y.revisions (λ s. ltb r s && eqb (number_of y s) (number_of y r))

-- the numbers that wait to be used again: those of the revisions handed in, in the order of their hand-ins, that no later revision bears
abbrev pub waiting : List Step → List ℕ
waiting ss = mapped (number_of (run ss)) (keep (λ r. not (used_again (run ss) r)) (hand_ins ss))

-- a revision, out or handed in, got number n at its start
abbrev pub Used : Day → ℕ → Type 0
Used y n = (r : ℕ) × (r < y.revisions) × (number_of y r ≡ n)

-- revision r is "the latest box that bore" n
pub record Bears (y : Day) (r n : ℕ) : Type 0 where
  pub bore : (r < y.revisions) × (number_of y r ≡ n)
  pub no_later : (s : ℕ) → r < s → s < y.revisions → number_of y s ≡ n → ⊥

-- "A fork now takes a never-used number while there is one, else the number handed in longest ago." Of those never used it is the next, as
-- in 01, "Words": "each fork gives the next unused number".
pub data Takes (ss : List Step) (n : ℕ) : Type 0 where
  never_used : n < revision_limit → (Used (run ss) n → ⊥) → ((m : ℕ) → m < n → Used (run ss) m) → Takes ss n
  longest_ago : ((m : ℕ) → m < revision_limit → Used (run ss) m) → (others : List ℕ) → waiting ss ≡ n ∷ others → Takes ss n

pub record ByNumbers (ss : List Step) : Type 0 where
  -- the main revision bears 0, and each other one the number that its fork took
  pub main : number_of (run ss) 0 ≡ 0
  pub forked : (before rest : List Step) (r : ℕ) (name : Option Name) → ss ≡ before ++ (Fork r name ∷ rest)
      → Takes before (number_of (run ss) (run before).revisions)
  -- "A number means the latest box that bore it"; that of a revision out means it
  pub means : (n r : ℕ) → Means (run ss) n r ↔ Bears (run ss) r n
  pub out : (r : ℕ) → IsOut (run ss) r → Means (run ss) (number_of (run ss) r) r
  -- what the day keeps of them: how many were used, and those that wait
  pub given : (n : ℕ) → (n < (run ss).numbering.given) ↔ Used (run ss) n
  pub freed : (run ss).numbering.freed ≡ waiting ss
  -- there are never more than 64 out
  pub most : out_count (run ss) ≤ revision_limit
