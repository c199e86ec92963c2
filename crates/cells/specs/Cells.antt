-- Of the claims only `VerdictsFit` (crate consistency, a verify on any buffer) rests on this file; else it serves the code.
-- The cells as functions of a revision, a client or an update: docs/CELLS.md, "What the cells mean".
use Rattle.std.specs.Prelude.{ℕ, zero, suc, ◌-◌, Bool, cond, ◌&&◌, ◌≡◌, ◌⊎◌, List, [], ◌∷◌, ◌++◌, ltb, take, drop}
use Rattle.lists.specs.Lists.{head_of}
use Rattle.lists.specs.Names.{Name}
use Rattle.cells.specs.Sizes.{revisions, main}

pub record Cells : Type 0 where
  -- 0 never given out, 1 out, 2 joined or dropped, 3 marked, and out
  pub state : ℕ → ℕ
  -- whether the revision's row of inherited updates is in use
  pub used : ℕ → Bool
  -- last and first update of the own list, how many it has, how many of the main revision's list were inherited by count
  pub last : ℕ → ℕ
  pub first : ℕ → ℕ
  pub count : ℕ → ℕ
  pub base : ℕ → ℕ
  -- of a revision and an update: inherited otherwise than by the base count
  pub row : ℕ → ℕ → Bool
  -- the update before this one in the own list that it stands in
  pub link : ℕ → ℕ
  -- of a joiner and a joinee, while both are out: the joinee's fork is seen at the joiner's terminal and the joinee's start is not
  pub seen : ℕ → ℕ → Bool
  -- of a client and a revision: the client's last event is seen at the revision's terminal
  pub caught : ℕ → ℕ → Bool
  -- the revisions out, right to left, in the first `out` of 64 places
  pub layout : List ℕ
  pub out : ℕ
  -- the numbers handed in or dropped and not used again, longest ago first, in the first `given - out` of 64 places; the others
  -- hold any number but the main revision's, which is never handed in
  pub queue : List ℕ
  -- the revision of a client's open transaction, or 64
  pub opened : ℕ → ℕ
  -- updates taken, and revision numbers given out
  pub updates : ℕ
  pub given : ℕ
  -- 02, U9: the name of a mark; of any other number it is not looked at
  pub name : ℕ → Name
  -- 02, U8: the choice given to fresh, a single-main day
  pub single : Bool
  -- 02, U10: how many of the main revision's own updates, from the first, are of closed transactions
  pub settled : ℕ
  -- 02, U14: the boxes ever started, marks not counted, at most 65,535
  pub started : ℕ

-- n updates that end at `at`, along the links; the first one's link is not looked at
unfoldable pub chain : (ℕ → ℕ) → ℕ → ℕ → List ℕ
chain link at zero = []
chain link at (suc n) = chain link (link at) n ++ (at ∷ [])

-- the revision's own updates: taken on it or joined into it
abbrev pub own : Cells → ℕ → List ℕ
own k r = chain k.link (k.last r) (k.count r)

-- 02, U10: "It shows box 0 by closed transactions only": the main revision's own updates that are of closed transactions
abbrev pub settled_own : Cells → List ℕ
settled_own k = take k.settled (own k main)

-- of these all but the first n, and so what a step brings there: what is settled after it, without as many as were before it
abbrev pub settled_since : ℕ → Cells → List ℕ
settled_since n k = drop n (settled_own k)

abbrev pub brought : Cells → Cells → List ℕ
brought k k' = settled_since k.settled k'

-- a step settles all of the main revision's own updates, or none besides the n that were
abbrev pub Settles : ℕ → Cells → Type 0
Settles n k = (k.settled ≡ n) ⊎ (k.settled ≡ k.count main)

-- the revisions that are out, right to left
abbrev pub outs : Cells → List ℕ
outs k = take k.out k.layout

-- the numbers that may be used again
abbrev pub freed : Cells → List ℕ
freed k = take (k.given - k.out) k.queue

-- 02, U7: "A fork now takes a never-used number while there is one, else the number handed in longest ago."
abbrev pub next_number : Cells → ℕ
next_number k = cond (ltb k.given revisions) k.given (head_of k.queue)

abbrev pub flagged : Cells → ℕ → ℕ → Bool
flagged k r u = k.used r && k.row r u
