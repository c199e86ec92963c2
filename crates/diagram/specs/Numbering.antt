-- The numbers that revisions bear: 02, U7. Revisions themselves are numbered by creation, without bound; this is what a table calls them.
use Rattle.std.specs.Prelude.{ℕ, suc, cond, List, [], ◌∷◌, ◌++◌, ltb}
use Rattle.lists.specs.Lists.{changed, head_of, rest_of}
use Rattle.diagram.specs.Sizes.{revision_limit}

pub record Numbering : Type 0 where
  -- the number that each revision got at its start
  pub of : ℕ → ℕ
  -- the numbers used so far are those below this
  pub given : ℕ
  -- "the order of hand-ins": the numbers handed in (02, U9: or dropped) and not used again, the longest ago first
  pub freed : List ℕ

-- revision 0 bears 0
abbrev pub fresh_numbering : Numbering
fresh_numbering = record { of = λ r. 0; given = 1; freed = [] }

-- "A fork now takes a never-used number while there is one, else the number handed in longest ago."
abbrev pub next : Numbering → ℕ
next n = cond (ltb n.given revision_limit) n.given (head_of n.freed)

-- revision r starts, and bears that number
abbrev pub started : Numbering → ℕ → Numbering
started n r = record {
  of = changed n.of r (next n);
  given = cond (ltb n.given revision_limit) (suc n.given) n.given;
  freed = cond (ltb n.given revision_limit) n.freed (rest_of n.freed);
}

-- revision r is handed in, or dropped
abbrev pub handed_in : Numbering → ℕ → Numbering
handed_in n r = record { of = n.of; given = n.given; freed = n.freed ++ (n.of r ∷ []) }
