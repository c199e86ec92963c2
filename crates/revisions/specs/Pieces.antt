-- No claim rests on this file: it serves the code.
-- The larger steps in pieces, as the code makes them. `cells` has the whole of each.
use Rattle.std.specs.Prelude.{ℕ, suc, cond, [], ◌∷◌, ◌++◌, ltb, replicate, set, take}
use Rattle.lists.specs.Lists.{rest_of}
use Rattle.lists.specs.Arranged.{insert_before}
use Rattle.cells.specs.Sizes.{revisions, clients, closed, main, state_out}
use Rattle.cells.specs.Parts.{Parts, ◌⟨◌≔◌⟩, seen_part, caught_part, state_part, layout_part, queue_part, opened_part, counters_part, signature_part}
use Rattle.cells.specs.Range.{signature}
use Rattle.cells.specs.Flags.{pack}
use Rattle.cells.specs.Decode.{decode}
use Rattle.lists.specs.Pool.{fork_pool}
use Rattle.cells.specs.CellSteps.{fork_caught}

-- a fresh day's parts, but for the caught-up flags
abbrev pub fresh_revisions : Parts → Parts
fresh_revisions p =
    p
    ⟨ state_part ≔ set (replicate revisions 0) main state_out ⟩
    ⟨ layout_part ≔ replicate revisions main ⟩
    ⟨ queue_part ≔ replicate revisions 1 ⟩

abbrev pub fresh_counts : Parts → Parts
fresh_counts p =
    p
    ⟨ opened_part ≔ replicate clients closed ⟩
    ⟨ counters_part ≔ 0 ∷ 0 ∷ 1 ∷ 1 ∷ [] ⟩
    ⟨ signature_part ≔ signature ⟩

-- q's fork c is out: the flags, c's state, the layout, and n revisions out
abbrev pub start_parts : Parts → ℕ → ℕ → ℕ → Parts
start_parts p q c n =
    let k = decode p in
    p
    ⟨ seen_part ≔ pack revisions (fork_pool k.seen q c) ⟩
    ⟨ caught_part ≔ pack clients (fork_caught k.caught q c) ⟩
    ⟨ state_part ≔ set (p state_part) c state_out ⟩
    ⟨ layout_part ≔ take revisions (insert_before q c (p layout_part)) ⟩
    ⟨ counters_part ≔ set (p counters_part) 2 n ⟩

-- a number is given, of which g were: one more, or the first of the queue leaves it
abbrev pub number_parts : Parts → ℕ → Parts
number_parts p g =
    cond (ltb g revisions)
    (p ⟨ counters_part ≔ set (p counters_part) 3 (suc g) ⟩)
    (p ⟨ queue_part ≔ rest_of (p queue_part) ++ (1 ∷ []) ⟩)
