-- The examples of specs/Examples.antt, each by computing it.
use Prim.Native.Nat.{ℕ}
use mathlib.Core.Bool.{true, false}
use mathlib.Core.Path.{◌≡◌, refl}
use mathlib.Core.Option.{none, some}
use mathlib.Core.List.Memᴰ
use mathlib.Core.List.{List, [], ◌++◌, ◌∷◌}
use lib.ListN.{replicate}
use Rattle.lists.specs.Names.{four_letters}
use Rattle.lists.specs.Sums.{any_below}
use Rattle.diagram.specs.Sizes.{revision_limit, client_limit, update_limit}
use Rattle.diagram.proofs.Graph.Paths.{leads_path}
use Rattle.diagram.specs.Diagram.{event, fork, join, newest, root, start}
use Rattle.diagram.specs.Leads.{leads}
use Rattle.diagram.specs.Pool.{pool, pool_from}
use Rattle.diagram.specs.Construction.{Constructed, entered, forked, joined}
use Rattle.diagram.specs.Effects.{tabulate, start_vertex, fork_vertex}
use Rattle.diagram.specs.Views.{view}
use Rattle.diagram.specs.Day.{Day, fresh, is_named, mark_named}
use Rattle.diagram.specs.Checks.{unknown_client, marked, open_elsewhere, busy_by_other, busy, stale, log_full, none_left, not_joinable, bad_name}
use Rattle.diagram.specs.Steps.{Step, after, run, run_from, Event, Yield, Fork, Join, Drop}
use Rattle.diagram.specs.Accepted.{accepted}
use Rattle.diagram.specs.Reuse.{hand_ins, waiting}
use Rattle.diagram.specs.Examples.{abcd, wxyz, tried_all, answers, e1, examples, expected, computed, e1_list, before_join, child_joins_parent, with_counts}

examples_hold : computed examples ≡ expected examples
unfolding accepted after leads tabulate unknown_client open_elsewhere busy_by_other busy any_below stale log_full none_left not_joinable marked bad_name is_named four_letters revision_limit client_limit update_limit
examples_hold = refl

e1-list : view (tried_all fresh e1).diagram ((tried_all fresh e1).terminal 0) ≡ e1_list
unfolding accepted after leads tabulate unknown_client open_elsewhere busy_by_other busy any_below stale log_full none_left not_joinable marked bad_name is_named four_letters revision_limit client_limit update_limit
e1-list = refl

-- steps that one check alone refuses: 2 and 3; 7 of the joiner, then of the joinee, two clients being at work; 4 of the joinee, then of
-- the joiner; 7 by the last client
checks-alone :
    answers fresh (Event 16 0 true ∷ Event 0 1 true ∷ [])
    ∷ answers fresh (Fork 0 none ∷ Event 0 0 true ∷ Join 0 1 ∷ Event 1 1 true ∷ Yield 0 ∷ Join 0 1 ∷ Yield 1 ∷ Join 0 1 ∷ [])
    ∷ answers fresh (Fork 0 none ∷ Fork 0 none ∷ Join 0 1 ∷ Join 2 1 ∷ [])
    ∷ answers fresh (Fork 0 none ∷ Fork 0 none ∷ Join 0 2 ∷ Join 2 1 ∷ Join 0 1 ∷ [])
    ∷ answers fresh (Event 15 0 true ∷ Event 1 0 true ∷ Fork 0 none ∷ [])
    ∷ []
    ≡ (false ∷ false ∷ [])
    ∷ (true ∷ true ∷ false ∷ true ∷ true ∷ false ∷ true ∷ true ∷ [])
    ∷ (true ∷ true ∷ true ∷ false ∷ [])
    ∷ (true ∷ true ∷ true ∷ false ∷ true ∷ [])
    ∷ (true ∷ false ∷ false ∷ [])
    ∷ []
unfolding accepted after leads tabulate unknown_client open_elsewhere busy_by_other busy any_below stale log_full none_left not_joinable marked bad_name is_named four_letters revision_limit client_limit update_limit
checks-alone = refl

-- a short day whole: client 3's transaction of two events, a fork, client 1's transaction on it, and the join
short_day : Day
short_day = tried_all fresh (Event 3 0 true ∷ Event 3 0 false ∷ Yield 3 ∷ Fork 0 none ∷ Event 1 1 true ∷ Yield 1 ∷ Join 0 1 ∷ [])

short_diagram : short_day.diagram ≡ join 3 5 ∷ event 4 1 (some 1) ∷ start 3 ∷ fork 2 ∷ event 1 3 none ∷ event 0 3 (some 0) ∷ root ∷ []
unfolding short_day accepted after leads tabulate unknown_client open_elsewhere busy_by_other busy any_below stale log_full none_left not_joinable marked bad_name is_named four_letters revision_limit client_limit update_limit
short_diagram = refl

short_transactions :
    (short_day.transactions ≡ 2)
    × (short_day.transaction 0 ≡ record { client = 3; revision = 0; events = 1 ∷ 2 ∷ []; closed = some 3 })
    × (short_day.transaction 1 ≡ record { client = 1; revision = 1; events = 5 ∷ []; closed = some 6 })
unfolding short_day accepted after leads tabulate unknown_client open_elsewhere busy_by_other busy any_below stale log_full none_left not_joinable marked bad_name is_named four_letters revision_limit client_limit update_limit
short_transactions = (refl, refl, refl)

-- the code of E4's first join is 11 and not 7, that of its second is 7
e4-first : (busy fresh 0 ≡ false) × (not_joinable fresh 0 0 ≡ true)
unfolding leads busy any_below not_joinable client_limit
e4-first = (refl, refl)

e4-second : busy (after fresh (Event 3 0 false)) 0 ≡ true
unfolding after busy any_below client_limit
e4-second = refl

-- 02, U9: a mark is dropped: no vertex is added, its number waits behind that of the revision handed in before, and its name is free
dropped_day : Day
dropped_day = tried_all fresh (Fork 0 none ∷ Fork 0 (some abcd) ∷ Fork 0 (some wxyz) ∷ Join 0 1 ∷ Drop 2 ∷ [])

dropped_mark :
    (dropped_day.diagram ≡ join 5 2 ∷ start 5 ∷ fork 3 ∷ start 3 ∷ fork 1 ∷ start 1 ∷ fork 0 ∷ root ∷ [])
    × (dropped_day.numbering.freed ≡ 1 ∷ 2 ∷ []) × (is_named dropped_day abcd ≡ false) × (is_named dropped_day wxyz ≡ true) × (mark_named dropped_day wxyz ≡ 3)
unfolding dropped_day accepted after leads tabulate unknown_client open_elsewhere busy_by_other busy any_below stale log_full none_left not_joinable marked bad_name is_named mark_named four_letters revision_limit client_limit update_limit
dropped_mark = (refl, refl, refl, refl, refl)

-- 9: the 4,096th update is taken, no further one; queries go on
log_room : (accepted (with_counts 4095 1) (Event 0 0 true) ≡ true) × (accepted (with_counts 4096 1) (Event 0 0 true) ≡ false) × (accepted (with_counts 4096 1) (Event 0 0 false) ≡ true)
unfolding accepted leads tabulate unknown_client open_elsewhere busy_by_other any_below stale log_full marked client_limit update_limit
log_room = (refl, refl, refl)

-- 10: the 64th revision is started, no further one
numbers-left : (accepted (with_counts 0 63) (Fork 0 none) ≡ true) × (accepted (with_counts 0 64) (Fork 0 none) ≡ false)
unfolding accepted busy any_below none_left client_limit revision_limit
numbers-left = (refl, refl)

-- 02, U7: all 64 numbers are used, then 5 is handed in and then 3; a fork takes 5, the next one 3, and then none waits. A drop is one of the hand-ins
abbrev sent_all : List Step
sent_all = replicate 63 (Fork 0 none)

waiting-now :
    (hand_ins (Fork 0 none ∷ Fork 0 none ∷ Join 0 2 ∷ Yield 0 ∷ Join 0 1 ∷ []) ≡ 2 ∷ 1 ∷ [])
    × (waiting (Fork 0 none ∷ Fork 0 none ∷ Join 0 2 ∷ Fork 0 none ∷ Join 0 1 ∷ []) ≡ 2 ∷ 1 ∷ [])
    × (waiting (sent_all ++ (Join 0 5 ∷ Join 0 3 ∷ [])) ≡ 5 ∷ 3 ∷ [])
    × (waiting (sent_all ++ (Join 0 5 ∷ Join 0 3 ∷ Fork 0 none ∷ [])) ≡ 3 ∷ [])
    × (waiting (sent_all ++ (Join 0 5 ∷ Join 0 3 ∷ Fork 0 none ∷ Fork 0 none ∷ [])) ≡ [])
    × (waiting (sent_all ++ (Join 0 5 ∷ Join 0 3 ∷ Fork 0 none ∷ Join 0 64 ∷ [])) ≡ 3 ∷ 5 ∷ [])
    × (waiting (Fork 0 none ∷ Fork 0 (some abcd) ∷ Join 0 1 ∷ Drop 2 ∷ []) ≡ 1 ∷ 2 ∷ [])
unfolding run run_from after any_below revision_limit
waiting-now = (refl, refl, refl, refl, refl, refl, refl)

-- the first half of the join rule holds of the child and its parent, the second does not, and the update is there twice
first_half : (fork_vertex before_join 4 ≡ some 1) × (leads before_join 1 5 ≡ true)
unfolding leads tabulate
first_half = (refl, refl)

second-half_fails : leads before_join (start_vertex before_join 4) 5 ≡ true
unfolding leads tabulate
second-half_fails = refl

applied_twice : view child_joins_parent 6 ≡ 0 ∷ 0 ∷ []
unfolding tabulate
applied_twice = refl

-- 002, section 4.3: box 0 sends 1, and 1 sends 2: 0 may join 1 alone, 1 may join 2, and 2 nobody; once 0 has joined 1 it may join 2. A box that is
-- sent later may join whom its sender may, and nobody may join box 0
pools :
    (pool (Fork 0 none ∷ Fork 1 none ∷ []) 0 1 ∷ pool (Fork 0 none ∷ Fork 1 none ∷ []) 0 2
    ∷ pool (Fork 0 none ∷ Fork 1 none ∷ []) 1 2 ∷ pool (Fork 0 none ∷ Fork 1 none ∷ []) 2 1
    ∷ pool (Fork 0 none ∷ Fork 1 none ∷ Join 0 1 ∷ []) 0 2
    ∷ pool (Fork 0 none ∷ Fork 0 none ∷ []) 2 1 ∷ pool (Fork 0 none ∷ Fork 0 none ∷ []) 1 2 ∷ pool (Fork 0 none ∷ []) 1 0 ∷ [])
    ≡ true ∷ false ∷ true ∷ false ∷ true ∷ true ∷ false ∷ false ∷ []
unfolding pool pool_from after
pools = refl

-- 002, Definition 6: what no construction makes. A second event, or a fork, at a vertex that is no terminal
no_second_event : Constructed (event 0 0 none ∷ event 0 0 none ∷ root ∷ []) → ⊥
no_second_event (entered c t client update) = t.no_s 1 (newest refl (Memᴰ.head refl))

no_late_fork : (n : ℕ) → Constructed (start n ∷ fork 0 ∷ event 0 0 none ∷ root ∷ []) → ⊥
no_late_fork n (forked c t) = t.no_s 1 (newest refl (Memᴰ.head refl))

-- a joiner, or a joinee, that is no terminal
no_late_joiner : Constructed (join 1 2 ∷ event 1 0 none ∷ start 1 ∷ fork 0 ∷ root ∷ []) → ⊥
no_late_joiner (joined c t t' j) = t.no_s 3 (newest refl (Memᴰ.head refl))

no_late_joinee : Constructed (join 1 2 ∷ event 2 0 none ∷ start 1 ∷ fork 0 ∷ root ∷ []) → ⊥
no_late_joinee (joined c t t' j) = t'.no_s 3 (newest refl (Memᴰ.head refl))

-- and a child that joins its parent
no_child_joins_parent : Constructed child_joins_parent → ⊥
no_child_joins_parent (joined c t t' j) = j.start_unseen (leads_path before_join (start_vertex before_join 4) 5 second-half_fails)
