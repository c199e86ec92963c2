-- For every run of accepted steps the cells, and the bytes, reached from fresh agree with the day.
use Prim.Native.Nat.{ℕ}
use mathlib.Core.Bool.{Bool, false, true}
use mathlib.Core.Path.{◌∙◌, ◌≡◌, ap, refl, subst, sym}
use mathlib.Core.Option.{none, some}
use mathlib.Core.List.{List, [], ◌∷◌}
use Rattle.diagram.specs.Day.{Day, fresh}
use Rattle.machine.specs.Machine.{Machine, fresh_machine, machine_after, machine_from}
use Rattle.diagram.specs.Steps.{Drop, Event, Fork, Join, Step, Yield, after, run, run_from}
use Rattle.diagram.specs.Accepted.{Accepted, AcceptedFrom, accepted}
use Rattle.machine.proofs.Follow.Shown.{follows}
use Rattle.cells.specs.Cells.{Cells}
use Rattle.cells.specs.CellSteps.{fresh_cells}
use Rattle.cells.specs.Decode.{cells}
use Rattle.cells.specs.Steps.{fresh_bytes}
use Rattle.following.specs.Follow.{BytesFollowDays, CellsFollow, CellsFollowDays, ChoiceIsKept, StartedIsKept, one_more, started_after}
use Rattle.following.specs.Reached.{by_number, bytes_after, bytes_from, cells_after, cells_from, step_bytes, step_cells}
use Rattle.following.proofs.Cells.Answers.{answers}
use Rattle.following.proofs.Cells.Kept.{Kept, fresh_kept, kept-after}
use Rattle.following.proofs.Cells.Laid.{laid}
use Rattle.following.proofs.Cells.Numbers.{numbers-follow}
use Rattle.following.specs.Numbers.{NumbersFollowDays}
use Rattle.following.proofs.Bytes.Stored.{Stored, fresh-stored, step-stored}

kept_follows : (y : Day) (m : Machine) (k : Cells) → Kept y m k → CellsFollow y k
kept_follows y m k K = answers y m k (follows y m K.agree) (laid y m K.agree K.named K.marks) K.represents

pub kept_from : (ss : List Step) (y : Day) (m : Machine) (k : Cells) → AcceptedFrom y ss → Kept y m k → Kept (run_from y ss) (machine_from m ss) (cells_from y k ss)
unfolding run_from machine_from cells_from
kept_from [] y m k P K = K
kept_from (s ∷ ss) y m k P K = kept_from ss (after y s) (machine_after m s) (step_cells k (by_number y s)) P.1 (kept-after y m k K s P.0)

pub kept_run : (single : Bool) (ss : List Step) → Accepted ss → Kept (run ss) (machine_from fresh_machine ss) (cells_after single ss)
unfolding run cells_after
kept_run single ss P = kept_from ss fresh fresh_machine (fresh_cells single) P (fresh_kept single)

pub cells-follow : CellsFollowDays
cells-follow single ss P = kept_follows (run ss) (machine_from fresh_machine ss) (cells_after single ss) (kept_run single ss P)

-- the bytes keep these cells
stored-after : (y : Day) (m : Machine) (k : Cells) (d : List ℕ) (s : Step) → accepted y s ≡ true → Kept y m k → Stored d k → Stored (step_bytes d (by_number y s)) (step_cells k (by_number y s))
stored-after y m k d s e K S =
    let e' = S.cells_are in
    subst (λ z. Stored (step_bytes d (by_number y s)) (step_cells z (by_number y s))) e' (step-stored y m d (subst (Kept y m) (sym e') K) S.lower s e)

stored_from : (ss : List Step) (y : Day) (m : Machine) (k : Cells) (d : List ℕ) → AcceptedFrom y ss → Kept y m k → Stored d k → Stored (bytes_from y d ss) (cells_from y k ss)
unfolding bytes_from cells_from
stored_from [] y m k d P K S = S
stored_from (s ∷ ss) y m k d P K S = stored_from ss (after y s) (machine_after m s) (step_cells k (by_number y s)) (step_bytes d (by_number y s)) P.1 (kept-after y m k K s P.0) (stored-after y m k d s P.0 K S)

stored-run : (single : Bool) (ss : List Step) → Accepted ss → Stored (bytes_after single ss) (cells_after single ss)
unfolding bytes_after cells_after
stored-run single ss P = stored_from ss fresh fresh_machine (fresh_cells single) (fresh_bytes single) P (fresh_kept single) (fresh-stored single)

pub same_cells : (single : Bool) (ss : List Step) → Accepted ss → cells (bytes_after single ss) ≡ cells_after single ss
same_cells single ss P = (stored-run single ss P).cells_are

pub bytes_follow : BytesFollowDays
bytes_follow single ss P =
    let S = stored-run single ss P in
    let y = run ss in
    let m = machine_from fresh_machine ss in
    let K = subst (Kept y m) (sym S.cells_are) (kept_run single ss P) in
    record { size = S.lower.long; ranged = S.lower.ranged; follow = kept_follows y m (cells (bytes_after single ss)) K }

pub numbers-follow_days : NumbersFollowDays
numbers-follow_days single ss P = numbers-follow (run ss) (cells (bytes_after single ss)) (bytes_follow single ss P).follow

-- no step writes the choice
choice_step : (k : Cells) (s : Step) → (step_cells k s).single ≡ k.single
unfolding step_cells
choice_step k (Event c r true) = refl
choice_step k (Event c r false) = refl
choice_step k (Yield c) = refl
choice_step k (Fork n none) = refl
choice_step k (Fork n (some w)) = refl
choice_step k (Join a b) = refl
choice_step k (Drop n) = refl

choice_from : (ss : List Step) (y : Day) (k : Cells) → (cells_from y k ss).single ≡ k.single
unfolding cells_from
choice_from [] y k = refl
choice_from (s ∷ ss) y k = choice_from ss (after y s) (step_cells k (by_number y s)) ∙ choice_step k (by_number y s)

pub choice_is_kept : ChoiceIsKept
unfolding cells_after
choice_is_kept single ss P = ap (λ k. k.single) (same_cells single ss P) ∙ choice_from ss fresh (fresh_cells single)

-- only a fork that gives no name writes the count of boxes
started_step : (y : Day) (k : Cells) (s : Step) → (step_cells k (by_number y s)).started ≡ one_more k.started s
unfolding step_cells
started_step y k (Event c r true) = refl
started_step y k (Event c r false) = refl
started_step y k (Yield c) = refl
started_step y k (Fork n none) = refl
started_step y k (Fork n (some w)) = refl
started_step y k (Join a b) = refl
started_step y k (Drop n) = refl

started_from : (ss : List Step) (y : Day) (k : Cells) → (cells_from y k ss).started ≡ started_after k.started ss
unfolding cells_from
started_from [] y k = refl
started_from (s ∷ ss) y k = started_from ss (after y s) (step_cells k (by_number y s)) ∙ ap (λ n. started_after n ss) (started_step y k s)

pub started_is_kept : StartedIsKept
unfolding cells_after
started_is_kept single ss P = ap (λ k. k.started) (same_cells single ss P) ∙ started_from ss fresh (fresh_cells single)
