-- The bytes: they stay in range, and their cells follow each accepted step.
use Prim.Native.Nat.{◌<◌, ℕ}
use mathlib.Core.Bool.{Bool, false, true}
use mathlib.Core.Path.{◌≡◌, refl}
use mathlib.Core.Option.{Option, none, some}
use mathlib.Core.List.{List}
use native.Mathlib.Omega.{arith}
use lib.ListN.{length}
use Rattle.lists.specs.Names.{Name}
use Rattle.lists.proofs.Names.{four-long}
use Rattle.diagram.specs.Sizes.{client_limit, revision_limit}
use Rattle.diagram.specs.Day.{Day, number_of}
use Rattle.machine.specs.Machine.{Machine}
use Rattle.diagram.specs.Steps.{Drop, Event, Fork, Join, Step, Yield}
use Rattle.diagram.specs.Accepted.{accepted}
use Rattle.diagram.proofs.Days.Marking.{fit}
use Rattle.diagram.proofs.Days.Moves.{can-drop, can-enter, can-fork, can-join, can-yield}
use Rattle.cells.specs.Sizes.{clients, revisions}
use Rattle.cells.specs.Cells.{Cells, next_number}
use Rattle.cells.specs.Decode.{cells}
use Rattle.cells.specs.Steps.{fresh_bytes}
use Rattle.cells.specs.CellSteps.{fresh_cells}
use Rattle.cells.proofs.Decoded.{close-decoded, drop-decoded, fork-decoded, fresh-decoded, join-decoded, mark-decoded, query-decoded, update-decoded}
use Rattle.cells.proofs.Stays.{Lower, close-stays, drop-stays, fork-stays, fresh_stays, join-stays, mark-stays, query-stays, update-stays}
use Rattle.following.specs.Reached.{by_number, step_bytes, step_cells}
use Rattle.following.proofs.Cells.Kept.{Kept, log_room, low, mark-not-main, next_low, next-some, not_main}

-- bytes in range that keep cells k
pub record Stored (d : List ℕ) (k : Cells) : Type 0 where
  pub lower : Lower d
  pub cells_are : cells d ≡ k

pub fresh-stored : (single : Bool) → Stored (fresh_bytes single) (fresh_cells single)
fresh-stored single = record { lower = fresh_stays single; cells_are = fresh-decoded single }

module _ (y : Day) (m : Machine) (d : List ℕ) (K : Kept y m (cells d)) (L : Lower d) where
  client : (c : ℕ) → c < client_limit → c < clients
  unfolding client_limit
  client c l = l

  -- what a fork needs: its revision has a number of the table, and one more may be out
  module _ (r : ℕ) (name : Option Name) (e : accepted y (Fork r name) ≡ true) where
    from_low : number_of y r < revisions
    from_low = low y m (cells d) K r (can-fork y r name e).out

    room : (cells d).out < revisions
    unfolding revision_limit
    room = omega (arith, K.represents.out_is, (can-fork y r name e).room)

  four : (r : ℕ) (w : Name) → accepted y (Fork r (some w)) ≡ true → length w ≡ 4
  four r w e = four-long w (fit y K.marks r (some w) (can-fork y r (some w) e) w refl).0

  pub step-stored : (s : Step) → accepted y s ≡ true → Stored (step_bytes d (by_number y s)) (step_cells (cells d) (by_number y s))
  unfolding step_bytes step_cells
  step-stored (Event c r true) e =
      let E = can-enter y c r true e in
      let cl = client c E.client_ok in
      let rl = low y m (cells d) K r E.out in
      let room = log_room y m (cells d) K c r e in
      record { lower = update-stays d L c (number_of y r) cl rl room; cells_are = update-decoded d L c (number_of y r) cl rl room }
  step-stored (Event c r false) e =
      let E = can-enter y c r false e in
      let cl = client c E.client_ok in
      let rl = low y m (cells d) K r E.out in
      record { lower = query-stays d L c (number_of y r) cl rl; cells_are = query-decoded d L c (number_of y r) cl rl }
  step-stored (Yield c) e = record { lower = close-stays d L c; cells_are = close-decoded d L c (client c (can-yield y c e)) }
  step-stored (Fork r none) e =
      let q = number_of y r in
      let n = next_number (cells d) in
      let ql = from_low r none e in
      let nl = next_low y m (cells d) K r none e in
      record { lower = fork-stays d L q n ql nl (room r none e); cells_are = fork-decoded d L q n ql nl (next-some y m (cells d) K r none e) }
  step-stored (Fork r (some w)) e =
      let q = number_of y r in
      let n = next_number (cells d) in
      let ql = from_low r (some w) e in
      let nl = next_low y m (cells d) K r (some w) e in
      let pos = next-some y m (cells d) K r (some w) e in
      record { lower = mark-stays d L q n w ql nl (room r (some w) e); cells_are = mark-decoded d L q n w ql nl pos (four r w e) }
  step-stored (Join a b) e =
      let j = can-join y a b e in
      let al = low y m (cells d) K a j.out_a in
      let bl = low y m (cells d) K b j.out_b in
      let pos = not_main y m (cells d) K b j.out_b j.not_main in
      record { lower = join-stays d L (number_of y a) (number_of y b) al bl pos; cells_are = join-decoded d L (number_of y a) (number_of y b) al bl }
  step-stored (Drop r) e =
      let D = can-drop y r e in
      let rl = low y m (cells d) K r D.out in
      let pos = not_main y m (cells d) K r D.out (mark-not-main y m (cells d) K r D) in
      record { lower = drop-stays d L (number_of y r) pos rl; cells_are = drop-decoded d L (number_of y r) rl }
