-- The settled list grows only at its end, by what a step brings.
use Prim.Native.Nat.{◌≤◌, ℕ}
use mathlib.Core.Bool.{false, true}
use mathlib.Core.Path.{◌∙◌, ◌≡◌, ap, refl, sym}
use mathlib.Core.Logic.{inl}
use mathlib.Core.Option.{none, some}
use mathlib.Core.List.{List, [], ◌++◌, ◌∷◌, append_assoc, append-nil}
use native.Mathlib.Omega.{arith}
use lib.ListN.{drop, length, length-append, take, take-append-drop}
use lib.Seq.{drop_at, length-take-le, take-append-le, take-take}
use Rattle.lists.proofs.Cases.{either}
use Rattle.diagram.specs.Accepted.{AcceptedFrom, accepted}
use Rattle.diagram.specs.Day.{Day, number_of}
use Rattle.diagram.specs.Steps.{Drop, Event, Fork, Join, Step, Yield, after}
use Rattle.diagram.proofs.Days.Moves.{step-moves}
use Rattle.diagram.proofs.Order.Growth.{extends}
use Rattle.machine.specs.Machine.{Machine, machine_after}
use Rattle.cells.specs.Sizes.{main}
use Rattle.cells.specs.Cells as Cells
use Rattle.cells.specs.Cells.{Cells, Settles, brought, settled_own}
use Rattle.cells.proofs.Chain.{chain_length}
use Rattle.cells.proofs.Settled.{close-settles, join-settles}
use Rattle.following.specs.Reached.{by_number, cells_from, step_cells}
use Rattle.following.proofs.Cells.Closed.{listed, settled-few}
use Rattle.following.proofs.Cells.Kept.{Kept, kept-after}
use Rattle.following.proofs.Cells.Laid.{laid}

-- the first n of a list that has grown at its end
front : (v more : List ℕ) (n n' : ℕ) → n ≤ n' → n ≤ length v → take n (take n' (v ++ more)) ≡ take n v
front v more n n' l few = take-take n n' (v ++ more) l ∙ take-append-le n v more few

-- one list goes on where the other ends
abbrev pub GoesOn : List ℕ → List ℕ → Type 0
GoesOn a b = (more : List ℕ) × (b ≡ a ++ more)

module _ (y : Day) (m : Machine) (k : Cells) (K : Kept y m k) where
  few : k.settled ≤ k.count main
  few = settled-few y m k K.agree (laid y m K.agree K.named K.marks) K.represents K.settled

  size : length (settled_own k) ≡ k.settled
  size = length-take-le k.settled (Cells.own k main) (let l = chain_length k.link (k.last main) (k.count main) in let f = few in omega arith)

  -- so what comes behind it is what was brought
  pub goes_on : (k' : Cells) → GoesOn (settled_own k) (settled_own k') → settled_own k' ≡ settled_own k ++ brought k k'
  goes_on k' (more, e) = e ∙ ap (λ l. settled_own k ++ l) (sym (ap (drop k.settled) e ∙ drop_at (settled_own k) more k.settled size))

  settles : (s : Step) → accepted y s ≡ true → Settles k.settled (step_cells k (by_number y s))
  unfolding step_cells
  settles (Event c r true) e = inl refl
  settles (Event c r false) e = inl refl
  settles (Yield c) e = close-settles k c
  settles (Fork r none) e = inl refl
  settles (Fork r (some w)) e = inl refl
  settles (Join a b) e = join-settles k (number_of y a) (number_of y b)
  settles (Drop r) e = inl refl

  step-on : (s : Step) → accepted y s ≡ true → GoesOn (settled_own k) (settled_own (step_cells k (by_number y s)))
  step-on s e =
      let k' = step_cells k (by_number y s) in
      let K' = kept-after y m k K s e in
      let L = laid y m K.agree K.named K.marks in
      let L' = laid (after y s) (machine_after m s) K'.agree K'.named K'.marks in
      let was = listed y m k K.agree L K.represents K.settled in
      let is = listed (after y s) (machine_after m s) k' K'.agree L' K'.represents K'.settled in
      let g = extends y (after y s) K.agree.flagged.fine (step-moves y s e) main (L.out main K.represents.main_out) (L'.out main K'.represents.main_out) in
      let whole : Cells.own k' main ≡ Cells.own k main ++ g.0 = is ∙ g.1 ∙ ap (λ v. v ++ g.0) (sym was) in
      let c = chain_length k.link (k.last main) (k.count main) in
      let c' = chain_length k'.link (k'.last main) (k'.count main) in
      let f = few in
      let longer = ap length whole ∙ length-append (Cells.own k main) g.0 in
      let more : k.settled ≤ k'.settled = either (settles s e) (λ q. omega arith) (λ q. omega arith) in (
        drop k.settled (settled_own k'),
        sym (take-append-drop k.settled (settled_own k'))
            ∙ ap (λ l. l ++ drop k.settled (settled_own k')) (ap (λ v. take k.settled (take k'.settled v)) whole ∙ front (Cells.own k main) g.0 k.settled k'.settled more (omega arith)),
      )

-- through every run of accepted steps
on_trans : (a b c : List ℕ) → GoesOn a b → GoesOn b c → GoesOn a c
on_trans a b c (m, e) (n, f) = (m ++ n, f ∙ ap (λ l. l ++ n) e ∙ append_assoc a m n)

pub run_on : (ss : List Step) (y : Day) (m : Machine) (k : Cells) → AcceptedFrom y ss → Kept y m k → GoesOn (settled_own k) (settled_own (cells_from y k ss))
unfolding cells_from
run_on [] y m k P K = ([], sym (append-nil (settled_own k)))
run_on (s ∷ ss) y m k P K =
    on_trans (settled_own k) _ _ (step-on y m k K s P.0) (run_on ss (after y s) (machine_after m s) (step_cells k (by_number y s)) P.1 (kept-after y m k K s P.0))
