-- What is carried along a run, and that each accepted step keeps it.
use Prim.Native.Nat.{◌<◌, ℕ}
use mathlib.Core.Bool.{Bool, false, not, true}
use mathlib.Core.Path.{◌∙◌, ◌≡◌, refl, sym}
use mathlib.Core.Option.{Option, none}
use mathlib.Core.List.Memᴰ
use mathlib.Core.List.{List, [], ◌++◌, ◌∷◌}
use native.Mathlib.Omega.{arith}
use lib.Dec.{eqb}
use lib.ListN.{length-replicate}
use borrow.Author.Tests.{eqb-false, eqb-true, lt-ltb, ltb-true, ne_eqb, not-false, not-true}
use Rattle.lists.specs.Lists.{◌∈◌}
use Rattle.lists.specs.Names.{Name}
use Rattle.lists.proofs.Cases.{and-true, cases}
use Rattle.diagram.specs.Sizes.{revision_limit, update_limit}
use Rattle.diagram.specs.Numbering.{next}
use Rattle.diagram.specs.Day.{Day, IsOut, fresh, number_of}
use Rattle.diagram.proofs.Days.Found.{found}
use Rattle.diagram.specs.Checks.{busy_by_other, log_full, marked, open_elsewhere, stale, unknown_client}
use Rattle.machine.specs.Machine.{Machine, fresh_machine, machine_after}
use Rattle.diagram.specs.Steps.{Drop, Event, Fork, Join, Step, Yield, after}
use Rattle.diagram.specs.Accepted.{accepted, none_of, not_given}
use Rattle.diagram.proofs.Days.Dropping as Drops
use Rattle.diagram.proofs.Days.Moves.{CanDrop, CanFork, can-drop, can-enter, can-fork, can-join, step-moves}
use Rattle.diagram.proofs.Days.Marking.{Marks, marks-fresh, marks-moves, none≢name}
use Rattle.diagram.proofs.Days.Sound.{some≢none}
use Rattle.diagram.proofs.Days.Naming.{Named, named-fresh, named-moves, next-apart, next-given}
use Rattle.machine.proofs.Follow.Agrees.{Agree, agree_fresh}
use Rattle.machine.proofs.Follow.Shown.{agree_after, follows}
use Rattle.cells.specs.Sizes.{clients, main, revisions, updates}
use Rattle.cells.specs.Cells.{Cells, chain, next_number}
use Rattle.cells.specs.CellSteps.{fresh_cells}
use Rattle.following.specs.Reached.{by_number, step_cells}
use Rattle.following.proofs.Cells.Dropping.{drops}
use Rattle.following.proofs.Cells.Closed.{settled-after}
use Rattle.following.proofs.Cells.Entering.{queries, updates-on, yields}
use Rattle.following.proofs.Cells.Forking.{forks}
use Rattle.following.proofs.Cells.Joining.{joins}
use Rattle.following.proofs.Cells.Laid.{Laid, apart, laid}
use Rattle.following.proofs.Cells.Represents.{Represents, number_is, out-low}
use Rattle.following.proofs.Cells.Settled.{Settled}

pub record Kept (y : Day) (m : Machine) (k : Cells) : Type 0 where
  pub agree : Agree y m
  pub named : Named y
  pub marks : Marks y
  pub represents : Represents y m k
  pub settled : Settled y k.settled (k.count main)

fresh_represents : (single : Bool) → Represents fresh fresh_machine (fresh_cells single)
unfolding chain found
fresh_represents single = record {
  layout_is = refl;
  places = length-replicate {A = ℕ} revisions 0;
  out_is = refl;
  main_out = Memᴰ.head refl;
  main_number = refl;
  given_is = refl;
  freed_is = refl;
  queue_places = length-replicate {A = ℕ} revisions 1;
  state_is = λ r. cases (eqb r main) (λ e. rw (e, eqb-true r main e)) (λ e. let d = eqb-false r main e in rw (e, ne_eqb main r (λ q. d (sym q))));
  name_is = λ r n e. absurd (none≢name e);
  own_is = λ r i. refl;
  first_is = λ r i f l e. cc;
  inherited_is = λ r i u. refl;
  base_few = λ r i. omega arith;
  main_inherits = refl;
  seen_is = λ a b i j. refl;
  caught_is = λ c r l i. rw (lt-ltb c clients l);
  opened_is = λ c l. rw (lt-ltb c clients l);
  updates_is = refl;
  updates_few = omega arith;
}

pub fresh_kept : (single : Bool) → Kept fresh fresh_machine (fresh_cells single)
fresh_kept single = record { agree = agree_fresh; named = named-fresh; marks = marks-fresh; represents = fresh_represents single; settled = record { idle = λ i. refl; busy = λ c t e on. absurd (some≢none none e refl) } }

-- where no check has found anything, the last has not
last_quiet : (bs : List Bool) (b : Bool) → none_of (bs ++ (b ∷ [])) ≡ true → b ≡ false
last_quiet [] b e = not-true b (and-true (not b) true e).0
last_quiet (x ∷ bs) b e = last_quiet bs b (and-true (not x) (none_of (bs ++ (b ∷ []))) e).1

module _ (y : Day) (m : Machine) (k : Cells) (K : Kept y m k) where
  abbrev A : Agree y m
  A = K.agree

  abbrev h : Represents y m k
  h = K.represents

  abbrev L : Laid y m
  L = laid y m A K.named K.marks

  there : (r : ℕ) → IsOut y r → r ∈ m.layout
  there r o = (follows y m A).laid r o

  -- a revision out has a number of the table, and only the main revision has 0
  pub low : (r : ℕ) → IsOut y r → number_of y r < revisions
  low r o = out-low y m k h L r (there r o)

  pub not_main : (r : ℕ) → IsOut y r → (r ≡ main → ⊥) → 0 < number_of y r
  not_main r o d =
      let e : number_of y r ≡ main → ⊥ = λ q. d (apart y m L r main (there r o) h.main_out (q ∙ sym h.main_number)) in
      omega arith

  -- an update is accepted only if the log has room; a fork gives a number that is not the main revision's
  pub log_room : (c r : ℕ) → accepted y (Event c r true) ≡ true → k.updates < updates
  unfolding accepted log_full update_limit
  log_room c r e =
      let others = unknown_client c ∷ not_given y r ∷ y.joined r ∷ marked y r ∷ open_elsewhere y c r ∷ busy_by_other y c r ∷ stale y c r ∷ [] in
      let room = last_quiet others (log_full y) e in
      rw (h.updates_is, A.same_updates) (ltb-true y.updates updates (not-false _ room))

  module _ (r : ℕ) (name : Option Name) (e : accepted y (Fork r name) ≡ true) where
    abbrev C : CanFork y r name
    C = can-fork y r name e

    pub next_is : next_number k ≡ next y.numbering
    next_is = number_is y m k h L C.room

    pub next_low : next_number k < revisions
    unfolding revision_limit
    next_low = let a = next-given y K.named r name C in let q = next_is in omega arith

    pub next-some : next_number k ≡ 0 → ⊥
    next-some z = next-apart y K.named r name C main (L.out main h.main_out) (h.main_number ∙ sym z ∙ next_is)

  pub mark-not-main : (r : ℕ) → CanDrop y r → r ≡ main → ⊥
  mark-not-main r D = let F = A.flagged.fine in Drops.not_main y F.layout F.hold F.sound r D.is_mark

  represents-after : (s : Step) → accepted y s ≡ true → Laid (after y s) (machine_after m s) → Represents (after y s) (machine_after m s) (step_cells k (by_number y s))
  unfolding step_cells machine_after after
  represents-after (Event c r true) e L' = updates-on y m k h L c r (there r (can-enter y c r true e).out) (log_room c r e)
  represents-after (Event c r false) e L' = queries y m k h L c r (there r (can-enter y c r false e).out)
  represents-after (Yield c) e L' = yields y m k h c (y.open_by c)
  represents-after (Fork r name) e L' = let C = can-fork y r name e in forks y m k h L r (there r C.out) name C
  represents-after (Join a b) e L' = let j = can-join y a b e in joins y m k h L a b (there a j.out_a) (there b j.out_b) j L'
  represents-after (Drop r) e L' = let D = can-drop y r e in drops y m k h L r (there r D.out) D (mark-not-main r D)

  pub kept-after : (s : Step) → accepted y s ≡ true → Kept (after y s) (machine_after m s) (step_cells k (by_number y s))
  kept-after s e =
      let A' = agree_after y m s e A in
      let N' = named-moves y K.named (after y s) (step-moves y s e) in
      let M' = marks-moves y K.marks (after y s) (step-moves y s e) in
      let h' = represents-after s e (laid (after y s) (machine_after m s) A' N' M') in
      record { agree = A'; named = N'; marks = M'; represents = h'; settled = settled-after y m k A L h K.settled s e h' }
