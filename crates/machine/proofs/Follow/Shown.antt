-- For every run of accepted steps the layout machine follows the day.
use Prim.Native.Nat.{ℕ}
use mathlib.Core.Bool.{true}
use mathlib.Core.Path.{◌∙◌, ◌≡◌, ap, refl, subst, sym}
use mathlib.Core.List
use mathlib.Core.List.{List, Nodup, [], ◌++◌, ◌∷◌}
use Rattle.blocks.specs.Blocks.{Good, blocks}
use Rattle.diagram.proofs.Arranged.Advance.{contents}
use Rattle.diagram.proofs.Days.Moves.{can-drop, can-enter, can-fork, can-join}
use Rattle.diagram.proofs.Days.Real.{Real}
use Rattle.machine.proofs.Follow.Agrees.{Agree, agree_fresh, ordered, terminal-low}
use Rattle.machine.proofs.Follow.Steps.{agree-drop, agree-enter, agree-join, agree-fork, agree-yield}
use Rattle.diagram.proofs.Graph.Events.{own_events}
use Rattle.diagram.proofs.Graph.Visible.{view-numbers}
use Rattle.diagram.proofs.Order.Inherited.{blocks-left, blocks-numbers, good_under, inherited, numbers_nodup, numbers_sub, view-split-own}
use Rattle.diagram.specs.Checks.{stale}
use Rattle.diagram.specs.Day.{Day, IsOut, fresh}
use Rattle.diagram.specs.Diagram.{Diagram}
use Rattle.diagram.specs.Effects.{numbers}
use Rattle.diagram.specs.Views.{view}
use Rattle.machine.specs.Machine.{Follows, Machine, fresh_machine, machine_after, machine_from, shown}
use Rattle.diagram.specs.Steps.{Drop, Event, Fork, Join, Step, Yield, after, run, run_from}
use Rattle.diagram.specs.Accepted.{Accepted, AcceptedFrom, accepted}
use Rattle.lists.proofs.Blocks.{flat_back_same}
use Rattle.lists.proofs.Keep.{keep_sublist}
use Rattle.lists.proofs.Places.{behind_in}
use Rattle.lists.specs.Lists.{◌∈◌, ◌⊑◌, keep}
use Rattle.lists.specs.Arranged.{behind, flat_back, member}

module _ (y : Day) (k : Machine) (A : Agree y k) where
  abbrev d : Diagram
  d = y.diagram

  abbrev R : Real y A.flagged.fine.layout
  R = A.flagged.fine.sound.real

  view_is : (r : ℕ) → IsOut y r → k.inherited r ++ k.own r ≡ view d (y.terminal r)
  view_is r o =
      ap (λ t. t ++ k.own r) (A.same_inherited r o) ∙ ap (λ t. inherited d (y.terminal r) ++ t) (A.same_own r o)
      ∙ sym (view-split-own (ordered y k A) (y.terminal r) (terminal-low y k A r))

  out : (r : ℕ) → r ∈ k.layout → IsOut y r
  out r i = R.back r (rw A.same_layout i)

  -- of the own lists left of r, in their order, what it inherited is all that it inherited
  shown-is : (r : ℕ) → IsOut y r → shown k r ≡ view d (y.terminal r)
  shown-is r o =
      ap (λ t. t ++ k.own r) (ap (λ t. keep (λ u. member u t) left) (A.same_inherited r o) ∙ sym (keep_sublist under once) ∙ sym (A.same_inherited r o)) ∙ view_is r o
    where
      left : List ℕ
      left = flat_back k.own (behind r k.layout)

      own_at : (x : ℕ) → x ∈ behind r k.layout → numbers d (own_events d (y.terminal x)) ≡ k.own x
      own_at x i = sym (view-numbers (ordered y k A) (y.terminal x) (terminal-low y k A x)).0 ∙ sym (A.same_own x (out x (behind_in r k.layout x i)))

      left_is : numbers d (blocks (contents d y.terminal) (behind r k.layout)) ≡ left
      left_is = blocks-numbers d (contents d y.terminal) (behind r k.layout) ∙ flat_back_same (λ x. numbers d (own_events d (y.terminal x))) k.own (behind r k.layout) own_at

      good : Good (contents d y.terminal) k.layout
      good = rw A.same_layout at R.linked.inv.good

      under : inherited d (y.terminal r) ⊑ left
      under = subst (λ t. inherited d (y.terminal r) ⊑ t) left_is (numbers_sub d (good_under (contents d y.terminal) k.layout good r (rw A.same_layout at (R.out r o))))

      once : Nodup left
      once =
          let all : Nodup (blocks (contents d y.terminal) k.layout) = rw A.same_layout at R.linked.inv.once in
          subst Nodup left_is (numbers_nodup d y.updates _ A.numbered (List.Nodup.sublist ∣ blocks-left (contents d y.terminal) k.layout r ∣₁ all))

  pub follows : Follows y k
  unfolding stale
  follows = record {
    same_revisions = A.same_revisions;
    same_joined = A.same_joined;
    same_joinable = A.same_joinable;
    same_caught_up = A.same_caught_up;
    same_open_on = A.same_open_on;
    same_updates = A.same_updates;
    same_own = A.same_own;
    same_view = view_is;
    same_shown = shown-is;
    out = out;
    laid = λ r o. rw A.same_layout at (R.out r o);
  }

-- each step keeps the agreement, and so does every run
pub agree_after : (y : Day) (k : Machine) (s : Step) → accepted y s ≡ true → Agree y k → Agree (after y s) (machine_after k s)
unfolding after machine_after
agree_after y k (Event c r u) e A = agree-enter y k A c r u (can-enter y c r u e)
agree_after y k (Yield c) e A = agree-yield y k A c (y.open_by c) refl
agree_after y k (Fork r name) e A = agree-fork y k A r name (can-fork y r name e)
agree_after y k (Join a b) e A = agree-join y k A a b (can-join y a b e)
agree_after y k (Drop r) e A = agree-drop y k A r (can-drop y r e)

agree_from : (ss : List Step) (y : Day) (k : Machine) → AcceptedFrom y ss → Agree y k → Agree (run_from y ss) (machine_from k ss)
unfolding run_from machine_from
agree_from [] y k P A = A
agree_from (s ∷ ss) y k P A = agree_from ss (after y s) (machine_after k s) P.1 (agree_after y k s P.0 A)

pub follows_run : (ss : List Step) → Accepted ss → Follows (run ss) (machine_from fresh_machine ss)
unfolding run
follows_run ss P = follows (run_from fresh ss) (machine_from fresh_machine ss) (agree_from ss fresh fresh_machine P agree_fresh)
