-- What is carried along a run: the machine has the day's lists and flags, and its layout is that of the diagram.
use Prim.Native.Nat.{◌<◌, ℕ}
use mathlib.Core.Path.{◌∙◌, ◌≡◌, ap, refl, sym}
use mathlib.Core.List.{◌∷◌}
use native.Mathlib.Omega.{arith}
use lib.ListN.{length}
use lib.Dec.{eqb}
use borrow.Author.Tests.{eqb-true}
use Rattle.diagram.proofs.Graph.Events.{inherited_events, inherited_step}
use Rattle.diagram.proofs.Graph.Paths.{Ordered}
use Rattle.machine.proofs.Flags.Joinable.{J, J_rule, Flagged, flagged-fresh}
use Rattle.machine.proofs.Flags.Terminals.{caught}
use Rattle.diagram.proofs.Order.Growth.{fine_fresh}
use Rattle.diagram.proofs.Order.Inherited.{inherited, inherited-along, inherited_older}
use Rattle.diagram.proofs.Order.Numbered.{numbered-fresh}
use Rattle.diagram.specs.Arbitration.{Numbered}
use Rattle.diagram.specs.Day.{Day, IsOut, fresh}
use Rattle.diagram.specs.Diagram.{Diagram, Vertex}
use Rattle.diagram.specs.Effects.{tabulate}
use Rattle.diagram.specs.Views.{own}
use Rattle.machine.specs.Machine.{Machine, fresh_machine, revision_of}
use Rattle.lists.proofs.Cases.{cases}
use Rattle.lists.specs.Lists.{changed}

pub record Agree (y : Day) (k : Machine) : Type 0 where
  pub flagged : Flagged y
  pub numbered : Numbered y.diagram y.updates
  pub same_layout : flagged.fine.layout ≡ k.layout
  pub same_inherited : (r : ℕ) → IsOut y r → k.inherited r ≡ inherited y.diagram (y.terminal r)
  pub same_revisions : k.revisions ≡ y.revisions
  pub same_joined : (r : ℕ) → k.joined r ≡ y.joined r
  pub same_joinable : (a b : ℕ) → IsOut y a → IsOut y b → k.joinable a b ≡ J y a b
  pub same_caught_up : (c r : ℕ) → IsOut y r → k.caught_up c r ≡ caught y c r
  pub same_open_on : (c : ℕ) → k.open_on c ≡ revision_of y.transaction (y.open_by c)
  pub same_updates : k.updates ≡ y.updates
  pub same_own : (r : ℕ) → IsOut y r → k.own r ≡ own y.diagram (y.terminal r)

pub agree_fresh : Agree fresh fresh_machine
unfolding tabulate flagged-fresh fine_fresh
agree_fresh = record {
  flagged = flagged-fresh;
  numbered = numbered-fresh;
  same_layout = refl;
  same_inherited = λ r o. refl;
  same_revisions = refl;
  same_joined = λ r. refl;
  same_joinable = λ a b oa ob. let h : b < 1 = ob.0 in cases (J fresh a b) (λ e. absurd ((J_rule fresh a b e).not_main (omega arith))) (λ e. sym e);
  same_caught_up = λ c r o. refl;
  same_open_on = λ c. refl;
  same_updates = refl;
  same_own = λ r o. refl;
}

module _ (y : Day) (k : Machine) (A : Agree y k) where
  abbrev d : Diagram
  d = y.diagram

  pub terminal-low : (x : ℕ) → y.terminal x < length d
  terminal-low x = A.flagged.fine.sound.real.linked.bound x

  pub ordered : Ordered d
  ordered = A.flagged.fine.sound.real.linked.ordered

  -- a vertex that goes on from r's terminal inherits what r did
  pub inherited-step : (v : Vertex) (r s : ℕ) → inherited_step d (inherited_events d) v ≡ inherited_events d (y.terminal r) → inherited (v ∷ d) (changed y.terminal r (length d) s) ≡ inherited d (y.terminal s)
  inherited-step v r s q =
      cases (eqb s r)
      (λ e. rw e (inherited-along v d ordered (y.terminal r) (terminal-low r) q ∙ ap (λ t. inherited d (y.terminal t)) (sym (eqb-true s r e))))
      (λ e. rw e (inherited_older v d ordered (y.terminal s) (terminal-low s)))
