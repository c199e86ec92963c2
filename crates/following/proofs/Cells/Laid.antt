-- What the layout machine's lists are on a day: nothing stands twice, and every number is one that was given.
-- Only here is what `diagram` proves of its layout taken apart.
use Prim.Native.Nat.{◌<◌, ◌≤◌, ℕ}
use mathlib.Core.Bool.{false}
use mathlib.Core.Path.{◌∙◌, ◌≡◌, refl, subst, sym}
use mathlib.Core.Option.{Option, none, some}
use native.Mathlib.Omega.{arith}
use mathlib.Core.List.{List, Nodup}
use lib.Dec.{eqb}
use lib.ListN.{length}
use Rattle.lists.specs.Lists.{◌∈◌}
use Rattle.lists.specs.Arranged.{flat_back}
use Rattle.lists.proofs.Blocks.{flat_from, flat_back_nodup, flat_back_same}
use Rattle.lists.proofs.Counts.{few_below}
use Rattle.lists.proofs.Renamed.{named_test}
use Rattle.blocks.specs.Blocks.{blocks}
use Rattle.diagram.specs.Day.{Day, IsOut, number_of}
use Rattle.diagram.specs.Checks.{marked}
use Rattle.diagram.specs.Diagram.{Diagram}
use Rattle.diagram.specs.Effects.{entry, number, numbers}
use Rattle.machine.specs.Machine.{Machine, revision_of}
use Rattle.diagram.proofs.Arranged.Advance.{contents}
use Rattle.diagram.proofs.Days.Naming.{Named, numbers_apart}
use Rattle.diagram.proofs.Days.Marking.{Marks}
use Rattle.diagram.proofs.Days.Real.{Real}
use Rattle.machine.proofs.Follow.Agrees.{Agree, ordered, terminal-low}
use Rattle.diagram.proofs.Graph.Events.{inherited_events, own_events}
use Rattle.diagram.proofs.Graph.Visible.{view-numbers}
use Rattle.diagram.proofs.Order.Inherited.{blocks-numbers, entry_is, numbers_nodup}

-- no revision twice in the layout, no update twice in the own lists; revisions that are out, those of open transactions among them, and updates
-- that were given out
pub record Laid (y : Day) (m : Machine) : Type 0 where
  pub named : Named y
  pub marks : Marks y
  pub main_unmarked : marked y 0 ≡ false
  pub same_revisions : m.revisions ≡ y.revisions
  pub lone : Nodup m.layout
  pub once : Nodup (flat_back m.own m.layout)
  pub out : (r : ℕ) → r ∈ m.layout → IsOut y r
  pub open_out : (c r : ℕ) → m.open_on c ≡ some r → r ∈ m.layout
  pub own_low : (r : ℕ) → r ∈ m.layout → (u : ℕ) → u ∈ m.own r → u < m.updates
  pub inherited_low : (r : ℕ) → r ∈ m.layout → (u : ℕ) → u ∈ m.inherited r → u < m.updates

-- so an own list is not longer than the log
pub own_few : (y : Day) (m : Machine) → Laid y m → (r : ℕ) → r ∈ m.layout → length (m.own r) ≤ m.updates
own_few y m L r i = few_below m.updates (m.own r) (flat_back_nodup m.own r m.layout i L.once) (L.own_low r i)

-- and no two revisions of the layout bear one number
module _ (y : Day) (m : Machine) (L : Laid y m) where
  pub apart : (a b : ℕ) → a ∈ m.layout → b ∈ m.layout → number_of y a ≡ number_of y b → a ≡ b
  apart a b i j = numbers_apart y L.named a b (L.out a i) (L.out b j)

  pub same_number : (a b : ℕ) → a ∈ m.layout → b ∈ m.layout → eqb (number_of y a) (number_of y b) ≡ eqb a b
  same_number a b i j = named_test y.numbering.of a b (apart a b i j)

  pub number-low : (r : ℕ) → r ∈ m.layout → number_of y r < y.numbering.given
  number-low r i = L.named.low r (L.out r i).0

module _ (y : Day) (m : Machine) (A : Agree y m) (N : Named y) (M : Marks y) where
  abbrev d : Diagram
  d = y.diagram

  abbrev R : Real y A.flagged.fine.layout
  R = A.flagged.fine.sound.real

  out : (r : ℕ) → r ∈ m.layout → IsOut y r
  out r i = R.back r (rw A.same_layout i)

  low : (l : List ℕ) (u : ℕ) → u ∈ numbers d l → u < m.updates
  low l u i = let p = flat_from (λ e. entry (number d e)) u l i in rw A.same_updates (A.numbered.low p.0 u (entry_is (number d p.0) u p.2))

  own-numbers : (r : ℕ) → r ∈ m.layout → m.own r ≡ numbers d (own_events d (y.terminal r))
  own-numbers r i = A.same_own r (out r i) ∙ (view-numbers (ordered y m A) (y.terminal r) (terminal-low y m A r)).0

  all-is : numbers d (blocks (contents d y.terminal) m.layout) ≡ flat_back m.own m.layout
  all-is =
      blocks-numbers d (contents d y.terminal) m.layout
      ∙ flat_back_same (λ r. numbers d (own_events d (y.terminal r))) m.own m.layout (λ r i. sym (own-numbers r i))

  -- an open transaction is on a revision that is out
  open_out : (c r : ℕ) → m.open_on c ≡ some r → r ∈ m.layout
  open_out c r e = by (y.open_by c) refl (sym (A.same_open_on c) ∙ e)
    where
      by : (q : Option ℕ) → y.open_by c ≡ q → revision_of y.transaction q ≡ some r → r ∈ m.layout
      by none p f = let z : ◌≡◌ {A = ℕ} 0 1 = cc in absurd (omega arith)
      by (some t) p f =
          let z : (y.transaction t).revision ≡ r = cc in
          subst (λ x. x ∈ m.layout) z (rw A.same_layout at (R.out (y.transaction t).revision (A.flagged.fine.sound.runs c t p).out))

  pub laid : Laid y m
  laid =
      let once : Nodup (blocks (contents d y.terminal) m.layout) = rw A.same_layout at R.linked.inv.once in
      record {
        named = N;
        marks = M;
        main_unmarked = A.flagged.fine.sound.marks.main;
        same_revisions = A.same_revisions;
        lone = rw A.same_layout at R.linked.inv.distinct;
        once = subst Nodup all-is (numbers_nodup d y.updates _ A.numbered once);
        out = out;
        open_out = open_out;
        own_low = λ r i u j. low (own_events d (y.terminal r)) u (rw (own-numbers r i) at j);
        inherited_low = λ r i u j. low (inherited_events d (y.terminal r)) u (rw (A.same_inherited r (out r i)) at j);
      }
