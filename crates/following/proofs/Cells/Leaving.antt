-- A revision leaves, handed in or dropped: it stands in the layout no more, and its number is the last of the queue.
use Prim.Native.Nat.{◌-◌, ◌<◌, suc, ℕ}
use mathlib.Core.Bool.{true}
use mathlib.Core.Path.{◌∙◌, ◌≡◌, ap, refl, sym}
use mathlib.Core.Option.{Option, none, some}
use mathlib.Core.List.{[], ◌++◌, ◌∷◌}
use native.Mathlib.Omega.{arith}
use lib.Dec.{eqb}
use lib.ListN.{length, length-set}
use lib.Seq.{length-take-le}
use borrow.Author.Tests.{eq-eqb, eqb-false, eqb-true, ne_eqb}
use Rattle.lists.specs.Lists.{◌∈◌, changed, mapped}
use Rattle.lists.specs.Arranged.{remove}
use Rattle.lists.specs.Names.{Name}
use Rattle.lists.proofs.Cases.{cases}
use Rattle.lists.proofs.Places.{remove-keep}
use Rattle.lists.proofs.Renamed.{mapped_in, mapped-remove}
use Rattle.diagram.specs.Day.{Day, number_of, out_count}
use Rattle.diagram.proofs.Days.Found.{found}
use Rattle.diagram.proofs.Days.Naming.{meant-number}
use Rattle.machine.specs.Machine.{Machine}
use Rattle.cells.specs.Sizes.{main, revisions}
use Rattle.cells.specs.Cells.{Cells, freed, outs}
use Rattle.cells.specs.CellSteps.{drop_cells}
use Rattle.cells.proofs.Places.{drop-freed, drop-outs, remove-length, two_out}
use Rattle.cells.proofs.Stops.{fewer_is}
use Rattle.following.proofs.Cells.Laid.{Laid, apart}
use Rattle.following.proofs.Cells.Represents.{Represents, all-given, given-few, state_cell}

module _ (y : Day) (m : Machine) (k : Cells) (h : Represents y m k) (L : Laid y m) (b : ℕ) (j : b ∈ m.layout) (other : b ≡ main → ⊥) where
  abbrev nb : ℕ
  nb = number_of y b

  abbrev k' : Cells
  k' = drop_cells k nb

  listed : (x : ℕ) → x ∈ m.layout → number_of y x ∈ outs k
  listed x o = rw h.layout_is (mapped_in (number_of y) m.layout x o)

  -- the main revision is out too, so that the count does not stop
  two : 1 < k.out
  two = two_out k (number_of y main) nb (listed main h.main_out) (listed b j) (λ e. other (sym (apart y m L main b h.main_out j e)))

  pub leave-layout : outs k' ≡ mapped (number_of y) (remove b m.layout)
  leave-layout =
      let o = all-given y m k h L in
      let g = given-few y m k h L in
      drop-outs k nb h.places two (omega arith) (listed b j) ∙ ap (remove nb) h.layout_is
      ∙ sym (mapped-remove (number_of y) b m.layout (λ x o. apart y m L x b o j))

  pub leave-places : length k'.layout ≡ revisions
  leave-places = let p = h.places in let q = remove-length nb k.layout in length-take-le revisions (remove nb k.layout ++ (0 ∷ [])) (omega arith)

  pub leave-out : (n : ℕ) → suc n ≡ out_count y → k'.out ≡ n
  leave-out n e = let o = h.out_is in fewer_is k.out two ∙ omega arith

  pub leave-main : main ∈ remove b m.layout
  leave-main = remove-keep b main m.layout (λ e. other (sym e)) h.main_out

  pub leave-freed : freed k' ≡ y.numbering.freed ++ (nb ∷ [])
  leave-freed = drop-freed k nb h.queue_places two (all-given y m k h L) (given-few y m k h L) ∙ ap (λ l. l ++ (nb ∷ [])) h.freed_is

  pub leave-queue : length k'.queue ≡ revisions
  leave-queue = length-set k.queue (k.given - k.out) nb ∙ h.queue_places

  -- a number that means another revision than b keeps its state
  module _ (mark : ℕ → Option Name) (kept : (r : ℕ) → (r ≡ b → ⊥) → mark r ≡ y.mark r) where
    other-state : (q : Option ℕ) → (q ≡ some b → ⊥) → state_cell y.joined y.mark q ≡ state_cell (changed y.joined b true) mark q
    other-state none d = refl
    other-state (some r) d = let n : r ≡ b → ⊥ = λ e. d (ap some e) in rw (ne_eqb r b n, kept r n)

    pub leave-state : (n : ℕ) → k'.state n ≡ state_cell (changed y.joined b true) mark (found y n)
    leave-state n =
        cases (eqb n nb)
        (λ e. rw (e, eqb-true n nb e, L.named.means b (L.out b j), eq-eqb b b refl))
        (λ e. rw e (h.state_is n ∙ other-state (found y n) (λ q. eqb-false n nb e (sym (meant-number y n b q)))))
