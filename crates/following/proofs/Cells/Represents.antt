-- What the cells keep of the layout machine: a revision's cells stand under the number that it bears.
use Prim.Native.Nat.{◌≤◌, ◌<◌, ℕ}
use mathlib.Core.Bool.{Bool, ◌||◌, cond}
use mathlib.Core.Path.{◌∙◌, ◌≡◌, ap, sym}
use mathlib.Core.Option.{Option, none, some}
use mathlib.Core.List.{List, [], ◌∷◌}
use native.Mathlib.Omega.{arith}
use lib.Dec.{ltb}
use lib.ListN.{length, take}
use borrow.Author.Tests.{ltb-false}
use Rattle.lists.specs.Lists.{◌∈◌, head_of, mapped}
use Rattle.lists.specs.Arranged.{member}
use Rattle.lists.proofs.Cases.{cases}
use Rattle.lists.specs.Names.{Name}
use Rattle.diagram.specs.Sizes.{revision_limit}
use Rattle.diagram.specs.Checks.{is_some}
use Rattle.diagram.specs.Numbering.{next}
use Rattle.diagram.specs.Day.{Day, number_of, out_count}
use Rattle.diagram.proofs.Days.Found.{found}
use Rattle.machine.specs.Machine.{Machine}
use Rattle.cells.specs.Sizes.{clients, closed, main, revisions, state_joined, state_marked, state_never, state_out, updates}
use Rattle.cells.specs.Cells.{Cells, freed, flagged, next_number, outs, own}
use Rattle.cells.proofs.Chain.{chain_length}
use Rattle.cells.proofs.Places.{first_freed}
use Rattle.following.proofs.Cells.Laid.{Laid, number-low}

-- the cell for an open transaction, and for the state of a number
abbrev pub open_cell : (ℕ → ℕ) → Option ℕ → ℕ
open_cell of none = closed
open_cell of (some r) = of r

abbrev pub state_cell : (ℕ → Bool) → (ℕ → Option Name) → Option ℕ → ℕ
state_cell joined mark none = state_never
state_cell joined mark (some r) = cond (joined r) state_joined (cond (is_some (mark r)) state_marked state_out)

pub record Represents (y : Day) (m : Machine) (k : Cells) : Type 0 where
  -- who is out, and where
  pub layout_is : outs k ≡ mapped (number_of y) m.layout
  pub places : length k.layout ≡ revisions
  pub out_is : k.out ≡ out_count y
  pub main_out : main ∈ m.layout
  pub main_number : number_of y main ≡ main
  -- numbers given out, and those handed in or dropped; states, and the names of marks
  pub given_is : k.given ≡ y.numbering.given
  pub freed_is : freed k ≡ y.numbering.freed
  pub queue_places : length k.queue ≡ revisions
  pub state_is : (n : ℕ) → k.state n ≡ state_cell y.joined y.mark (found y n)
  pub name_is : (r : ℕ) (n : Name) → y.mark r ≡ some n → k.name (number_of y r) ≡ n
  -- the own lists, by their links; what was inherited, by base count and row
  pub own_is : (r : ℕ) → r ∈ m.layout → own k (number_of y r) ≡ m.own r
  pub first_is : (r : ℕ) → r ∈ m.layout → (f : ℕ) (l : List ℕ) → m.own r ≡ f ∷ l → k.first (number_of y r) ≡ f
  pub inherited_is : (r : ℕ) → r ∈ m.layout → (u : ℕ) → member u (m.inherited r) ≡ (member u (take (k.base (number_of y r)) (m.own main)) || flagged k (number_of y r) u)
  pub base_few : (r : ℕ) → r ∈ m.layout → k.base (number_of y r) ≤ length (m.own main)
  pub main_inherits : m.inherited main ≡ []
  -- flags and transactions
  pub seen_is : (a b : ℕ) → a ∈ m.layout → b ∈ m.layout → k.seen (number_of y a) (number_of y b) ≡ m.joinable a b
  pub caught_is : (c r : ℕ) → c < clients → r ∈ m.layout → k.caught c (number_of y r) ≡ m.caught_up c r
  pub opened_is : (c : ℕ) → c < clients → k.opened c ≡ open_cell (number_of y) (m.open_on c)
  -- the log
  pub updates_is : k.updates ≡ m.updates
  pub updates_few : k.updates ≤ updates

module _ (y : Day) (m : Machine) (k : Cells) (h : Represents y m k) where
  pub count-is : (r : ℕ) → r ∈ m.layout → k.count (number_of y r) ≡ length (m.own r)
  count-is r i = sym (chain_length k.link (k.last (number_of y r)) (k.count (number_of y r))) ∙ ap length (h.own_is r i)

  pub count-main : k.count main ≡ length (m.own main)
  count-main = ap k.count (sym h.main_number) ∙ count-is main h.main_out

  pub own-main : own k main ≡ m.own main
  own-main = ap (own k) (sym h.main_number) ∙ h.own_is main h.main_out

  module _ (L : Laid y m) where
    pub given-few : k.given ≤ revisions
    unfolding revision_limit
    given-few = let a = L.named.few in let b = h.given_is in omega arith

    -- as many are out and handed in as were given
    pub all-given : k.out ≤ k.given
    all-given = let a = L.named.counted in let b = h.given_is in let c = h.out_is in omega arith

    pub out-low : (r : ℕ) → r ∈ m.layout → number_of y r < revisions
    out-low r i = let a = number-low y m L r i in let b = h.given_is in let c = given-few in omega arith

    -- the cells have the day's next number, while there is one
    pub number_is : out_count y < revision_limit → next_number k ≡ next y.numbering
    unfolding revision_limit
    number_is room =
        let g = h.given_is in
        let o = h.out_is in
        rw g
        (cases (ltb y.numbering.given revisions)
        (λ e. rw e)
        (λ e. let l = ltb-false y.numbering.given revisions e in rw e (sym (first_freed k (omega arith)) ∙ ap head_of h.freed_is)))
