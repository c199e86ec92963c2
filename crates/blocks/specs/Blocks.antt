-- No claim rests on this file: it serves the proofs.
-- A row of blocks, one for each revision in a layout, and what may be done to it: fork one, join one into another.
-- The layout is kept right to left: what stands left of a revision is the rest of the list behind it.
use Rattle.std.specs.Prelude.{ℕ, Bool, true, ◌≡◌, ◌⊎◌}
use mathlib.Core.List.{List, [], ◌∷◌, ◌++◌, Nodup}
use Rattle.lists.specs.Lists.{◌∈◌, ◌⊑◌, changed}
use Rattle.lists.specs.Arranged.{◌⊆◌, flat_back}

-- what a revision began with, and its own block
pub record Content : Type 0 where
  pub inherited : List ℕ
  pub own : List ℕ

abbrev pub Contents : Type 0
Contents = ℕ → Content

abbrev pub seen : Content → List ℕ
seen b = b.inherited ++ b.own

-- all elements in their order: the blocks of the revisions from left to right
abbrev pub blocks : Contents → List ℕ → List ℕ
blocks s l = flat_back (λ x. (s x).own) l

-- of one revision x, with `left` the revisions left of it: what it inherited stands in their blocks in order, and one of
-- them sees all of it
pub record Ok (s : Contents) (left : List ℕ) (x : ℕ) : Type 0 where
  pub under : (s x).inherited ⊑ blocks s left
  pub forked : ((s x).inherited ≡ []) ⊎ ((h : ℕ) × (h ∈ left) × ((s x).inherited ⊆ seen (s h)))

abbrev pub Good : Contents → List ℕ → Type 0
Good s [] = Unit {0}
Good s (x ∷ left) = Ok s left x × Good s left

-- the invariant. J says who may join whom: the joinee stands right of the joiner, which sees all that the joinee inherited
pub record Inv (layout : List ℕ) (s : Contents) (J : ℕ → ℕ → Bool) : Type 0 where
  pub distinct : Nodup layout
  pub once : Nodup (blocks s layout)
  pub good : Good s layout
  pub joins : (a b : ℕ) → a ∈ layout → b ∈ layout → J a b ≡ true → ((b ∷ a ∷ []) ⊑ layout) × ((s b).inherited ⊆ seen (s a))

-- what some revision that is out sees, in order
abbrev pub Held : List ℕ → Contents → List ℕ → Type 0
Held layout s w = (b : ℕ) × (b ∈ layout) × (w ⊑ seen (s b))

-- the steps: more of a revision's own, at the end
abbrev pub grow : Contents → ℕ → List ℕ → Contents
grow s a more = changed s a (record { inherited = (s a).inherited; own = (s a).own ++ more })

-- c is forked from p
abbrev pub fork_contents : Contents → ℕ → ℕ → Contents
fork_contents s p c = changed s c (record { inherited = seen (s p); own = [] })
