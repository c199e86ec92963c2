-- Laws about the definitions by name: they need no definition's text.
use Rattle.std.proofs.Common.{◌≡◌, ℕ, Bool, true, false, cond, eqb, List, [], ◌∷◌, ◌++◌, refl, ap, ◌∙◌, arith, eqb-true, Result, Ok}
use mathlib.Core.Bool.{false≢true}
use Rattle.updates.specs.Kinds.{kind_number, kind_check}
use Rattle.updates.specs.Effect.{effect}
use Rattle.updates.specs.Applied.{Update, applied}
use Rattle.updates.specs.Absolute.{absolute}
use Rattle.updates.specs.declared.kind.Kind.{Kind}
use Rattle.updates.specs.declared.kind.Kind.TheVariants.{Time, Earliest, Penalty, Strike}
use Rattle.updates.specs.declared.standing.Standing.{Standing}
use Rattle.updates.specs.declared.kind.UnknownKind.{UnknownKind}

-- a kind's own number names it
pub check-number : (k : Kind) → kind_check (kind_number k) ≡ Ok k
unfolding kind_check kind_number
check-number Time = refl
check-number Earliest = refl
check-number Penalty = refl
check-number Strike = refl

-- one test of the check: the kind is the one tested for, or a later one
tested : (n : ℕ) (j k : Kind) (rest : Result Kind UnknownKind) (t : Bool) → eqb n (kind_number j) ≡ t
    → (rest ≡ Ok k → n ≡ kind_number k) → cond t (Ok j) rest ≡ Ok k → n ≡ kind_number k
tested n j k rest true test later e =
    let same : j ≡ k = cc in
    eqb-true n (kind_number j) test ∙ ap kind_number same
tested n j k rest false test later e = later e

-- and no other number does
pub number-check : (n : ℕ) (k : Kind) → kind_check n ≡ Ok k → n ≡ kind_number k
unfolding kind_check kind_number
number-check n k =
    tested n Time k _ (eqb n 1) refl
    (tested n Earliest k _ (eqb n 2) refl
    (tested n Penalty k _ (eqb n 3) refl
    (tested n Strike k _ (eqb n 4) refl (λ e. let z : ◌≡◌ {A = ℕ} 0 1 = cc in absurd (omega arith)))))

-- updates in a row: first the one list, then the other
pub applied-append : (us ws : List Update) (x : Standing) → applied (us ++ ws) x ≡ applied ws (applied us x)
unfolding applied
applied-append [] ws x = refl
applied-append (u ∷ us) ws x = applied-append us ws (effect u.kind u.v x)

-- the effect of an absolute update is the same whatever stood before
whatever_stood : (k : Kind) (v : ℕ) (x y : Standing) → absolute k ≡ true → effect k v x ≡ effect k v y
unfolding absolute effect
whatever_stood Time v x y e = refl
whatever_stood Earliest v x y e = absurd (false≢true e)
whatever_stood Penalty v x y e = absurd (false≢true e)
whatever_stood Strike v x y e = refl

-- the effects before an absolute one do not matter, nor what they began with
pub from_absolute : (us ws : List Update) (u : Update) (x y : Standing) → absolute u.kind ≡ true → applied (us ++ (u ∷ ws)) x ≡ applied (u ∷ ws) y
unfolding applied
from_absolute us ws u x y e = applied-append us (u ∷ ws) x ∙ ap (applied ws) (whatever_stood u.kind u.v (applied us x) y e)
