-- The numbers that wait to be used again are those of the revisions handed in, in the order of their hand-ins, that no later revision bears.
use Prim.Native.Nat.{◌<◌, ℕ}
use mathlib.Core.Bool.{Bool, ◌&&◌, ◌||◌, false, not, true}
use mathlib.Core.Path.{◌∙◌, ◌≡◌, ap, ap₂, refl, subst, sym}
use mathlib.Core.Option.{Option, none, some}
use mathlib.Core.List.Memᴰ
use mathlib.Core.List.{List, Nodup, [], ◌++◌, ◌∷◌, append_assoc, append-nil, Nodup-cons}
use native.Mathlib.Omega.{arith}
use lib.Dec.{eqb, ltb}
use lib.ListN.{length}
use borrow.Author.Tests.{eq-eqb, eqb-true, lt-ltb, ltb-false, ltb-true, ne_eqb}
use Rattle.lists.specs.Lists.{◌∈◌, keep, mapped}
use Rattle.lists.specs.Sums.{any_below}
use Rattle.lists.specs.Names.{Name}
use Rattle.lists.proofs.Cases.{and-true, cases, either}
use Rattle.lists.proofs.Keep.{keep-++, keep_all, keep_both, keep_in, keep-⊑}
use Rattle.lists.proofs.Renamed.{mapped-++, mapped-keep, mapped_same}
use Rattle.lists.proofs.Sublists.{⊑-⊆}
use Rattle.lists.proofs.Sums.{any_never, any_same}
use Rattle.diagram.specs.Sizes.{revision_limit}
use Rattle.diagram.specs.Numbering.{next}
use Rattle.diagram.specs.Day.{Day, IsOut, number_of}
use Rattle.diagram.specs.Steps.{Drop, Event, Fork, Join, Step, Yield, after, drop_at, fork_at, join_into, run_from, yield}
use Rattle.diagram.specs.Accepted.{AcceptedFrom}
use Rattle.diagram.specs.Reuse.{hand_ins, used_again}
use Rattle.diagram.proofs.Days.Found.{found}
use Rattle.diagram.proofs.Days.Moves.{CanDrop, CanFork, CanJoin, can-drop, can-fork, can-join, step-moves}
use Rattle.diagram.proofs.Days.Naming.{Named, latest_last, named-moves, number_new, number-old}

turned : (a b : Bool) → not (a || b) ≡ (not b && not a)
turned true true = refl
turned true false = refl
turned false true = refl
turned false false = refl

-- a list without its first element
keep_rest : (x : ℕ) (l : List ℕ) → Nodup (x ∷ l) → keep (λ n. not (eqb x n)) (x ∷ l) ≡ l
keep_rest x l d = rw (eq-eqb x x refl) (keep_all (λ n. not (eqb x n)) l (λ n i. rw (ne_eqb x n (λ e. (Nodup-cons.0 d).0 ∣ subst (λ z. z ∈ l) (sym e) i ∣₁))))

pub record Waits (y : Day) (hs : List ℕ) : Type 0 where
  pub started : (r : ℕ) → r ∈ hs → r < y.revisions
  pub are : y.numbering.freed ≡ mapped (number_of y) (keep (λ r. not (used_again y r)) hs)

-- where every number was used, one waits
pub first_waits : (y : Day) → Named y → (r : ℕ) (name : Option Name) → CanFork y r name → ltb y.numbering.given revision_limit ≡ false
    → (x : ℕ) × (l : List ℕ) × (y.numbering.freed ≡ x ∷ l)
first_waits y N r name C e = by y.numbering.freed refl
  where
    by : (l : List ℕ) → y.numbering.freed ≡ l → (x : ℕ) × (m : List ℕ) × (y.numbering.freed ≡ x ∷ m)
    by [] q = let k = N.counted in let g = ltb-false y.numbering.given revision_limit e in let z : length y.numbering.freed ≡ 0 = rw q in let o = C.room in absurd (omega arith)
    by (x ∷ l) q = (x, l, q)

module _ (y : Day) (N : Named y) (hs : List ℕ) (W : Waits y hs) where
  abbrev R : ℕ
  R = y.revisions

  abbrev last : ℕ → Bool
  last r = not (used_again y r)

  -- a revision out is the last that bears its number
  out-last : (b : ℕ) → IsOut y b → used_again y b ≡ false
  unfolding found
  out-last b o =
      any_never R (λ s. ltb b s && eqb (number_of y s) (number_of y b)) (λ s l. cases (ltb b s && eqb (number_of y s) (number_of y b)) (λ e.
      let p = and-true (ltb b s) _ e in
      let k = ltb-true b s p.0 in
      absurd (let m = latest_last y.numbering.of (number_of y b) R s b (N.means b o) l (eqb-true _ _ p.1) in omega arith)) (λ e. e))

  -- b is handed in, by a join or a drop
  module _ (b : ℕ) (o : IsOut y b) where
    in-started : (r : ℕ) → r ∈ (hs ++ (b ∷ [])) → r < R
    in-started r i = either (Memᴰ.append_cases hs i) (W.started r) (λ j. rw (Memᴰ.eq_of_singleton j) o.0)

    in-waits : (y.numbering.freed ++ (number_of y b ∷ [])) ≡ mapped (number_of y) (keep last (hs ++ (b ∷ [])))
    in-waits = rw (W.are, keep-++ last hs (b ∷ []), out-last b o) (sym (mapped-++ (number_of y) (keep last hs) (b ∷ [])))

  waits-join : (a b : ℕ) → CanJoin y a b → Waits (join_into y a b) (hs ++ (b ∷ []))
  waits-join a b H = record { started = in-started b H.out_b; are = in-waits b H.out_b }

  waits-drop : (r : ℕ) → CanDrop y r → Waits (drop_at y r) (hs ++ (r ∷ []))
  waits-drop r D = record { started = in-started r D.out; are = in-waits r D.out }

  module _ (r : ℕ) (name : Option Name) (C : CanFork y r name) where
    abbrev new : ℕ
    new = next y.numbering

    -- a number is used again by the new revision, or as before
    again : (s : ℕ) → s < R → used_again (fork_at y r name) s ≡ (eqb new (number_of y s) || used_again y s)
    unfolding any_below
    again s l =
        let old = number-old y N r name C s l in
        ap₂ ◌||◌
        (ap₂ (λ a b. a && b) (lt-ltb s R l) (ap₂ eqb (number_new y N r name C) old))
        (any_same R (λ t. ltb s t && eqb (number_of (fork_at y r name) t) (number_of (fork_at y r name) s)) (λ t. ltb s t && eqb (number_of y t) (number_of y s))
        (λ t k. ap (λ z. ltb s t && z) (ap₂ eqb (number-old y N r name C t k) old)))

    abbrev now : ℕ → Bool
    now s = not (used_again (fork_at y r name) s)

    -- what waits still, of those handed in
    still : mapped (number_of (fork_at y r name)) (keep now hs) ≡ keep (λ n. not (eqb new n)) y.numbering.freed
    still =
        mapped_same (number_of (fork_at y r name)) (number_of y) (keep now hs) (λ s i. number-old y N r name C s (W.started s (⊑-⊆ (keep-⊑ now hs) s i)))
        ∙ ap (mapped (number_of y)) (keep_in now (λ s. last s && not (eqb new (number_of y s))) hs (λ s i. ap not (again s (W.started s i)) ∙ turned (eqb new (number_of y s)) (used_again y s)) ∙ keep_both last (λ s. not (eqb new (number_of y s))) hs)
        ∙ mapped-keep (number_of y) (λ n. not (eqb new n)) (keep last hs)
        ∙ ap (keep (λ n. not (eqb new n))) (sym W.are)

    -- the number taken was not among them, or was the first
    rest-waits : (fork_at y r name).numbering.freed ≡ keep (λ n. not (eqb new n)) y.numbering.freed
    rest-waits = cases (ltb y.numbering.given revision_limit)
        (λ e. rw e (sym (keep_all (λ n. not (eqb y.numbering.given n)) y.numbering.freed (λ n i. let l = N.freed_low n i in rw (ne_eqb y.numbering.given n (λ q. omega arith))))))
        (λ e. let f = first_waits y N r name C e in rw (e, f.2) (sym (keep_rest f.0 f.1 (rw f.2 at N.freed_once))))

    waits-fork : Waits (fork_at y r name) hs
    waits-fork = record { started = λ s i. let l = W.started s i in omega arith; are = rest-waits ∙ sym still }

-- along a run: its hand-ins follow those so far
pub waits_from : (ss : List Step) (y : Day) → AcceptedFrom y ss → Named y → (hs : List ℕ) → Waits y hs → Waits (run_from y ss) (hs ++ hand_ins ss)
unfolding run_from after
waits_from [] y A N hs W = rw (append-nil hs) W
waits_from (Event c r u ∷ ss) y A N hs W = waits_from ss (after y (Event c r u)) A.1 (named-moves y N _ (step-moves y (Event c r u) A.0)) hs (record { started = W.started; are = W.are })
waits_from (Yield c ∷ ss) y A N hs W = waits_from ss (after y (Yield c)) A.1 (named-moves y N _ (step-moves y (Yield c) A.0)) hs (by (y.open_by c))
  where
    by : (q : Option ℕ) → Waits (yield y c q) hs
    by none = W
    by (some t) = record { started = W.started; are = W.are }
waits_from (Fork r name ∷ ss) y A N hs W =
    waits_from ss (after y (Fork r name)) A.1 (named-moves y N _ (step-moves y (Fork r name) A.0)) hs
    (waits-fork y N hs W r name (can-fork y r name A.0))
waits_from (Join a b ∷ ss) y A N hs W =
    rw (← (append_assoc hs (b ∷ []) (hand_ins ss)))
    (waits_from ss (after y (Join a b)) A.1 (named-moves y N _ (step-moves y (Join a b) A.0)) (hs ++ (b ∷ [])) (waits-join y N hs W a b (can-join y a b A.0)))
waits_from (Drop r ∷ ss) y A N hs W =
    rw (← (append_assoc hs (r ∷ []) (hand_ins ss)))
    (waits_from ss (after y (Drop r)) A.1 (named-moves y N _ (step-moves y (Drop r) A.0)) (hs ++ (r ∷ [])) (waits-drop y N hs W r (can-drop y r A.0)))
