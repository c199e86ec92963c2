-- A step is accepted exactly where no check applies.
use Prim.Native.Nat.{ℕ}
use mathlib.Core.Bool.{Bool, ◌&&◌, and-false, false, false≢true, not, true}
use mathlib.Core.Option.{Option}
use mathlib.Core.Path.{◌≡◌, refl}
use borrow.Author.Tests.{not-false}
use Rattle.lists.specs.Names.{Name}
use Rattle.diagram.specs.Checks.{busy, busy_by_other, log_full, marked, none_left, not_joinable, open_elsewhere, stale, unknown_client}
use Rattle.diagram.specs.Day.{Day}
use Rattle.diagram.specs.Steps.{Drop, Event, Fork, Join, Yield}
use Rattle.diagram.specs.Accepted.{accepted, misnamed, not_given}

-- a test that is not true
pub ruled_out : (b : Bool) → (b ≡ true → ⊥) → b ≡ false
ruled_out true f = absurd (f refl)
ruled_out false f = refl

module _ (y : Day) where
  pub accept-event : (c r : ℕ) (u : Bool) → unknown_client c ≡ false → not_given y r ≡ false → y.joined r ≡ false → marked y r ≡ false
      → open_elsewhere y c r ≡ false → busy_by_other y c r ≡ false → stale y c r ≡ false → (u && log_full y) ≡ false → accepted y (Event c r u) ≡ true
  unfolding accepted
  accept-event c r u e2 e3 e4 e16 e6 e7 e8 e9 = simp (e2, e3, e4, e16, e6, e7, e8, e9)

  pub accept-yield : (c : ℕ) → unknown_client c ≡ false → accepted y (Yield c) ≡ true
  unfolding accepted
  accept-yield c e2 = simp e2

  pub accept-fork : (r : ℕ) (name : Option Name) → not_given y r ≡ false → y.joined r ≡ false → busy y r ≡ false → none_left y ≡ false
      → misnamed y name ≡ false → accepted y (Fork r name) ≡ true
  unfolding accepted
  accept-fork r name e3 e4 e7 e10 e17 = simp (e3, e4, e7, e10, e17)

  pub accept-join : (a b : ℕ) → not_given y a ≡ false → not_given y b ≡ false → y.joined a ≡ false → y.joined b ≡ false → marked y a ≡ false
      → marked y b ≡ false → busy y a ≡ false → busy y b ≡ false → not_joinable y a b ≡ false → accepted y (Join a b) ≡ true
  unfolding accepted
  accept-join a b a3 b3 a4 b4 a16 b16 a7 b7 e11 = simp (a3, b3, a4, b4, a16, b16, a7, b7, e11)

  pub accept-drop : (r : ℕ) → not_given y r ≡ false → y.joined r ≡ false → marked y r ≡ true → accepted y (Drop r) ≡ true
  unfolding accepted
  accept-drop r e3 e4 e18 = simp (e3, e4, e18)

  -- the other way: a step that is accepted has no test that applies
  pub event-given : (c r : ℕ) (u : Bool) → accepted y (Event c r u) ≡ true → not_given y r ≡ false
  unfolding accepted
  event-given c r u e = ruled_out (not_given y r) (λ q. false≢true (simp (q, and-false) at e))

  pub event-tests : (c r : ℕ) (u : Bool) → accepted y (Event c r u) ≡ true
      → (unknown_client c ≡ false) × (y.joined r ≡ false) × (marked y r ≡ false) × (open_elsewhere y c r ≡ false) × (busy_by_other y c r ≡ false)
      × (stale y c r ≡ false) × ((u && log_full y) ≡ false)
  unfolding accepted
  event-tests c r u e = (
    ruled_out (unknown_client c) (λ q. false≢true (simp q at e)),
    ruled_out (y.joined r) (λ q. false≢true (simp (q, and-false) at e)),
    ruled_out (marked y r) (λ q. false≢true (simp (q, and-false) at e)),
    ruled_out (open_elsewhere y c r) (λ q. false≢true (simp (q, and-false) at e)),
    ruled_out (busy_by_other y c r) (λ q. false≢true (simp (q, and-false) at e)),
    ruled_out (stale y c r) (λ q. false≢true (simp (q, and-false) at e)),
    ruled_out (u && log_full y) (λ q. false≢true (simp (q, and-false) at e)),
  )

  pub yield-test : (c : ℕ) → accepted y (Yield c) ≡ true → unknown_client c ≡ false
  unfolding accepted
  yield-test c e = ruled_out (unknown_client c) (λ q. false≢true (simp q at e))

  pub fork-given : (r : ℕ) (name : Option Name) → accepted y (Fork r name) ≡ true → not_given y r ≡ false
  unfolding accepted
  fork-given r name e = ruled_out (not_given y r) (λ q. false≢true (simp q at e))

  pub fork-tests : (r : ℕ) (name : Option Name) → accepted y (Fork r name) ≡ true
      → (y.joined r ≡ false) × (busy y r ≡ false) × (none_left y ≡ false) × (misnamed y name ≡ false)
  unfolding accepted
  fork-tests r name e = (
    ruled_out (y.joined r) (λ q. false≢true (simp (q, and-false) at e)),
    ruled_out (busy y r) (λ q. false≢true (simp (q, and-false) at e)),
    ruled_out (none_left y) (λ q. false≢true (simp (q, and-false) at e)),
    ruled_out (misnamed y name) (λ q. false≢true (simp (q, and-false) at e)),
  )

  pub join-given : (a b : ℕ) → accepted y (Join a b) ≡ true → (not_given y a ≡ false) × (not_given y b ≡ false)
  unfolding accepted
  join-given a b e = (ruled_out (not_given y a) (λ q. false≢true (simp q at e)), ruled_out (not_given y b) (λ q. false≢true (simp (q, and-false) at e)))

  pub join-tests : (a b : ℕ) → accepted y (Join a b) ≡ true
      → (y.joined a ≡ false) × (y.joined b ≡ false) × (marked y a ≡ false) × (marked y b ≡ false) × (busy y a ≡ false) × (busy y b ≡ false)
      × (not_joinable y a b ≡ false)
  unfolding accepted
  join-tests a b e = (
    ruled_out (y.joined a) (λ q. false≢true (simp (q, and-false) at e)),
    ruled_out (y.joined b) (λ q. false≢true (simp (q, and-false) at e)),
    ruled_out (marked y a) (λ q. false≢true (simp (q, and-false) at e)),
    ruled_out (marked y b) (λ q. false≢true (simp (q, and-false) at e)),
    ruled_out (busy y a) (λ q. false≢true (simp (q, and-false) at e)),
    ruled_out (busy y b) (λ q. false≢true (simp (q, and-false) at e)),
    ruled_out (not_joinable y a b) (λ q. false≢true (simp (q, and-false) at e)),
  )

  pub drop-tests : (r : ℕ) → accepted y (Drop r) ≡ true → (not_given y r ≡ false) × (y.joined r ≡ false) × (marked y r ≡ true)
  unfolding accepted
  drop-tests r e = (
    ruled_out (not_given y r) (λ q. false≢true (simp q at e)),
    ruled_out (y.joined r) (λ q. false≢true (simp (q, and-false) at e)),
    not-false _ (ruled_out (not (marked y r)) (λ q. false≢true (simp (q, and-false) at e))),
  )
