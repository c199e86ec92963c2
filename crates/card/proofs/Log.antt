-- The sum over the four courses: it follows the counts, and what passes 8,192.
use Prim.Native.Nat.{ℕ, zero, suc, ◌+◌, ◌<◌, ◌≤◌}
use mathlib.Core.Bool.{true, false}
use mathlib.Core.Path.{◌≡◌}
use native.Mathlib.Omega.{arith}
use lib.Dec.{ltb}
use borrow.Author.Tests.{le-ltb, ltb-false, ltb-true, lt-ltb}
use Rattle.lists.specs.Lists.{changed}
use Rattle.lists.specs.Sums.{sum_below}
use Rattle.lists.proofs.Cases.{cases}
use Rattle.lists.proofs.Changed.{changed-other, changed_same}
use Rattle.lists.proofs.Sums.{sum-changed, sum_same}
use Rattle.card.specs.Log.{assured, card, courses, larger, logged, passes}

larger_follows : (n m : ℕ) → n ≤ m → larger n ≤ larger m
unfolding larger
larger_follows n m l =
    cases (ltb assured n)
    (λ e. cases (ltb assured m) (λ f. rw (e, f) l) (λ f. let a = ltb-true assured n e in let b = ltb-false assured m f in absurd (omega arith)))
    (λ e. cases (ltb assured m) (λ f. let b = ltb-true assured m f in rw (e, f) (omega arith)) (λ f. rw (e, f) (omega arith)))

-- a count within the assured
pub larger-assured : (n : ℕ) → n ≤ assured → larger n ≡ assured
unfolding larger
larger-assured n l = rw (le-ltb assured n l)

pub at-least : (n : ℕ) → assured ≤ larger n
unfolding larger
at-least n = cases (ltb assured n) (λ e. let a = ltb-true assured n e in rw e (omega arith)) (λ e. rw e (omega arith))

sum_follows : (n : ℕ) (f g : ℕ → ℕ) → ((x : ℕ) → x < n → f x ≤ g x) → sum_below n f ≤ sum_below n g
sum_follows zero f g h = omega arith
sum_follows (suc n) f g h = let a = sum_follows n f g (λ x l. h x (omega arith)) in let b = h n (omega arith) in omega arith

pub logged_follows : (f g : ℕ → ℕ) → ((x : ℕ) → x < courses → f x ≤ g x) → logged f ≤ logged g
unfolding logged
logged_follows f g h = sum_follows courses (λ x. larger (f x)) (λ x. larger (g x)) (λ x l. larger_follows (f x) (g x) (h x l))

-- one course with another count
pub logged-changed : (f : ℕ → ℕ) (i n : ℕ) → i < courses → logged (changed f i n) + larger (f i) ≡ logged f + larger n
unfolding logged
logged-changed f i n l =
    let s = sum-changed courses i (λ x. larger (f x)) (λ x. larger (changed f i n x)) l (λ x k e. rw (changed-other f i n x e)) in
    let z : larger (changed f i n i) ≡ larger n = rw (changed_same f i n) in
    omega arith

pub room-left : (f : ℕ → ℕ) → passes f ≡ false → logged f ≤ card
unfolding passes
room-left f e = ltb-false card (logged f) e

pub passes_over : (f : ℕ → ℕ) → passes f ≡ true → card < logged f
unfolding passes
passes_over f e = ltb-true card (logged f) e

pub over-passes : (f : ℕ → ℕ) → card < logged f → passes f ≡ true
unfolding passes
over-passes f l = lt-ltb card (logged f) l

pub within-passes : (f : ℕ → ℕ) → logged f ≤ card → passes f ≡ false
unfolding passes
within-passes f l = le-ltb card (logged f) l

-- "has 1,024 assured": a count within it never makes the sum pass
pub assured-room : (f : ℕ → ℕ) (i n : ℕ) → i < courses → logged f ≤ card → n ≤ assured → passes (changed f i n) ≡ false
assured-room f i n l s k =
    let e = logged-changed f i n l in
    let a = larger-assured n k in
    let b = at-least (f i) in
    within-passes (changed f i n) (omega arith)

-- four courses without updates
pub logged_none : logged (λ x. 0) ≤ card
unfolding logged larger
logged_none = omega arith

pub logged_same : (f g : ℕ → ℕ) → ((x : ℕ) → x < courses → f x ≡ g x) → logged f ≡ logged g
unfolding logged
logged_same f g h = sum_same courses (λ x. larger (f x)) (λ x. larger (g x)) (λ x l. rw (h x l))

pub passes_same : (f g : ℕ → ℕ) → ((x : ℕ) → x < courses → f x ≡ g x) → passes f ≡ passes g
unfolding passes
passes_same f g h = rw (logged_same f g h)
