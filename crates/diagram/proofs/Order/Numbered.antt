-- The updates are numbered from 0 as they are taken.
use Prim.Native.Nat.{◌<◌, suc, ℕ}
use mathlib.Core.Bool.{false, true}
use mathlib.Core.Path.{◌∙◌, ◌≡◌, ap, refl, sym}
use mathlib.Core.Logic.{◌⊎◌, inl, inr}
use mathlib.Core.Option.{Option, none, some}
use mathlib.Core.List.{[], ◌∷◌}
use native.Mathlib.Omega.{arith}
use lib.ListN.{length}
use lib.Dec.{eqb, ltb}
use borrow.Author.Tests.{eqb-false, eqb-true, ltb-false, ltb-true}
use Rattle.diagram.proofs.Days.Moves.{Moves, drops_of, enters, forks_at, joins_into, yields}
use Rattle.diagram.proofs.Days.Sound.{some≢none}
use Rattle.diagram.proofs.Graph.Tables.{number_step, tabulate-newest, tabulate-older}
use Rattle.diagram.specs.Arbitration.{IsEvent, Numbered, newest_is, older_is}
use Rattle.diagram.specs.Day.{Day}
use Rattle.diagram.specs.Diagram.{Diagram, Vertex, event, fork, join, root, start}
use Rattle.diagram.specs.Effects.{number, tabulate}
use Rattle.diagram.specs.Steps.{yield}
use Rattle.lists.proofs.Cases.{cases}

pub number_new : (v : Vertex) (d : Diagram) (e : ℕ) → ((e ≡ length d) × (number (v ∷ d) e ≡ number_step d (number d) v)) ⊎ (number (v ∷ d) e ≡ number d e)
unfolding tabulate
number_new v d e = cases (eqb e (length d)) (λ q. inl (eqb-true e (length d) q, rw q)) (λ q. inr (rw q))

-- a vertex without a number
pub numbered_quiet : (v : Vertex) (d : Diagram) (n : ℕ) → number_step d (number d) v ≡ none → Numbered d n → Numbered (v ∷ d) n
numbered_quiet v d n z N = record {
  inside = λ e k q. omega (arith, N.inside e k (old e k q (number_new v d e)));
  low = λ e k q. N.low e k (old e k q (number_new v d e));
  rising = λ e f k m p q. N.rising e f k m (old e k p (number_new v d e)) (old f m q (number_new v d f));
  all = λ k h. let a = N.all k h in (a.0, tabulate-older number_step none v d a.0 (N.inside a.0 k a.1) ∙ a.1);
}
  where
    old : (e k : ℕ) → number (v ∷ d) e ≡ some k → ((e ≡ length d) × (number (v ∷ d) e ≡ number_step d (number d) v)) ⊎ (number (v ∷ d) e ≡ number d e) → number d e ≡ some k
    old e k q (inl a) = absurd (some≢none (number (v ∷ d) e) q (a.1 ∙ z))
    old e k q (inr a) = sym a ∙ q

pub numbered-update : (p c : ℕ) (d : Diagram) (n : ℕ) → Numbered d n → Numbered (event p c (some n) ∷ d) (suc n)
numbered-update p c d n N = record {
  inside = λ e k q. inside' e k q (number_new v d e);
  low = λ e k q. low' e k q (number_new v d e);
  rising = λ e f k m a b. rising' e f k m a b (number_new v d e) (number_new v d f);
  all = all';
}
  where
    v : Vertex
    v = event p c (some n)

    New : ℕ → Type 0
    New e = ((e ≡ length d) × (number (v ∷ d) e ≡ some n)) ⊎ (number (v ∷ d) e ≡ number d e)

    inside' : (e k : ℕ) → number (v ∷ d) e ≡ some k → New e → e < suc (length d)
    inside' e k q (inl a) = omega (arith, a.0)
    inside' e k q (inr a) = omega (arith, N.inside e k (sym a ∙ q))

    is : (e k : ℕ) → number (v ∷ d) e ≡ some k → number (v ∷ d) e ≡ some n → n ≡ k
    is e k q r = let z : n ≡ k = cc in z

    low' : (e k : ℕ) → number (v ∷ d) e ≡ some k → New e → k < suc n
    low' e k q (inl a) = omega (arith, is e k q a.1)
    low' e k q (inr a) = omega (arith, N.low e k (sym a ∙ q))

    rising' : (e f k m : ℕ) → number (v ∷ d) e ≡ some k → number (v ∷ d) f ≡ some m → New e → New f → e < f → k < m
    rising' e f k m p q (inl a) (inl b) l = absurd (omega (arith, a.0, b.0))
    rising' e f k m p q (inl a) (inr b) l = absurd (omega (arith, a.0, N.inside f m (sym b ∙ q)))
    rising' e f k m p q (inr a) (inl b) l = omega (arith, is f m q b.1, N.low e k (sym a ∙ p))
    rising' e f k m p q (inr a) (inr b) l = N.rising e f k m (sym a ∙ p) (sym b ∙ q) l

    all' : (k : ℕ) → k < suc n → (e : ℕ) × (number (v ∷ d) e ≡ some k)
    all' k h =
        cases (eqb k n)
        (λ e. (length d, tabulate-newest number_step none v d ∙ ap (λ i. some i) (sym (eqb-true k n e))))
        (λ e. let z = eqb-false k n e in let a = N.all k (omega arith) in (a.0, tabulate-older number_step none v d a.0 (N.inside a.0 k a.1) ∙ a.1))

pub numbered-fresh : Numbered (root ∷ []) 0
unfolding tabulate
numbered-fresh = record {
  inside = λ e k q. absurd (none_yet e k q);
  low = λ e k q. absurd (none_yet e k q);
  rising = λ e f k m p q l. absurd (none_yet e k p);
  all = λ k h. absurd (omega arith);
}
  where
    by : (e k : ℕ) → number (root ∷ []) e ≡ some k → ((e ≡ 0) × (number (root ∷ []) e ≡ none)) ⊎ (number (root ∷ []) e ≡ number [] e) → ⊥
    by e k q (inl a) = some≢none (number (root ∷ []) e) q a.1
    by e k q (inr a) = some≢none (number (root ∷ []) e) q (a ∙ refl)

    none_yet : (e k : ℕ) → number (root ∷ []) e ≡ some k → ⊥
    none_yet e k q = by e k q (number_new root [] e)

pub numbered_moves : (y z : Day) → Numbered y.diagram y.updates → Moves y z → Numbered z.diagram z.updates
numbered_moves y z N (enters c r true E) = numbered-update (y.terminal r) c y.diagram y.updates N
numbered_moves y z N (enters c r false E) = numbered_quiet (event (y.terminal r) c none) y.diagram y.updates refl N
numbered_moves y z N (yields c h) = by (y.open_by c)
  where
    by : (q : Option ℕ) → Numbered (yield y c q).diagram (yield y c q).updates
    by none = N
    by (some t) = N
numbered_moves y z N (forks_at r name S) = numbered_quiet (start (length y.diagram)) (fork (y.terminal r) ∷ y.diagram) y.updates refl (numbered_quiet (fork (y.terminal r)) y.diagram y.updates refl N)
numbered_moves y z N (joins_into a b H) = numbered_quiet (join (y.terminal a) (y.terminal b)) y.diagram y.updates refl N
numbered_moves y z N (drops_of r D) = N

-- so each number is of one vertex
pub one : {d : Diagram} {n : ℕ} → Numbered d n → (e f k : ℕ) → number d e ≡ some k → number d f ≡ some k → e ≡ f
one N e f k p q =
    cases (ltb e f)
    (λ a. absurd (omega (arith, N.rising e f k k p q (ltb-true e f a))))
    (λ a. cases (ltb f e) (λ b. absurd (omega (arith, N.rising f e k k q p (ltb-true f e b)))) (λ b. let x = ltb-false e f a in let y = ltb-false f e b in omega arith))

-- what has a number is an event
pub number_event : (d : Diagram) (e k : ℕ) → number d e ≡ some k → IsEvent e d
unfolding tabulate
number_event [] e k q = absurd (some≢none none q refl)
number_event (v ∷ d) e k q = by v q (number_new v d e) (number_event d e k)
  where
    by : (v : Vertex) → number (v ∷ d) e ≡ some k → ((e ≡ length d) × (number (v ∷ d) e ≡ number_step d (number d) v)) ⊎ (number (v ∷ d) e ≡ number d e) → (number d e ≡ some k → IsEvent e d) → IsEvent e (v ∷ d)
    by v q (inr a) f = older_is (f (sym a ∙ q))
    by root q (inl a) f = absurd (some≢none (number (root ∷ d) e) q a.1)
    by (start p) q (inl a) f = absurd (some≢none (number (start p ∷ d) e) q a.1)
    by (event p c u) q (inl a) f = newest_is a.0
    by (fork p) q (inl a) f = absurd (some≢none (number (fork p ∷ d) e) q a.1)
    by (join p w) q (inl a) f = absurd (some≢none (number (join p w ∷ d) e) q a.1)
