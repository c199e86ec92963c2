-- Which step of a run was a client's last event, and that no yield followed it if the client's transaction is open.
use Prim.Native.Nat.{ℕ}
use mathlib.Core.Bool.{Bool}
use mathlib.Core.Path.{◌∙◌, ◌≡◌, ap, refl, sym}
use mathlib.Core.Logic.{◌⊎◌, inl, inr}
use mathlib.Core.Option.{Option, none, some}
use mathlib.Core.List.Memᴰ
use mathlib.Core.List.{List, Memᴰ, [], ◌++◌, ◌∷◌}
use native.Mathlib.Omega.{arith}
use lib.ListN.{length}
use lib.Dec.{eqb}
use borrow.Author.Tests.{eqb-false, eqb-true}
use Rattle.diagram.proofs.Days.Sound.{some≢none}
use Rattle.diagram.proofs.Order.Runs.{run-append}
use Rattle.diagram.specs.Day.{Day, fresh}
use Rattle.diagram.specs.Steps.{Drop, Event, Fork, Join, Step, Yield, after, run, run_from, yield}
use Rattle.diagram.specs.Witness.{NoEvent, NoYield}
use Rattle.lists.proofs.Cases.{cases, either}
use Rattle.lists.proofs.Changed.{changed-other, changed_same}

abbrev pub NotEvent : ℕ → Step → Type 0
NotEvent c s = (r : ℕ) (u : Bool) → s ≡ Event c r u → ⊥

-- client c's last event in a run from day y is vertex l
pub record Latest (y : Day) (ss : List Step) (c l : ℕ) : Type 0 where
  pub before : List Step
  pub rest : List Step
  pub revision : ℕ
  pub update : Bool
  pub is : ss ≡ before ++ (Event c revision update ∷ rest)
  pub at : l ≡ length (run_from y before).diagram
  pub no_later : NoEvent c rest

-- one step: the last event is as before, or it is this step
last_step : (y : Day) (s : Step) (c l : ℕ) → (after y s).last_event c ≡ some l
    → ((y.last_event c ≡ some l) × NotEvent c s) ⊎ ((r : ℕ) × (u : Bool) × (s ≡ Event c r u) × (l ≡ length y.diagram))
unfolding after
last_step y (Event b r u) c l p =
    cases (eqb c b)
    (λ e. let q : some (length y.diagram) ≡ some l = rw e at p in let g : l ≡ length y.diagram = cc in inr (r, u, ap (λ k. Event k r u) (sym (eqb-true c b e)), g))
    (λ e. inl (rw e at p, λ q w i. let z : c ≡ b = cc in eqb-false c b e z))
last_step y (Yield b) c l p = by (y.open_by b) p
  where
    by : (o : Option ℕ) → (yield y b o).last_event c ≡ some l
        → ((y.last_event c ≡ some l) × NotEvent c (Yield b)) ⊎ ((r : ℕ) × (u : Bool) × (Yield b ≡ Event c r u) × (l ≡ length y.diagram))
    by none p = inl (p, λ q w i. let z : ◌≡◌ {A = ℕ} 0 1 = cc in omega arith)
    by (some t) p = inl (p, λ q w i. let z : ◌≡◌ {A = ℕ} 0 1 = cc in omega arith)
last_step y (Fork r name) c l p = inl (p, λ q w i. let z : ◌≡◌ {A = ℕ} 0 1 = cc in omega arith)
last_step y (Join a b) c l p = inl (p, λ q w i. let z : ◌≡◌ {A = ℕ} 0 1 = cc in omega arith)
last_step y (Drop r) c l p = inl (p, λ q w i. let z : ◌≡◌ {A = ℕ} 0 1 = cc in omega arith)

no_event : {c : ℕ} {s : Step} {ss : List Step} → NotEvent c s → NoEvent c ss → NoEvent c (s ∷ ss)
no_event n m r u i = either (Memᴰ.cases_cons i) (λ e. n r u (sym e)) (λ j. m r u j)

last_from : (ss : List Step) (y : Day) (c l : ℕ) → (run_from y ss).last_event c ≡ some l → ((y.last_event c ≡ some l) × NoEvent c ss) ⊎ Latest y ss c l
unfolding run_from
last_from [] y c l p = inl (p, λ r u i. Memᴰ.not-nil i)
last_from (s ∷ ss) y c l p = by (last_from ss (after y s) c l p)
  where
    here : NoEvent c ss → ((y.last_event c ≡ some l) × NotEvent c s) ⊎ ((r : ℕ) × (u : Bool) × (s ≡ Event c r u) × (l ≡ length y.diagram)) → ((y.last_event c ≡ some l) × NoEvent c (s ∷ ss)) ⊎ Latest y (s ∷ ss) c l
    here n (inl (q, m)) = inl (q, no_event m n)
    here n (inr (r, u, e, g)) = inr (record { before = []; rest = ss; revision = r; update = u; is = ap (λ k. k ∷ ss) e; at = g; no_later = n })

    by : (((after y s).last_event c ≡ some l) × NoEvent c ss) ⊎ Latest (after y s) ss c l → ((y.last_event c ≡ some l) × NoEvent c (s ∷ ss)) ⊎ Latest y (s ∷ ss) c l
    by (inl (q, n)) = here n (last_step y s c l q)
    by (inr k) = inr (record { before = s ∷ k.before; rest = k.rest; revision = k.revision; update = k.update; is = ap (◌∷◌ s) k.is; at = k.at; no_later = k.no_later })

-- a fresh day has no last event
pub latest : (ss : List Step) (c l : ℕ) → (run ss).last_event c ≡ some l → Latest fresh ss c l
unfolding run
latest ss c l p = either (last_from ss fresh c l p) (λ q. absurd (some≢none none q.0 refl)) (λ k. k)

-- a client without an open transaction opens none but by an event
shut_step : (y : Day) (s : Step) (c : ℕ) → NotEvent c s → y.open_by c ≡ none → (after y s).open_by c ≡ none
unfolding after
shut_step y (Event b r u) c n q = changed-other y.open_by b _ c (λ e. n r u (ap (λ k. Event k r u) (sym e))) ∙ q
shut_step y (Yield b) c n q = by (y.open_by b)
  where
    by : (o : Option ℕ) → (yield y b o).open_by c ≡ none
    by none = q
    by (some t) = cases (eqb c b) (λ e. rw e) (λ e. rw e q)
shut_step y (Fork r name) c n q = q
shut_step y (Join a b) c n q = q
shut_step y (Drop r) c n q = q

shut_on : (ss : List Step) (y : Day) (c : ℕ) → NoEvent c ss → y.open_by c ≡ none → (run_from y ss).open_by c ≡ none
unfolding run_from
shut_on [] y c n q = q
shut_on (s ∷ ss) y c n q = shut_on ss (after y s) c (λ r u i. n r u (Memᴰ.tail i)) (shut_step y s c (λ r u e. n r u (Memᴰ.head (sym e))) q)

shut_by-yield : (y : Day) (c : ℕ) → (after y (Yield c)).open_by c ≡ none
unfolding after
shut_by-yield y c = by (y.open_by c) refl
  where
    by : (o : Option ℕ) → y.open_by c ≡ o → (yield y c o).open_by c ≡ none
    by none q = q
    by (some t) q = changed_same y.open_by c none

-- a transaction that is open after a run without events of its client was not closed on the way
open_since : (ss : List Step) (y : Day) (c t : ℕ) → (run_from y ss).open_by c ≡ some t → NoEvent c ss → NoYield c ss
unfolding run_from
open_since [] y c t q n i = Memᴰ.not-nil i
open_since (s ∷ ss) y c t q n i = by (Memᴰ.cases_cons i) (open_since ss (after y s) c t q (λ r u i. n r u (Memᴰ.tail i)))
  where
    by : (Yield c ≡ s) ⊎ Memᴰ (Yield c) ss → NoYield c ss → ⊥
    by (inl e) k = some≢none ((run_from (after y s) ss).open_by c) q (shut_on ss (after y s) c (λ r u i. n r u (Memᴰ.tail i)) (ap (λ z. (after y z).open_by c) (sym e) ∙ shut_by-yield y c))
    by (inr j) k = k j

pub no_yield_since : (ss : List Step) (c l t : ℕ) (K : Latest fresh ss c l) → (run ss).open_by c ≡ some t → NoYield c K.rest
unfolding run_from
no_yield_since ss c l t K q =
    open_since K.rest (after (run K.before) (Event c K.revision K.update)) c t (sym (ap (λ z. z.open_by c) (ap run K.is ∙ run-append K.before (Event c K.revision K.update ∷ K.rest))) ∙ q) K.no_later
