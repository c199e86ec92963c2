-- Code 4: a revision that is out no more was joined, and its last vertex is no terminal, or it was dropped.
use Prim.Native.Nat.{◌<◌, ℕ}
use mathlib.Core.Bool.{false, false≢true, true}
use mathlib.Core.Path.{◌∙◌, ◌≡◌, ap, refl, sym}
use mathlib.Core.Logic.{◌⊎◌, inl, inr}
use mathlib.Core.Option.{Option, none, some}
use mathlib.Core.List.Memᴰ
use mathlib.Core.List.{List, Memᴰ, [], ◌∷◌}
use lib.ListN.{length}
use lib.Dec.{eqb}
use borrow.Author.Tests.{eqb-true, ne_eqb}
use Rattle.lists.proofs.Cases.{cases, either}
use Rattle.lists.proofs.Changed.{changed_same}
use Rattle.lists.specs.Lists.{changed}
use Rattle.diagram.specs.Diagram.{Diagram, Edge, Vertex, event, fork, j_sources, join, newest, older}
use Rattle.diagram.specs.Day.{Day, fresh}
use Rattle.diagram.specs.Steps.{Drop, Event, Fork, Join, Step, Yield, after, new_update, run, run_from, yield}
use Rattle.diagram.specs.Accepted.{Accepted, AcceptedFrom, accepted}
use Rattle.diagram.proofs.Days.Moves.{can-drop, can-enter, can-fork, can-join}
use Rattle.diagram.proofs.Order.Runs.{along_in, joined_from}

-- a j-edge leads on from x
abbrev pub Ended : Diagram → ℕ → Type 0
Ended d x = (z : ℕ) × Edge j_sources x z d

module _ (all : List Step) where
  abbrev Gone : Day → Type 0
  Gone y = (r : ℕ) → y.joined r ≡ true → Ended y.diagram (y.terminal r) ⊎ Memᴰ (Drop r) all

  module _ (y : Day) (G : Gone y) where
    -- a vertex that goes on from a revision that is out ends none
    gone-on : (v : Vertex) (r : ℕ) → y.joined r ≡ false → (s : ℕ) → y.joined s ≡ true
        → Ended (v ∷ y.diagram) (changed y.terminal r (length y.diagram) s) ⊎ Memᴰ (Drop s) all
    gone-on v r o s h =
        cases (eqb s r)
        (λ e. absurd (false≢true (sym o ∙ ap y.joined (sym (eqb-true s r e)) ∙ h)))
        (λ e. rw e (either (G s h) (λ k. inl (k.0, older k.1)) inr))

    gone-after : (s : Step) → Memᴰ s all → accepted y s ≡ true → Gone (after y s)
    unfolding after
    gone-after (Event c r u) i e s h = gone-on (event (y.terminal r) c (new_update y u)) r (can-enter y c r u e).out.1 s h
    gone-after (Yield c) i e s h = by (y.open_by c) s h
      where
        by : (q : Option ℕ) → Gone (yield y c q)
        by none = G
        by (some t) = G
    gone-after (Fork r name) i e s h =
        cases (eqb s y.revisions)
        (λ q. let f : false ≡ true = rw q at h in absurd (false≢true f))
        (λ q. rw q (either (gone-on (fork (y.terminal r)) r (can-fork y r name e).out.1 s (rw q at h)) (λ k. inl (k.0, older k.1)) inr))
    gone-after (Join a b) i e s h =
        cases (eqb s b)
        (λ q. let z = eqb-true s b q in inl (rw (z, ne_eqb b a (can-join y a b e).not_self) (length y.diagram, newest refl (Memᴰ.head refl))))
        (λ q. gone-on (join (y.terminal a) (y.terminal b)) a (can-join y a b e).out_a.1 s (rw q at h))
    gone-after (Drop r) i e s h = cases (eqb s r) (λ q. inr (rw (eqb-true s r q) i)) (λ q. G s (rw q at h))

pub gone_run : (ss : List Step) → Accepted ss → (r : ℕ) → (run ss).joined r ≡ true → Ended (run ss).diagram ((run ss).terminal r) ⊎ Memᴰ (Drop r) ss
unfolding run
gone_run ss A = along_in (Gone ss) ss (λ y s i e G. gone-after ss y G s i e) ss (λ s i. i) fresh A (λ r e. absurd (false≢true e))

-- what was dropped is out no more
dropped_from : (r : ℕ) (ss : List Step) (y : Day) → AcceptedFrom y ss → Memᴰ (Drop r) ss → (run_from y ss).joined r ≡ true
unfolding run_from after
dropped_from r [] y A i = absurd (Memᴰ.not-nil i)
dropped_from r (s ∷ ss) y A i = by (Memᴰ.cases_cons i) (λ j. dropped_from r ss (after y s) A.1 j)
  where
    by : (Drop r ≡ s) ⊎ Memᴰ (Drop r) ss → (Memᴰ (Drop r) ss → (run_from (after y s) ss).joined r ≡ true) → (run_from (after y s) ss).joined r ≡ true
    by (inl e) k =
        let D = can-drop y r (rw e A.0) in
        let now : (r < (after y s).revisions) × ((after y s).joined r ≡ true) = rw (sym e) (D.out.0, changed_same y.joined r true) in
        joined_from ss (after y s) A.1 r now.0 now.1
    by (inr j) k = k j

pub dropped-run : (ss : List Step) → Accepted ss → (r : ℕ) → Memᴰ (Drop r) ss → (run ss).joined r ≡ true
unfolding run
dropped-run ss A r i = dropped_from r ss fresh A i
