-- Values given to the vertices of a diagram: at the newest vertex and at older ones, and induction over vertices.
use Prim.Native.Nat.{◌<◌, ℕ}
use mathlib.Core.Bool.{false, true}
use mathlib.Core.Path.{◌≡◌, refl, subst, sym}
use mathlib.Core.Logic.{◌⊎◌, inl, inr}
use mathlib.Core.Option.{Option, none, some}
use mathlib.Core.List.{Memᴰ, ◌∷◌}
use native.Mathlib.Omega.{arith}
use lib.ListN.{length}
use lib.Dec.{eqb}
use borrow.Author.Tests.{eq-eqb, eqb-false, eqb-true, ne_eqb}
use Rattle.diagram.proofs.Graph.Paths.{Ordered, leads_newest, leads_old, leads_up, no_vertex, one_more}
use Rattle.diagram.specs.Diagram.{Diagram, Vertex, by_gain, by_origin, event, fork, join, root, sources, start}
use Rattle.diagram.specs.Leads.{leads}
use Rattle.diagram.specs.Effects.{start_vertex, tabulate}
use Rattle.lists.proofs.Cases.{split}

-- the steps of the specs' tables
abbrev pub start_step : Diagram → (ℕ → ℕ) → Vertex → ℕ
start_step d s = by_origin (length d) (λ f. length d) s

abbrev pub fork_step : Diagram → (ℕ → Option ℕ) → Vertex → Option ℕ
fork_step d f = by_origin none some f

abbrev pub number_step : Diagram → (ℕ → Option ℕ) → Vertex → Option ℕ
number_step d f = by_gain none (λ u. u) (λ q. none)

-- the value at the newest vertex, and at an older one
module _ {A : Type 0} (step : Diagram → (ℕ → A) → Vertex → A) (outside : A) where
  pub tabulate-newest : (v : Vertex) (d : Diagram) → tabulate step outside (v ∷ d) (length d) ≡ step d (tabulate step outside d) v
  unfolding tabulate
  tabulate-newest v d = rw (eq-eqb (length d) (length d) refl)

  pub tabulate-older : (v : Vertex) (d : Diagram) (x : ℕ) → x < length d → tabulate step outside (v ∷ d) x ≡ tabulate step outside d x
  unfolding tabulate
  tabulate-older v d x h = rw (ne_eqb x (length d) (λ e. omega arith))

-- induction over the vertices of an ordered diagram
pub by_vertex : (P : Diagram → ℕ → Type 0)
    → ((v : Vertex) (d : Diagram) → ((p : ℕ) → Memᴰ p (sources v) → p < length d) → ((p : ℕ) → p < length d → P d p) → P (v ∷ d) (length d))
    → ((v : Vertex) (d : Diagram) (x : ℕ) → x < length d → P d x → P (v ∷ d) x)
    → {d : Diagram} → Ordered d → (x : ℕ) → x < length d → P d x
by_vertex P new old no_vertex x h = absurd (omega arith)
by_vertex P new old (one_more {v} {d} f o) x h = pick (split (eqb x (length d))) (by_vertex P new old o)
  where
    pick : (eqb x (length d) ≡ true) ⊎ (eqb x (length d) ≡ false) → ((p : ℕ) → p < length d → P d p) → P (v ∷ d) x
    pick (inl e) k = subst (λ y. P (v ∷ d) y) (sym (eqb-true x (length d) e)) (new v d f k)
    pick (inr e) k = let q = eqb-false x (length d) e in let l : x < length d = omega arith in old v d x l (k x l)

-- every vertex sees its start vertex
pub start-leads : {d : Diagram} → Ordered d → (x : ℕ) → x < length d → leads d (start_vertex d x) x ≡ true
start-leads o = by_vertex (λ d x. leads d (start_vertex d x) x ≡ true) new old o
  where
    new : (v : Vertex) (d : Diagram) → ((p : ℕ) → Memᴰ p (sources v) → p < length d) → ((p : ℕ) → p < length d → leads d (start_vertex d p) p ≡ true) → leads (v ∷ d) (start_vertex (v ∷ d) (length d)) (length d) ≡ true
    new root d f k = rw (tabulate-newest start_step 0 root d) (leads_newest root d)
    new (start p) d f k = rw (tabulate-newest start_step 0 (start p) d) (leads_newest (start p) d)
    new (event p c u) d f k = rw (tabulate-newest start_step 0 (event p c u) d) (leads_up (event p c u) d _ p (Memᴰ.head refl) (k p (f p (Memᴰ.head refl))))
    new (fork p) d f k = rw (tabulate-newest start_step 0 (fork p) d) (leads_up (fork p) d _ p (Memᴰ.head refl) (k p (f p (Memᴰ.head refl))))
    new (join p q) d f k = rw (tabulate-newest start_step 0 (join p q) d) (leads_up (join p q) d _ p (Memᴰ.head refl) (k p (f p (Memᴰ.head refl))))

    old : (v : Vertex) (d : Diagram) (x : ℕ) → x < length d → leads d (start_vertex d x) x ≡ true → leads (v ∷ d) (start_vertex (v ∷ d) x) x ≡ true
    old v d x h e = rw (tabulate-older start_step 0 v d x h, leads_old v d (start_vertex d x) x h) e
