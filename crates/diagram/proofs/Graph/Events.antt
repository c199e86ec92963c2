-- The events of a revision and those on a vertex's root-path, and that a path loses none of them.
use Prim.Native.Nat.{◌<◌, ℕ}
use mathlib.Core.Path.{◌≡◌, refl, sym}
use mathlib.Core.Logic.{◌⊎◌, inl, inr}
use mathlib.Core.Option.{none, some}
use mathlib.Core.List.{List, Memᴰ}
use mathlib.Core.List.{[], ◌++◌, ◌∷◌, append_assoc, append-nil}
use native.Mathlib.Omega.{arith}
use lib.ListN.{length}
use Rattle.diagram.proofs.Graph.Paths.{Ordered, edge_bounds, no_vertex, one_more, path_bound}
use Rattle.diagram.proofs.Graph.Tables.{by_vertex, fork_step, tabulate-newest, tabulate-older}
use Rattle.diagram.specs.Diagram.{Diagram, Edge, HasPath, Vertex, event, fork, go, join, newest, older, root, sources, start, stay}
use Rattle.diagram.specs.Effects.{fork_vertex, tabulate}
use Rattle.lists.specs.Arranged.{◌⊆◌}

abbrev pub own_event_step : Diagram → (ℕ → List ℕ) → Vertex → List ℕ
own_event_step d f root = []
own_event_step d f (start p) = []
own_event_step d f (event p c k) = f p ++ (length d ∷ [])
own_event_step d f (fork p) = f p
own_event_step d f (join p q) = f p ++ f q

abbrev pub own_events : Diagram → ℕ → List ℕ
own_events = tabulate own_event_step []

abbrev pub view_event_step : Diagram → (ℕ → List ℕ) → Vertex → List ℕ
view_event_step d f root = []
view_event_step d f (start p) = f p
view_event_step d f (event p c k) = f p ++ (length d ∷ [])
view_event_step d f (fork p) = f p
view_event_step d f (join p q) = f p ++ own_events d q

abbrev pub view_events : Diagram → ℕ → List ℕ
view_events = tabulate view_event_step []

-- what the revision of a vertex began with
abbrev pub inherited_step : Diagram → (ℕ → List ℕ) → Vertex → List ℕ
inherited_step d f root = []
inherited_step d f (start p) = view_events d p
inherited_step d f (event p c k) = f p
inherited_step d f (fork p) = f p
inherited_step d f (join p q) = f p

abbrev pub inherited_events : Diagram → ℕ → List ℕ
inherited_events = tabulate inherited_step []

pub view-split : {d : Diagram} → Ordered d → (x : ℕ) → x < length d → view_events d x ≡ inherited_events d x ++ own_events d x
view-split = by_vertex (λ d x. view_events d x ≡ inherited_events d x ++ own_events d x) new old
  where
    new : (v : Vertex) (d : Diagram) → ((p : ℕ) → Memᴰ p (sources v) → p < length d) → ((p : ℕ) → p < length d → view_events d p ≡ inherited_events d p ++ own_events d p)
        → view_events (v ∷ d) (length d) ≡ inherited_events (v ∷ d) (length d) ++ own_events (v ∷ d) (length d)
    new root d f k = rw (tabulate-newest view_event_step [], tabulate-newest inherited_step [], tabulate-newest own_event_step [])
    new (start p) d f k = rw (tabulate-newest view_event_step [], tabulate-newest inherited_step [], tabulate-newest own_event_step []) (sym (append-nil (view_events d p)))
    new (event p c u) d f k = rw (tabulate-newest view_event_step [], tabulate-newest inherited_step [], tabulate-newest own_event_step [], k p (f p (mathlib.Core.List.Memᴰ.head refl))) (append_assoc (inherited_events d p) (own_events d p) (length d ∷ []))
    new (fork p) d f k = rw (tabulate-newest view_event_step [], tabulate-newest inherited_step [], tabulate-newest own_event_step []) (k p (f p (mathlib.Core.List.Memᴰ.head refl)))
    new (join p q) d f k = rw (tabulate-newest view_event_step [], tabulate-newest inherited_step [], tabulate-newest own_event_step [], k p (f p (mathlib.Core.List.Memᴰ.head refl))) (append_assoc (inherited_events d p) (own_events d p) (own_events d q))

    old : (v : Vertex) (d : Diagram) (x : ℕ) → x < length d → view_events d x ≡ inherited_events d x ++ own_events d x → view_events (v ∷ d) x ≡ inherited_events (v ∷ d) x ++ own_events (v ∷ d) x
    old v d x h k = rw (tabulate-older view_event_step [] v d x, tabulate-older inherited_step [] v d x, tabulate-older own_event_step [] v d x) k

-- the join condition, of each join when it was made
abbrev pub JoinOk : Diagram → Vertex → Type 0
JoinOk d root = Unit {0}
JoinOk d (start p) = Unit {0}
JoinOk d (event p c k) = Unit {0}
JoinOk d (fork p) = Unit {0}
JoinOk d (join p q) = (f : ℕ) × (fork_vertex d q ≡ some f) × HasPath d f p

abbrev pub Joined : Diagram → Type 0
Joined [] = Unit {0}
Joined (v ∷ d) = JoinOk d v × Joined d

pub inherited_from : {d : Diagram} → Ordered d → (x : ℕ) → x < length d → (f : ℕ) → fork_vertex d x ≡ some f → (f < length d) × (inherited_events d x ≡ view_events d f)
inherited_from = by_vertex (λ d x. (f : ℕ) → fork_vertex d x ≡ some f → (f < length d) × (inherited_events d x ≡ view_events d f)) new old
  where
    grow : (v : Vertex) (d : Diagram) (l : List ℕ) (f : ℕ) → (f < length d) × (l ≡ view_events d f) → (f < length (v ∷ d)) × (l ≡ view_events (v ∷ d) f)
    grow v d l f h = let b = h.0 in (omega arith, rw (tabulate-older view_event_step [] v d f) h.1)

    new : (v : Vertex) (d : Diagram) → ((p : ℕ) → Memᴰ p (sources v) → p < length d) → ((p : ℕ) → p < length d → (f : ℕ) → fork_vertex d p ≡ some f → (f < length d) × (inherited_events d p ≡ view_events d f))
        → (f : ℕ) → fork_vertex (v ∷ d) (length d) ≡ some f → (f < length (v ∷ d)) × (inherited_events (v ∷ d) (length d) ≡ view_events (v ∷ d) f)
    new root d b k f e = let z : ◌≡◌ {A = ℕ} 0 1 = cc (tabulate-newest fork_step none root d) in absurd (omega arith)
    new (start p) d b k f e =
        let e' : p ≡ f = cc (tabulate-newest fork_step none (start p) d) in
        rw (tabulate-newest inherited_step []) (grow _ d _ f (rw (← e') (b p (mathlib.Core.List.Memᴰ.head refl), refl)))
    new (event p c u) d b k f e = rw (tabulate-newest inherited_step []) (grow _ d _ f (k p (b p (mathlib.Core.List.Memᴰ.head refl)) f (rw (tabulate-newest fork_step none) at e)))
    new (fork p) d b k f e = rw (tabulate-newest inherited_step []) (grow _ d _ f (k p (b p (mathlib.Core.List.Memᴰ.head refl)) f (rw (tabulate-newest fork_step none) at e)))
    new (join p q) d b k f e = rw (tabulate-newest inherited_step []) (grow _ d _ f (k p (b p (mathlib.Core.List.Memᴰ.head refl)) f (rw (tabulate-newest fork_step none) at e)))

    old : (v : Vertex) (d : Diagram) (x : ℕ) → x < length d → ((f : ℕ) → fork_vertex d x ≡ some f → (f < length d) × (inherited_events d x ≡ view_events d f))
        → (f : ℕ) → fork_vertex (v ∷ d) x ≡ some f → (f < length (v ∷ d)) × (inherited_events (v ∷ d) x ≡ view_events (v ∷ d) f)
    old v d x h k f e = rw (tabulate-older inherited_step [] v d x) (grow v d _ f (k f (rw (tabulate-older fork_step none v d x) at e)))

-- along an edge nothing is lost from view: at the newest vertex
edge_new : {d : Diagram} → Ordered d → ((x y : ℕ) → HasPath d x y → view_events d x ⊆ view_events d y) → (v : Vertex) → ((p : ℕ) → Memᴰ p (sources v) → p < length d) → JoinOk d v
    → (x : ℕ) → Memᴰ x (sources v) → view_events d x ⊆ view_event_step d (view_events d) v
edge_new o k root b c x m n i = absurd (mathlib.Core.List.Memᴰ.not-nil m)
edge_new {d} o k (start p) b c x m n i = rw (mathlib.Core.List.Memᴰ.eq_of_singleton m) at i
edge_new {d} o k (event p t u) b c x m n i = mathlib.Core.List.Memᴰ.append_left _ (rw (mathlib.Core.List.Memᴰ.eq_of_singleton m) at i)
edge_new {d} o k (fork p) b c x m n i = rw (mathlib.Core.List.Memᴰ.eq_of_singleton m) at i
edge_new {d} o k (join p q) b c x m n i = side (mathlib.Core.List.Memᴰ.cases_cons m)
  where
    joined : Memᴰ n (inherited_events d q) ⊎ Memᴰ n (own_events d q) → Memᴰ n (view_events d p ++ own_events d q)
    joined (inl h) = mathlib.Core.List.Memᴰ.append_left _ (k c.0 p c.2 n (rw (inherited_from o q (b q (mathlib.Core.List.Memᴰ.tail (mathlib.Core.List.Memᴰ.head refl))) c.0 c.1).1 at h))
    joined (inr h) = mathlib.Core.List.Memᴰ.append_right (view_events d p) h

    side : (x ≡ p) ⊎ Memᴰ x (q ∷ []) → Memᴰ n (view_events d p ++ own_events d q)
    side (inl e) = mathlib.Core.List.Memᴰ.append_left _ (rw e at i)
    side (inr h) =
        let e = mathlib.Core.List.Memᴰ.eq_of_singleton h in
        let i' : Memᴰ n (view_events d q) = rw e at i in
        joined (mathlib.Core.List.Memᴰ.append_cases (inherited_events d q) (rw (view-split o q (b q (mathlib.Core.List.Memᴰ.tail (mathlib.Core.List.Memᴰ.head refl)))) at i'))

-- along a path: a vertex sees whatever one that it follows sees
pub path_view : {d : Diagram} → Ordered d → Joined d → (x y : ℕ) → HasPath d x y → view_events d x ⊆ view_events d y
path_view no_vertex j x y p = λ n m. absurd (omega (arith, path_bound no_vertex p))
path_view (one_more {v} {d} f o) j x y p = along p (path_view o j.1)
  where
    edge : (x y : ℕ) → Edge sources x y (v ∷ d) → ((x y : ℕ) → HasPath d x y → view_events d x ⊆ view_events d y) → view_events (v ∷ d) x ⊆ view_events (v ∷ d) y
    edge x y (newest e m) k n i = rw (e, tabulate-newest view_event_step [] v d) (edge_new o k v f j.0 x m n (rw (tabulate-older view_event_step [] v d x (f x m)) at i))
    edge x y (older e) k n i =
        let b = edge_bounds o e in
        rw (tabulate-older view_event_step [] v d y b.1) (k x y (go (stay refl (omega arith)) e) n (rw (tabulate-older view_event_step [] v d x (omega arith)) at i))

    along : {y : ℕ} → HasPath (v ∷ d) x y → ((x y : ℕ) → HasPath d x y → view_events d x ⊆ view_events d y) → view_events (v ∷ d) x ⊆ view_events (v ∷ d) y
    along (stay e h) k n i = rw (← e) i
    along (go {y} {z} p e) k n i = edge y z e k n (along p k n i)
