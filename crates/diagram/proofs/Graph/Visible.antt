-- What a vertex's view holds is what leads to it; and the effects of 002 are the numbers of those events.
use Prim.Native.Nat.{◌<◌, ℕ}
use mathlib.Core.Bool.{false, true}
use mathlib.Core.Path.{◌∙◌, ◌≡◌, ap, refl, sym}
use mathlib.Core.Logic.{◌↔◌, ◌⊎◌, inl, inr}
use mathlib.Core.Option.{Option, none}
use mathlib.Core.List.{List, Memᴰ}
use mathlib.Core.List.{[], ◌++◌, ◌∷◌, append-nil}
use native.Mathlib.Omega.{arith}
use lib.ListN.{length}
use lib.Dec.{eqb}
use borrow.Author.Tests.{eqb-false, eqb-true}
use Rattle.diagram.proofs.Graph.Events.{Joined, own_event_step, own_events, path_view, view_event_step, view_events}
use Rattle.diagram.proofs.Graph.Paths.{Ordered, no_vertex, one_more, path_older, path_start}
use Rattle.diagram.proofs.Graph.Tables.{by_vertex, number_step, tabulate-newest, tabulate-older}
use Rattle.diagram.specs.Arbitration.{IsEvent, newest_is, older_is}
use Rattle.diagram.specs.Diagram.{Diagram, HasPath, Vertex, event, fork, go, join, newest, root, sources, start, stay}
use Rattle.diagram.specs.Effects.{entry, number, numbers}
use Rattle.diagram.specs.Views.{own, own_step, view, view_step}
use Rattle.lists.proofs.Blocks.{flat-++, flat_same}
use Rattle.lists.proofs.Cases.{either, split}
use Rattle.lists.specs.Lists.{◌∈◌}

abbrev pub From : Diagram → ℕ → List ℕ → Type 0
From d x l = (n : ℕ) → n ∈ l → IsEvent n d × HasPath d n x

abbrev pub Traced : Diagram → ℕ → Type 0
Traced d x = From d x (own_events d x) × From d x (view_events d x)

from-++ : {d : Diagram} {x : ℕ} (a : List ℕ) {b : List ℕ} → From d x a → From d x b → From d x (a ++ b)
from-++ {d} {x} a {b} f g n i = either (mathlib.Core.List.Memᴰ.append_cases a i) (λ j. f n j) (λ j. g n j)

-- from a vertex before the newest
up : {v : Vertex} {d : Diagram} {p : ℕ} {l : List ℕ} → Memᴰ p (sources v) → From d p l → From (v ∷ d) (length d) l
up i f n j = let h = f n j in (older_is h.0, go (path_older h.1) (newest refl i))

pub view_paths : {d : Diagram} → Ordered d → (x : ℕ) → x < length d → Traced d x
view_paths = by_vertex Traced new old
  where
    old : (v : Vertex) (d : Diagram) (x : ℕ) → x < length d → Traced d x → Traced (v ∷ d) x
    old v d x h r =
        (rw (tabulate-older own_event_step [] v d x h) (λ n i. let q = r.0 n i in (older_is q.0, path_older q.1)), rw (tabulate-older view_event_step [] v d x h) (λ n i. let q = r.1 n i in (older_is q.0, path_older q.1)))

    none_of : {d : Diagram} {x : ℕ} → From d x []
    none_of n i = absurd (mathlib.Core.List.Memᴰ.not-nil i)

    steps : (v : Vertex) (d : Diagram) → ((p : ℕ) → Memᴰ p (sources v) → p < length d) → ((p : ℕ) → p < length d → Traced d p)
        → From (v ∷ d) (length d) (own_event_step d (own_events d) v) × From (v ∷ d) (length d) (view_event_step d (view_events d) v)
    steps root d f k = (none_of, none_of)
    steps (start p) d f k = let i : Memᴰ p (p ∷ []) = mathlib.Core.List.Memᴰ.head refl in (none_of, up i (k p (f p i)).1)
    steps (event p c u) d f k =
        let i : Memᴰ p (p ∷ []) = mathlib.Core.List.Memᴰ.head refl in
        let r = k p (f p i) in
        let one : From (event p c u ∷ d) (length d) (length d ∷ []) = λ n j. let e = mathlib.Core.List.Memᴰ.eq_of_singleton j in (newest_is e, stay e (omega arith)) in
        (from-++ (own_events d p) (up i r.0) one, from-++ (view_events d p) (up i r.1) one)
    steps (fork p) d f k = let i : Memᴰ p (p ∷ []) = mathlib.Core.List.Memᴰ.head refl in let r = k p (f p i) in (up i r.0, up i r.1)
    steps (join p q) d f k =
        let i : Memᴰ p (p ∷ q ∷ []) = mathlib.Core.List.Memᴰ.head refl in
        let j : Memᴰ q (p ∷ q ∷ []) = mathlib.Core.List.Memᴰ.tail (mathlib.Core.List.Memᴰ.head refl) in
        let r = k p (f p i) in
        let s = k q (f q j) in
        (from-++ (own_events d p) (up i r.0) (up j s.0), from-++ (view_events d p) (up i r.1) (up j s.0))

    new : (v : Vertex) (d : Diagram) → ((p : ℕ) → Memᴰ p (sources v) → p < length d) → ((p : ℕ) → p < length d → Traced d p) → Traced (v ∷ d) (length d)
    new v d f k = rw (tabulate-newest own_event_step [] v d, tabulate-newest view_event_step [] v d) (steps v d f k)

-- an event sees itself
pub self : {x : ℕ} {d : Diagram} → IsEvent x d → (x < length d) × (x ∈ view_events d x)
self (newest_is {p} {c} {u = k} {d} e) = (omega arith, rw (e, tabulate-newest view_event_step [] (event p c k) d) (mathlib.Core.List.Memᴰ.append_right (view_events d p) (mathlib.Core.List.Memᴰ.head refl)))
self {x} (older_is {v} {d} u) = let h = self u in let b = h.0 in (omega arith, rw (tabulate-older view_event_step [] v d x b) h.1)

pub visible : {d : Diagram} → Ordered d → Joined d → (u x : ℕ) → x < length d → (u ∈ view_events d x) ↔ (IsEvent u d × HasPath d u x)
visible {d} o j u x h = (λ i. (view_paths o x h).1 u i, λ p. path_view o j u x p.1 u (self p.0).1)

pub numbers_old : (v : Vertex) (d : Diagram) (l : List ℕ) → ((e : ℕ) → e ∈ l → e < length d) → numbers (v ∷ d) l ≡ numbers d l
numbers_old v d l h = flat_same (λ e. entry (number (v ∷ d) e)) (λ e. entry (number d e)) l (λ e i. ap entry (tabulate-older number_step none v d e (h e i)))

abbrev Q : Diagram → ℕ → Type 0
Q d x = (own d x ≡ numbers d (own_events d x)) × (view d x ≡ numbers d (view_events d x))

pub view-numbers : {d : Diagram} → Ordered d → (x : ℕ) → x < length d → Q d x
view-numbers {d} o x h = go o x h
  where
    own_low : {d : Diagram} → Ordered d → (x e : ℕ) → x < length d → e ∈ own_events d x → e < length d
    own_low o x e h i = path_start ((view_paths o x h).0 e i).1

    view-low : {d : Diagram} → Ordered d → (x e : ℕ) → x < length d → e ∈ view_events d x → e < length d
    view-low o x e h i = path_start ((view_paths o x h).1 e i).1

    old : (v : Vertex) (d : Diagram) → Ordered d → (x : ℕ) → x < length d → Q d x → Q (v ∷ d) x
    old v d o x h q = (
      rw (tabulate-older own_step [] v d x h, tabulate-older own_event_step [] v d x h, numbers_old v d (own_events d x) (λ e i. own_low o x e h i)) q.0,
      rw (tabulate-older view_step [] v d x h, tabulate-older view_event_step [] v d x h, numbers_old v d (view_events d x) (λ e i. view-low o x e h i)) q.1,
    )

    last : (p c : ℕ) (k : Option ℕ) (d : Diagram) → numbers (event p c k ∷ d) (length d ∷ []) ≡ entry k
    last p c k d = rw (tabulate-newest number_step none (event p c k) d) (append-nil (entry k))

    more-own : (v : Vertex) (d : Diagram) → Ordered d → (p : ℕ) → p < length d → Q d p → numbers (v ∷ d) (own_events d p) ≡ own d p
    more-own v d o p h q = numbers_old v d (own_events d p) (λ e i. own_low o p e h i) ∙ sym q.0

    more-view : (v : Vertex) (d : Diagram) → Ordered d → (p : ℕ) → p < length d → Q d p → numbers (v ∷ d) (view_events d p) ≡ view d p
    more-view v d o p h q = numbers_old v d (view_events d p) (λ e i. view-low o p e h i) ∙ sym q.1

    new : (v : Vertex) (d : Diagram) → Ordered d → ((p : ℕ) → Memᴰ p (sources v) → p < length d) → ((p : ℕ) → p < length d → Q d p)
        → (own_step d (own d) v ≡ numbers (v ∷ d) (own_event_step d (own_events d) v)) × (view_step d (view d) v ≡ numbers (v ∷ d) (view_event_step d (view_events d) v))
    new root d o f k = (refl, refl)
    new (start p) d o f k = let h = f p (mathlib.Core.List.Memᴰ.head refl) in (refl, sym (more-view (start p) d o p h (k p h)))
    new (event p c u) d o f k =
        let h = f p (mathlib.Core.List.Memᴰ.head refl) in (
          rw (flat-++ (λ e. entry (number (event p c u ∷ d) e)) (own_events d p) (length d ∷ []), last p c u d, more-own (event p c u) d o p h (k p h)),
          rw (flat-++ (λ e. entry (number (event p c u ∷ d) e)) (view_events d p) (length d ∷ []), last p c u d, more-view (event p c u) d o p h (k p h)),
        )
    new (fork p) d o f k = let h = f p (mathlib.Core.List.Memᴰ.head refl) in (sym (more-own (fork p) d o p h (k p h)), sym (more-view (fork p) d o p h (k p h)))
    new (join p q) d o f k =
        let h = f p (mathlib.Core.List.Memᴰ.head refl) in
        let j = f q (mathlib.Core.List.Memᴰ.tail (mathlib.Core.List.Memᴰ.head refl)) in (
          rw (flat-++ (λ e. entry (number (join p q ∷ d) e)) (own_events d p) (own_events d q), more-own (join p q) d o p h (k p h), more-own (join p q) d o q j (k q j)),
          rw (flat-++ (λ e. entry (number (join p q ∷ d) e)) (view_events d p) (own_events d q), more-view (join p q) d o p h (k p h), more-own (join p q) d o q j (k q j)),
        )

    go : {d : Diagram} → Ordered d → (x : ℕ) → x < length d → Q d x
    go no_vertex x h = absurd (omega arith)
    go (one_more {v} {d} f o) x h = pick (split (eqb x (length d))) (go o)
      where
        pick : (eqb x (length d) ≡ true) ⊎ (eqb x (length d) ≡ false) → ((p : ℕ) → p < length d → Q d p) → Q (v ∷ d) x
        pick (inl e) k =
            let q = new v d o f k in
            rw (eqb-true x (length d) e, tabulate-newest own_step [] v d, tabulate-newest view_step [] v d, tabulate-newest own_event_step [] v d, tabulate-newest view_event_step [] v d) q
        pick (inr e) k = let q = eqb-false x (length d) e in let l : x < length d = omega arith in old v d o x l (k x l)
