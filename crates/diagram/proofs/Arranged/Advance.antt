-- One more vertex: how the layout follows the diagram.
use Prim.Native.Nat.{◌<◌, ℕ}
use mathlib.Core.Bool.{Bool, ◌||◌, cond, false, false≢true, true}
use mathlib.Core.Path.{◌∙◌, ◌≡◌, ap, refl, sym}
use mathlib.Core.Logic.{◌⊎◌, inl, inr}
use mathlib.Core.Option.{Option, none, some}
use mathlib.Core.List.Memᴰ
use mathlib.Core.List.Sublistᴰ
use mathlib.Core.List.{List, Memᴰ, [], ◌∷◌}
use native.Mathlib.Omega.{arith}
use lib.ListN.{length}
use lib.Dec.{eqb}
use borrow.Author.Tests.{eqb-false, eqb-true}
use Rattle.blocks.proofs.Joining.{blocks_same, carry_left}
use Rattle.blocks.specs.Blocks.{Content, Contents, Held, Inv}
use Rattle.diagram.proofs.Graph.Events.{JoinOk, Joined, inherited_from, inherited_events, inherited_step, own_event_step, own_events}
use Rattle.diagram.proofs.Graph.Events.{view-split, view_event_step, view_events}
use Rattle.diagram.proofs.Graph.Paths.{Ordered, any_elim, any_intro, leads_new, leads_old, one_more}
use Rattle.diagram.proofs.Graph.Tables.{fork_step, tabulate-newest, tabulate-older}
use Rattle.diagram.specs.Diagram.{Diagram, Vertex, fork, sources}
use Rattle.diagram.specs.Leads.{any_of, leads}
use Rattle.diagram.specs.Effects.{fork_vertex, tabulate}
use Rattle.lists.proofs.Cases.{cases, either, or_cases, or_right, split}
use Rattle.lists.proofs.Changed.{changed-other, changed_same}
use Rattle.lists.specs.Lists.{◌∈◌, changed}

abbrev pub content_at : Diagram → ℕ → Content
content_at d x = record { inherited = inherited_events d x; own = own_events d x }

abbrev pub contents : Diagram → (ℕ → ℕ) → Contents
contents d terminal x = content_at d (terminal x)

abbrev reach : Diagram → Option ℕ → ℕ → Bool
reach d none y = false
reach d (some f) y = leads d f y

-- a may join b: the fork that b started from leads to a's terminal, and b's own start does not
abbrev pub may : Diagram → (ℕ → ℕ) → (ℕ → ℕ) → ℕ → ℕ → Bool
may d terminal starts a b = cond (leads d (starts b) (terminal a)) false (reach d (fork_vertex d (terminal b)) (terminal a))

pub record May (d : Diagram) (terminal starts : ℕ → ℕ) (a b : ℕ) : Type 0 where
  pub outside : leads d (starts b) (terminal a) ≡ false
  pub at : ℕ
  pub start_of : fork_vertex d (terminal b) ≡ some at
  pub leads : leads d at (terminal a) ≡ true

pub may_true : (d : Diagram) (terminal starts : ℕ → ℕ) (a b : ℕ) → may d terminal starts a b ≡ true → May d terminal starts a b
may_true d terminal starts a b e =
    cases (leads d (starts b) (terminal a))
    (λ q. absurd (false≢true (rw q at e)))
    (λ q. got q (fork_vertex d (terminal b)) refl (rw q at e))
  where
    got : leads d (starts b) (terminal a) ≡ false → (o : Option ℕ) → fork_vertex d (terminal b) ≡ o → reach d o (terminal a) ≡ true → May d terminal starts a b
    got h none p q = absurd (false≢true q)
    got h (some f) p q = record { outside = h; at = f; start_of = p; leads = q }

pub true_may : (d : Diagram) (terminal starts : ℕ → ℕ) (a b : ℕ) → May d terminal starts a b → may d terminal starts a b ≡ true
true_may d terminal starts a b h = rw (h.outside, h.start_of) h.leads

-- the invariant speaks only of revisions that are out, and of fewer joins as of more
pub inv_same : (layout : List ℕ) (s t : Contents) (J K : ℕ → ℕ → Bool) → Inv layout s J → ((x : ℕ) → x ∈ layout → t x ≡ s x) → ((x y : ℕ) → x ∈ layout → y ∈ layout → K x y ≡ true → J x y ≡ true) → Inv layout t K
inv_same layout s t J K inv e f = record {
  distinct = inv.distinct;
  once = rw (blocks_same s t layout e) inv.once;
  good = (carry_left s t layout e inv.good).0;
  joins = λ a b i k q. let h = inv.joins a b i k (f a b i k q) in (h.0, rw (e a i, e b k) h.1);
}

pub held_same : (layout : List ℕ) (s t : Contents) (w : List ℕ) → ((x : ℕ) → x ∈ layout → t x ≡ s x) → Held layout s w → Held layout t w
held_same layout s t w e h = (h.0, h.1, rw (e h.0 h.1) h.2)

-- one revision goes on by a vertex
module _ (d : Diagram) (v : Vertex) (terminal : ℕ → ℕ) (bound : (x : ℕ) → terminal x < length d) (b : ℕ) where
  abbrev pub on : ℕ → ℕ
  on = changed terminal b (length d)

  pub on-bound : (x : ℕ) → on x < length (v ∷ d)
  on-bound x = cases (eqb x b) (λ e. rw e (omega arith)) (λ e. rw e (omega (arith, bound x)))

  pub on-self : {A : Type 0} (step : Diagram → (ℕ → A) → Vertex → A) (z : A) → tabulate step z (v ∷ d) (on b) ≡ step d (tabulate step z d) v
  on-self step z = rw (changed_same terminal b (length d)) (tabulate-newest step z v d)

  pub on-other : {A : Type 0} (step : Diagram → (ℕ → A) → Vertex → A) (z : A) (x : ℕ) → (x ≡ b → ⊥) → tabulate step z (v ∷ d) (on x) ≡ tabulate step z d (terminal x)
  on-other step z x h = rw (changed-other terminal b (length d) x h) (tabulate-older step z v d (terminal x) (bound x))

  pub sees_on : (f : ℕ) → leads (v ∷ d) f (on b) ≡ (eqb f (length d) || any_of (λ p. leads d f p) (sources v))
  sees_on f = rw (changed_same terminal b (length d)) (leads_new v d f (length d) refl)

  pub sees-other : (f x : ℕ) → (x ≡ b → ⊥) → leads (v ∷ d) f (on x) ≡ leads d f (terminal x)
  sees-other f x h = rw (changed-other terminal b (length d) x h) (leads_old v d f (terminal x) (bound x))

  -- what leads to the new vertex leads to one before it, and what does not leads to none of them
  pub sees-before : (f : ℕ) → f < length d → leads (v ∷ d) f (on b) ≡ true → (p : ℕ) × Memᴰ p (sources v) × (leads d f p ≡ true)
  sees-before f h e = either (or_cases (eqb f (length d)) (any_of (λ p. leads d f p) (sources v)) (sym (sees_on f) ∙ e)) (λ q. let r = eqb-true f (length d) q in absurd (omega arith)) (λ q. any_elim (λ p. leads d f p) (sources v) q)

  pub unseen-before : (f : ℕ) → leads (v ∷ d) f (on b) ≡ false → (p : ℕ) → Memᴰ p (sources v) → leads d f p ≡ false
  unseen-before f e p i = cases (leads d f p) (λ q. absurd (false≢true (sym e ∙ sees_on f ∙ or_right (eqb f (length d)) _ (any_intro (λ p. leads d f p) p i q)))) (λ q. q)

-- what holds of a diagram as it is made: the revisions out, with their terminals and start vertices, are in a layout
pub record Linked (d : Diagram) (layout : List ℕ) (terminal starts : ℕ → ℕ) : Type 0 where
  pub ordered : Ordered d
  pub joins_ok : Joined d
  pub bound : (x : ℕ) → terminal x < length d
  pub small : (x n : ℕ) → n ∈ own_events d x → n < length d
  pub inv : Inv layout (contents d terminal) (may d terminal starts)
  pub past : (x : ℕ) → x < length d → Held layout (contents d terminal) (view_events d x)

-- x is b, whose terminal moves on to vertex v, and may join y through it: no source of v sees y's start, and one sees y's fork
abbrev pub Through : Diagram → (ℕ → ℕ) → (ℕ → ℕ) → Vertex → ℕ → ℕ → ℕ → Type 0
Through d terminal starts v b x y =
    (x ≡ b) × ((p : ℕ) → Memᴰ p (sources v) → leads d (starts y) p ≡ false)
    × ((p : ℕ) × Memᴰ p (sources v) × ((f : ℕ) × (fork_vertex d (terminal y) ≡ some f) × (leads d f p ≡ true)))

module _ (d : Diagram) (layout : List ℕ) (terminal starts : ℕ → ℕ) (L : Linked d layout terminal starts) (b : ℕ) (v : Vertex) (stays : fork_step d (fork_vertex d) v ≡ fork_vertex d (terminal b)) where
  abbrev pub next : ℕ → ℕ
  next = on d v terminal L.bound b

  pub from_on : (y : ℕ) → fork_vertex (v ∷ d) (next y) ≡ fork_vertex d (terminal y)
  from_on y = cases (eqb y b) (λ e. let q = eqb-true y b e in rw q (on-self d v terminal L.bound b fork_step none ∙ stays)) (λ e. on-other d v terminal L.bound b fork_step none y (eqb-false y b e))

  -- who may join after the step: one who might before, or b, through an edge to the new vertex
  pub may-next : (x y : ℕ) → May (v ∷ d) next starts x y → May d terminal starts x y ⊎ Through d terminal starts v b x y
  may-next x y h = pick (split (eqb x b))
    where
      began : fork_vertex d (terminal y) ≡ some h.at
      began = sym (from_on y) ∙ h.start_of

      pick : (eqb x b ≡ true) ⊎ (eqb x b ≡ false) → May d terminal starts x y ⊎ Through d terminal starts v b x y
      pick (inl e) =
          let q = eqb-true x b e in
          let g = sees-before d v terminal L.bound b h.at (inherited_from L.ordered (terminal y) (L.bound y) h.at began).0 (rw q at h.leads) in
          inr (q, unseen-before d v terminal L.bound b (starts y) (rw q at h.outside), (g.0, g.1, (h.at, began, g.2)))
      pick (inr e) =
          let q = eqb-false x b e in
          inl (record { outside = sym (sees-other d v terminal L.bound b (starts y) x q) ∙ h.outside; at = h.at; start_of = began; leads = sym (sees-other d v terminal L.bound b h.at x q) ∙ h.leads })

  module _ (layout' : List ℕ) (s' : Contents) (J' : ℕ → ℕ → Bool) (older : (p : ℕ) → Memᴰ p (sources v) → p < length d) (ok : JoinOk d v) (b-out : b ∈ layout')
      (b-content : s' b ≡ record { inherited = inherited_step d (inherited_events d) v; own = own_event_step d (own_events d) v }) (other : (x : ℕ) → x ∈ layout' → (x ≡ b → ⊥) → s' x ≡ contents d terminal x)
      (inv' : Inv layout' s' J') (J-ok : (x y : ℕ) → x ∈ layout' → y ∈ layout' → May (v ∷ d) next starts x y → J' x y ≡ true) (held : (w : List ℕ) → Held layout (contents d terminal) w → Held layout' s' w)
      (few : (n : ℕ) → n ∈ own_event_step d (own_events d) v → n < length (v ∷ d)) where
    same-content : (x : ℕ) → x ∈ layout' → contents (v ∷ d) next x ≡ s' x
    same-content x i =
        cases (eqb x b)
        (λ e. rw (eqb-true x b e, b-content, on-self d v terminal L.bound b inherited_step [], on-self d v terminal L.bound b own_event_step []))
        (λ e. let q = eqb-false x b e in rw (other x i q, on-other d v terminal L.bound b inherited_step [] x q, on-other d v terminal L.bound b own_event_step [] x q))

    small' : (x n : ℕ) → n ∈ own_events (v ∷ d) x → n < length (v ∷ d)
    unfolding tabulate
    small' x n i = cases (eqb x (length d)) (λ e. few n (rw e at i)) (λ e. omega (arith, L.small x n (rw e at i)))

    past' : (x : ℕ) → x < length (v ∷ d) → Held layout' (contents (v ∷ d) next) (view_events (v ∷ d) x)
    past' x h =
        cases (eqb x (length d))
        (λ e.
        let q : next b ≡ x = changed_same terminal b (length d) ∙ sym (eqb-true x (length d) e) in
        let o : Ordered (v ∷ d) = one_more older L.ordered in
        (b, b-out, rw (q, view-split o x h) (Sublistᴰ.refl _)))
        (λ e.
        let q = eqb-false x (length d) e in
        let l : x < length d = omega arith in
        held_same layout' s' (contents (v ∷ d) next) _ same-content (rw (tabulate-older view_event_step [] v d x l) (held _ (L.past x l))))

    pub advance : Linked (v ∷ d) layout' next starts
    advance = record {
      ordered = one_more older L.ordered;
      joins_ok = (ok, L.joins_ok);
      bound = on-bound d v terminal L.bound b;
      small = small';
      inv = inv_same layout' s' (contents (v ∷ d) next) J' (may (v ∷ d) next starts) inv' same-content (λ x y i k e. J-ok x y i k (may_true (v ∷ d) next starts x y e));
      past = past';
    }

-- a step with one edge, from where b was
module _ (d : Diagram) (layout : List ℕ) (terminal starts : ℕ → ℕ) (L : Linked d layout terminal starts) (b : ℕ) (v : Vertex) (stays : fork_step d (fork_vertex d) v ≡ fork_vertex d (terminal b)) (edge : sources v ≡ terminal b ∷ []) where
  pub one-edge : (p : ℕ) → Memᴰ p (sources v) → p ≡ terminal b
  one-edge p i = Memᴰ.eq_of_singleton (rw edge at i)

  pub one-older : (p : ℕ) → Memᴰ p (sources v) → p < length d
  one-older p i = rw (one-edge p i) (L.bound b)

  pub one-may : (x y : ℕ) → x ∈ layout → y ∈ layout → May (v ∷ d) (next d layout terminal starts L b v stays) starts x y → may d terminal starts x y ≡ true
  one-may x y i k h = pick (may-next d layout terminal starts L b v stays x y h)
    where
      pick : May d terminal starts x y ⊎ Through d terminal starts v b x y → may d terminal starts x y ≡ true
      pick (inl m) = true_may d terminal starts x y m
      pick (inr m) =
          let t = m.2 in
          let e : t.0 ≡ terminal x = one-edge t.0 t.1 ∙ ap terminal (sym m.0) in
          true_may d terminal starts x y (record { outside = rw e at (m.1 t.0 t.1); at = t.2.0; start_of = t.2.1; leads = rw e at t.2.2 })

-- the fork vertex
pub linked_fork : (d : Diagram) (layout : List ℕ) (terminal starts : ℕ → ℕ) → Linked d layout terminal starts → (b : ℕ) → b ∈ layout → Linked (fork (terminal b) ∷ d) layout (changed terminal b (length d)) starts
linked_fork d layout terminal starts L b i =
    advance d layout terminal starts L b v refl layout (contents d terminal) (may d terminal starts) (one-older d layout terminal starts L b v refl refl) tt i
    refl (λ x k h. refl) L.inv (one-may d layout terminal starts L b v refl refl) (λ w h. h) (λ n k. omega (arith, L.small (terminal b) n k))
  where
    v : Vertex
    v = fork (terminal b)
