-- The test `leads` decides `HasPath`; paths compose; and what leads to the newest vertex.
use Prim.Native.Nat.{◌<◌, ◌≤◌, ℕ}
use mathlib.Core.Bool.{Bool, ◌||◌, false, false≢true, true}
use mathlib.Core.Path.{◌∙◌, ◌≡◌, ap, refl, subst, sym}
use mathlib.Core.Logic.{◌↔◌, ◌⊎◌, inl, inr}
use mathlib.Core.List.Memᴰ
use mathlib.Core.List.{List, Memᴰ, [], ◌∷◌}
use native.Mathlib.Omega.{arith}
use lib.ListN.{length}
use lib.Dec.{eqb}
use borrow.Author.Tests.{eq-eqb, eqb-false, eqb-true, ne_eqb}
use Rattle.diagram.specs.Diagram.{Diagram, Edge, HasPath, Vertex, go, newest, older, sources, stay}
use Rattle.diagram.specs.Leads.{any_of, leads}
use Rattle.lists.proofs.Cases.{cases, either, or_cases, or_left, or_right, split}

-- every edge goes from an older vertex to a newer one
pub data Ordered : Diagram → Type 0 where
  no_vertex : Ordered []
  one_more : {v : Vertex} {d : Diagram} → ((p : ℕ) → Memᴰ p (sources v) → p < length d) → Ordered d → Ordered (v ∷ d)

pub any_intro : (f : ℕ → Bool) (p : ℕ) {ps : List ℕ} → Memᴰ p ps → f p ≡ true → any_of f ps ≡ true
any_intro f p (Memᴰ.head {x = q} {xs = ps} e) h = or_left (f q) (any_of f ps) (subst (λ k. f k ≡ true) e h)
any_intro f p (Memᴰ.tail {x = q} {xs = ps} m) h = or_right (f q) (any_of f ps) (any_intro f p m h)

pub any_elim : (f : ℕ → Bool) (ps : List ℕ) → any_of f ps ≡ true → (p : ℕ) × Memᴰ p ps × (f p ≡ true)
any_elim f [] h = absurd (false≢true h)
any_elim f (q ∷ ps) h = pick (or_cases (f q) (any_of f ps) h) (any_elim f ps)
  where
    pick : (f q ≡ true) ⊎ (any_of f ps ≡ true) → (any_of f ps ≡ true → (p : ℕ) × Memᴰ p ps × (f p ≡ true)) → (p : ℕ) × Memᴰ p (q ∷ ps) × (f p ≡ true)
    pick (inl e) k = (q, Memᴰ.head refl, e)
    pick (inr e) k = let r = k e in (r.0, Memᴰ.tail r.1, r.2)

pub leads_new : (v : Vertex) (d : Diagram) (x y : ℕ) → y ≡ length d → leads (v ∷ d) x y ≡ (eqb x y || any_of (λ p. leads d x p) (sources v))
unfolding leads
leads_new v d x y e = rw (eq-eqb y (length d) e)

pub leads_old : (v : Vertex) (d : Diagram) (x y : ℕ) → y < length d → leads (v ∷ d) x y ≡ leads d x y
unfolding leads
leads_old v d x y h = rw (ne_eqb y (length d) (λ e. omega arith))

-- the two sources of a join are older
pub both_older : (n p q : ℕ) → p < n → q < n → (x : ℕ) → Memᴰ x (p ∷ q ∷ []) → x < n
both_older n p q h k x (Memᴰ.head e) = rw e h
both_older n p q h k x (Memᴰ.tail i) = rw (Memᴰ.eq_of_singleton i) k

pub edge_bounds : {x y : ℕ} {d : Diagram} → Ordered d → Edge sources x y d → (x < y) × (y < length d)
edge_bounds {y = y} no_vertex x4 = elim x4 [ ]
edge_bounds (one_more f o) (newest e m) = let h = f _ m in (omega arith, omega arith)
edge_bounds (one_more f o) (older m) = let h = edge_bounds o m in (h.0, omega arith)

pub path_bound : {d : Diagram} {x y : ℕ} → Ordered d → HasPath d x y → y < length d
path_bound o (stay e h) = omega arith
path_bound o (go p e) = (edge_bounds o e).1

pub path_older : {v : Vertex} {d : Diagram} {x y : ℕ} → HasPath d x y → HasPath (v ∷ d) x y
path_older (stay e h) = stay e (omega arith)
path_older (go p e) = go (path_older p) (older e)

pub leads_path : (d : Diagram) (x y : ℕ) → leads d x y ≡ true → HasPath d x y
unfolding leads
leads_path [] x y h = absurd (false≢true h)
leads_path (v ∷ d) x y h = pick (split (eqb y (length d))) (leads_path d x)
  where
    edge : y ≡ length d → ((p : ℕ) → leads d x p ≡ true → HasPath d x p) → (eqb x y ≡ true) ⊎ (any_of (λ p. leads d x p) (sources v) ≡ true) → HasPath (v ∷ d) x y
    edge e k (inl q) = let r = eqb-true x y q in stay r (omega arith)
    edge e k (inr q) = let r = any_elim (λ p. leads d x p) (sources v) q in go (path_older (k r.0 r.2)) (newest e r.1)

    pick : (eqb y (length d) ≡ true) ⊎ (eqb y (length d) ≡ false) → ((p : ℕ) → leads d x p ≡ true → HasPath d x p) → HasPath (v ∷ d) x y
    pick (inl e) k = edge (eqb-true y (length d) e) k (or_cases (eqb x y) (any_of (λ p. leads d x p) (sources v)) (rw e at h))
    pick (inr e) k = path_older (k y (rw e at h))

pub leads-self : (d : Diagram) (x : ℕ) → x < length d → leads d x x ≡ true
leads-self [] x h = absurd (omega arith)
leads-self (v ∷ d) x h = pick (split (eqb x (length d))) (leads-self d x)
  where
    pick : (eqb x (length d) ≡ true) ⊎ (eqb x (length d) ≡ false) → (x < length d → leads d x x ≡ true) → leads (v ∷ d) x x ≡ true
    pick (inl e) k = let q = eqb-true x (length d) e in leads_new v d x x q ∙ or_left _ _ (eq-eqb x x refl)
    pick (inr e) k = let q = eqb-false x (length d) e in let l : x < length d = omega arith in leads_old v d x x l ∙ k l

leads-edge : {y z : ℕ} {d : Diagram} (x : ℕ) → Ordered d → Edge sources y z d → leads d x y ≡ true → leads d x z ≡ true
leads-edge {y = y} {z = z} x no_vertex x8 h = elim x8 [ ]
leads-edge {y} {z} x (one_more {v} {d} f o) (newest e m) h = leads_new v d x z e ∙ or_right (eqb x z) _ (any_intro (λ p. leads d x p) y m (sym (leads_old v d x y (f y m)) ∙ h))
leads-edge {y} {z} x (one_more {v} {d} f o) (older m) h =
    let b = edge_bounds o m in
    leads_old v d x z b.1 ∙ leads-edge x o m (sym (leads_old v d x y (omega arith)) ∙ h)

pub path_leads : {d : Diagram} {x y : ℕ} → Ordered d → HasPath d x y → leads d x y ≡ true
path_leads {d} {x} o (stay e h) = rw (← e) (leads-self d x h)
path_leads {d} {x} o (go p e) = leads-edge x o e (path_leads o p)

pub leads_iff_path : (d : Diagram) (x y : ℕ) → Ordered d → (leads d x y ≡ true) ↔ HasPath d x y
leads_iff_path d x y o = (leads_path d x y, path_leads o)

pub path_start : {d : Diagram} {x y : ℕ} → HasPath d x y → x < length d
path_start (stay e h) = h
path_start (go p e) = path_start p

pub path_trans : {d : Diagram} {x y z : ℕ} → HasPath d x y → HasPath d y z → HasPath d x z
path_trans {d} {x} p (stay e h) = subst (λ k. HasPath d x k) e p
path_trans p (go q e) = go (path_trans p q) e

pub leads_trans : {d : Diagram} → Ordered d → (x y z : ℕ) → leads d x y ≡ true → leads d y z ≡ true → leads d x z ≡ true
leads_trans {d} o x y z a b = path_leads o (path_trans (leads_path d x y a) (leads_path d y z b))

pub leads-start : (d : Diagram) (x y : ℕ) → leads d x y ≡ true → x < length d
leads-start d x y e = path_start (leads_path d x y e)

-- the newest vertex
pub leads_up : (v : Vertex) (d : Diagram) (x p : ℕ) → Memᴰ p (sources v) → leads d x p ≡ true → leads (v ∷ d) x (length d) ≡ true
leads_up v d x p i e = leads_new v d x (length d) refl ∙ or_right (eqb x (length d)) _ (any_intro (λ q. leads d x q) p i e)

pub leads_down : (v : Vertex) (d : Diagram) (x : ℕ) → x < length d → leads (v ∷ d) x (length d) ≡ true → (p : ℕ) × Memᴰ p (sources v) × (leads d x p ≡ true)
leads_down v d x h e =
    either (or_cases (eqb x (length d)) (any_of (λ q. leads d x q) (sources v)) (sym (leads_new v d x (length d) refl) ∙ e))
    (λ q. let r = eqb-true x (length d) q in absurd (omega arith))
    (λ q. any_elim (λ q. leads d x q) (sources v) q)

pub leads_newest : (v : Vertex) (d : Diagram) → leads (v ∷ d) (length d) (length d) ≡ true
leads_newest v d = leads_new v d (length d) (length d) refl ∙ or_left _ _ (eq-eqb (length d) (length d) refl)

pub leads_to_newest : (v : Vertex) (d : Diagram) (l : ℕ) → l < length d → leads (v ∷ d) l (length d) ≡ any_of (λ p. leads d l p) (sources v)
leads_to_newest v d l h = leads_new v d l (length d) refl ∙ ap (λ b. b || any_of (λ p. leads d l p) (sources v)) (ne_eqb l (length d) (λ e. omega arith))

pub leads_from_newer : (d : Diagram) (l x : ℕ) → length d ≤ l → leads d l x ≡ false
leads_from_newer d l x h = cases (leads d l x) (λ e. absurd (omega (arith, leads-start d l x e))) (λ e. e)
