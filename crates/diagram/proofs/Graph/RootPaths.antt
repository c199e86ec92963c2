-- Every vertex of a constructed diagram has its root-path and its revision's path, and the effects along them are its view and its own.
use Prim.Native.Nat.{◌<◌, ℕ}
use mathlib.Core.Path.{◌∙◌, ◌≡◌, ap, refl, sym}
use mathlib.Core.Option.{Option}
use mathlib.Core.List.Memᴰ
use mathlib.Core.List.{List, Memᴰ, [], ◌++◌, ◌∷◌, append-nil}
use native.Mathlib.Omega.{arith}
use lib.ListN.{length}
use lib.Dec.{eqb}
use borrow.Author.Tests.{eqb-false, eqb-true}
use Rattle.lists.proofs.Blocks.{flat-++, flat_same}
use Rattle.lists.proofs.Cases.{cases, either}
use Rattle.lists.specs.Lists.{◌∈◌, flat}
use Rattle.diagram.proofs.Graph.Paths.{Ordered, both_older, edge_bounds, no_vertex, one_more}
use Rattle.diagram.proofs.Graph.Tables.{start_step, tabulate-newest, tabulate-older}
use Rattle.diagram.specs.Construction.{Constructed, entered, forked, joined, rooted}
use Rattle.diagram.specs.Diagram.{Diagram, Edge, Vertex, event, fork, join, newest, older, root, s_sources, sources, start}
use Rattle.diagram.specs.Effects.{start_vertex}
use Rattle.diagram.specs.Views.{own, own_step, view, view_step}
use Rattle.diagram.specs.RootPaths.{Composed, Trail, alone, effect, effect_step, onward, sf_sources}

edge-low : {from : Vertex → List ℕ} {x y : ℕ} {d : Diagram} → Edge from x y d → y < length d
edge-low (newest e m) = omega arith
edge-low (older e) = let h = edge-low e in omega arith

-- the vertices of a trail are vertices of the diagram, and it stays a trail when the diagram grows
trail_low : {d : Diagram} {from : Vertex → List ℕ} {a x : ℕ} {xs : List ℕ} → Trail d from a x xs → (n : ℕ) → n ∈ xs → n < length d
trail_low (alone h) n i = let e = Memᴰ.eq_of_singleton i in omega arith
trail_low (onward {xs = xs} t e) n i = either (Memᴰ.append_cases xs i) (λ j. trail_low t n j) (λ j. let q = Memᴰ.eq_of_singleton j in let h = edge-low e in omega arith)

trail_older : {v : Vertex} {d : Diagram} {from : Vertex → List ℕ} {a x : ℕ} {xs : List ℕ} → Trail d from a x xs → Trail (v ∷ d) from a x xs
trail_older (alone h) = alone (omega arith)
trail_older (onward t e) = onward (trail_older t) (older e)

-- edges without those of joins are edges, so a trail to an older vertex is one of the older diagram
sf_in : (v : Vertex) (x : ℕ) → Memᴰ x (sf_sources v) → Memᴰ x (sources v)
sf_in root x i = i
sf_in (start f) x i = i
sf_in (event p c u) x i = i
sf_in (fork p) x i = i
sf_in (join p q) x (Memᴰ.head e) = Memᴰ.head e
sf_in (join p q) x (Memᴰ.tail i) = absurd (Memᴰ.not-nil i)

edge_in : {x y : ℕ} {d : Diagram} → Edge sf_sources x y d → Edge sources x y d
edge_in (newest {v} e i) = newest e (sf_in v _ i)
edge_in (older e) = older (edge_in e)

trail_back : {v : Vertex} {d : Diagram} {a x : ℕ} {xs : List ℕ} → Ordered d → Trail (v ∷ d) sf_sources a x xs → x < length d → Trail d sf_sources a x xs
trail_back o (alone h) l = alone l
trail_back o (onward t (newest q i)) l = absurd (omega arith)
trail_back o (onward t (older e)) l = let b = edge_bounds o (edge_in e) in onward (trail_back o t (omega arith)) e

-- to the newest vertex there is one trail from the root, if there is one to its only source
only_newest : (v : Vertex) {d : Diagram} (p : ℕ) (path : List ℕ) → Ordered d → p < length d → ((x : ℕ) → Memᴰ x (sf_sources v) → x ≡ p) → ((ys : List ℕ) → Trail d sf_sources 0 p ys → ys ≡ path)
    → {y : ℕ} → y ≡ length d → {xs : List ℕ} → Trail (v ∷ d) sf_sources 0 y xs → xs ≡ path ++ (y ∷ [])
only_newest v p path o l one only e (alone h) = absurd (omega arith)
only_newest v p path o l one only e (onward {x} {y} {xs} t (newest q i)) = let z = one x i in ap (λ zs. zs ++ (y ∷ [])) (only xs (rw z at (trail_back o t (omega arith))))
only_newest v p path o l one only e (onward t (older e')) = let b = edge-low e' in absurd (omega arith)

-- so its effects stay too
effects_stay : (v : Vertex) {d : Diagram} {from : Vertex → List ℕ} {a x : ℕ} {xs : List ℕ} → Trail d from a x xs → flat (effect (v ∷ d)) xs ≡ flat (effect d) xs
effects_stay v {d} {xs = xs} t = flat_same (effect (v ∷ d)) (effect d) xs (λ n i. tabulate-older effect_step [] v d n (trail_low t n i))

-- one vertex more on a trail
effects_more : (v : Vertex) {d : Diagram} {from : Vertex → List ℕ} {a x : ℕ} {xs : List ℕ} → Trail d from a x xs
    → flat (effect (v ∷ d)) (xs ++ (length d ∷ [])) ≡ flat (effect d) xs ++ effect_step d (effect d) v
effects_more v {d} {xs = xs} t =
    flat-++ (effect (v ∷ d)) xs (length d ∷ [])
    ∙ ap (λ l. l ++ flat (effect (v ∷ d)) (length d ∷ [])) (effects_stay v t)
    ∙ ap (λ l. flat (effect d) xs ++ l) (append-nil (effect (v ∷ d) (length d)) ∙ tabulate-newest effect_step [] v d)

-- an older vertex, when the diagram grows
keeps : (v : Vertex) {d : Diagram} → Ordered d → (x : ℕ) → x < length d → Composed d x → Composed (v ∷ d) x
keeps v {d} o x h C = record {
  root_path = C.root_path;
  from_root = trail_older C.from_root;
  only_root = λ xs t. C.only_root xs (trail_back o t h);
  view_is = tabulate-older view_step [] v d x h ∙ C.view_is ∙ sym (effects_stay v C.from_root);
  revision_path = C.revision_path;
  from_start = rw (tabulate-older start_step 0 v d x h) (trail_older C.from_start);
  own_is = tabulate-older own_step [] v d x h ∙ C.own_is ∙ sym (effects_stay v C.from_start);
}

-- the newest vertex after p on its revision
module _ (v : Vertex) {d : Diagram} (o : Ordered d) (p : ℕ) (low : p < length d) (C : Composed d p) (edge : Memᴰ p (s_sources v)) (edge-sf : Memᴰ p (sf_sources v))
    (one : (x : ℕ) → Memᴰ x (sf_sources v) → x ≡ p)
    (starts : start_step d (start_vertex d) v ≡ start_vertex d p) (views : view_step d (view d) v ≡ view d p ++ effect_step d (effect d) v)
    (owns : own_step d (own d) v ≡ own d p ++ effect_step d (effect d) v) where
  next : Composed (v ∷ d) (length d)
  next = record {
    root_path = C.root_path ++ (length d ∷ []);
    from_root = onward (trail_older C.from_root) (newest refl edge-sf);
    only_root = λ xs t. only_newest v p C.root_path o low one C.only_root refl t;
    view_is = tabulate-newest view_step [] v d ∙ views ∙ ap (λ l. l ++ effect_step d (effect d) v) C.view_is ∙ sym (effects_more v C.from_root);
    revision_path = C.revision_path ++ (length d ∷ []);
    from_start = rw (tabulate-newest start_step 0 v d ∙ starts) (onward (trail_older C.from_start) (newest refl edge));
    own_is = tabulate-newest own_step [] v d ∙ owns ∙ ap (λ l. l ++ effect_step d (effect d) v) C.own_is ∙ sym (effects_more v C.from_start);
  }

-- a start vertex, after its fork vertex
begins : {d : Diagram} → Ordered d → (p : ℕ) → p < length d → Composed d p → Composed (start p ∷ d) (length d)
begins {d} o p low C = record {
  root_path = C.root_path ++ (length d ∷ []);
  from_root = onward (trail_older C.from_root) (newest refl (Memᴰ.head refl));
  only_root = λ xs t. only_newest (start p) p C.root_path o low (λ x i. Memᴰ.eq_of_singleton i) C.only_root refl t;
  view_is = tabulate-newest view_step [] (start p) d ∙ sym (append-nil (view d p)) ∙ ap (λ l. l ++ []) C.view_is ∙ sym (effects_more (start p) C.from_root);
  revision_path = length d ∷ [];
  from_start = rw (tabulate-newest start_step 0 (start p) d) (alone (omega arith));
  own_is = tabulate-newest own_step [] (start p) d ∙ sym (append-nil (effect (start p ∷ d) (length d)) ∙ tabulate-newest effect_step [] (start p) d);
}

-- any vertex, from the newest and the older ones
every : (v : Vertex) {d : Diagram} → Ordered d → ((x : ℕ) → x < length d → Composed d x) → Composed (v ∷ d) (length d) → (x : ℕ) → x < length (v ∷ d) → Composed (v ∷ d) x
every v {d} o old new x h =
    cases (eqb x (length d))
    (λ e. rw (eqb-true x (length d) e) new)
    (λ e. let q = eqb-false x (length d) e in let l : x < length d = omega arith in keeps v o x l (old x l))

one_source : (p : ℕ) → Memᴰ p (p ∷ [])
one_source p = Memᴰ.head refl

after_event : {d : Diagram} → Ordered d → (t c : ℕ) (u : Option ℕ) → t < length d → Composed d t → Composed (event t c u ∷ d) (length d)
after_event o t c u l C = next (event t c u) o t l C (one_source t) (one_source t) (λ x i. Memᴰ.eq_of_singleton i) refl refl refl

after_fork : {d : Diagram} → Ordered d → (t : ℕ) → t < length d → Composed d t → Composed (fork t ∷ d) (length d)
after_fork {d} o t l C = next (fork t) o t l C (one_source t) (one_source t) (λ x i. Memᴰ.eq_of_singleton i) refl (sym (append-nil (view d t))) (sym (append-nil (own d t)))

after-join : {d : Diagram} → Ordered d → (t q : ℕ) → t < length d → Composed d t → Composed (join t q ∷ d) (length d)
after-join o t q l C = next (join t q) o t l C (one_source t) (one_source t) (λ x i. Memᴰ.eq_of_singleton i) refl refl refl

only-alone : {y : ℕ} {xs : List ℕ} → Trail (root ∷ []) sf_sources 0 y xs → xs ≡ 0 ∷ []
only-alone {y = y} (onward {xs = xs} t (older x8)) = elim x8 [ ]
only-alone (alone h) = refl
only-alone (onward t (newest q i)) = absurd (Memᴰ.not-nil i)

the_root : Composed (root ∷ []) 0
the_root = record {
  root_path = 0 ∷ [];
  from_root = alone (omega arith);
  only_root = λ xs t. only-alone t;
  view_is = tabulate-newest view_step [] root [] ∙ sym (append-nil (effect (root ∷ []) 0) ∙ tabulate-newest effect_step [] root []);
  revision_path = 0 ∷ [];
  from_start = rw (tabulate-newest start_step 0 root []) (alone (omega arith));
  own_is = tabulate-newest own_step [] root [] ∙ sym (append-nil (effect (root ∷ []) 0) ∙ tabulate-newest effect_step [] root []);
}

only_older : (d : Diagram) (t : ℕ) → t < length d → (p : ℕ) → Memᴰ p (t ∷ []) → p < length d
only_older d t h p i = let e = Memᴰ.eq_of_singleton i in omega arith

-- every edge of a constructed diagram goes from an older vertex to a newer one
pub in_order : {d : Diagram} → Constructed d → Ordered d
in_order rooted = one_more {d = []} (λ p i. absurd (Memᴰ.not-nil i)) no_vertex
in_order (entered {d} {t} C T c u) = one_more {d = d} (only_older d t T.vertex) (in_order C)
in_order (forked {d} {t} C T) = one_more {d = fork t ∷ d} (only_older (fork t ∷ d) (length d) (omega arith)) (one_more {d = d} (only_older d t T.vertex) (in_order C))
in_order (joined {d} {t} {t'} C T T' J) = one_more {d = d} (both_older (length d) t t' T.vertex T'.vertex) (in_order C)

pub composed_at : {d : Diagram} → Constructed d → (x : ℕ) → x < length d → Composed d x
composed_at rooted = λ x h. let e : x ≡ 0 = omega arith in rw e the_root
composed_at (entered {t = t} C T c u) = let o = in_order C in every (event t c u) o (composed_at C) (after_event o t c u T.vertex (composed_at C t T.vertex))
composed_at (forked {d} {t} C T) =
    let o = in_order C in
    let forks : Ordered (fork t ∷ d) = one_more {d = d} (only_older d t T.vertex) o in
    let first = every (fork t) o (composed_at C) (after_fork o t T.vertex (composed_at C t T.vertex)) in
    every (start (length d)) forks first (begins forks (length d) (omega arith) (first (length d) (omega arith)))
composed_at (joined {t = t} {t' = t'} C T T' J) = let o = in_order C in every (join t t') o (composed_at C) (after-join o t t' T.vertex (composed_at C t T.vertex))
