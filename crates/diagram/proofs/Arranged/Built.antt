-- A diagram made by Definition 6 with the join rule has a layout: every view is an ordered sublist of one list.
use Prim.Native.Nat.{◌<◌, suc, ℕ}
use mathlib.Core.Bool.{Bool, ◌||◌, cond, false, false≢true, true}
use mathlib.Core.Path.{◌∙◌, ◌≡◌, ap, refl, subst, sym}
use mathlib.Core.Logic.{◌⊎◌, inl, inr}
use mathlib.Core.Option.{Option, none, some}
use mathlib.Core.List.Memᴰ
use mathlib.Core.List.{List, Memᴰ}
use mathlib.Core.List.Sublistᴰ
use mathlib.Core.List.{[], ◌++◌, ◌∷◌, Nodup-cons, Nodup-nil, not-mem-nil}
use native.Mathlib.Omega.{arith}
use lib.ListN.{length}
use lib.Dec.{eqb}
use borrow.Author.Tests.{eq-eqb, eqb-false, eqb-true, ne_eqb}
use Rattle.blocks.proofs.Dropping.{drop-inv, held-drop}
use Rattle.blocks.proofs.Invariant.{fork-inv, join-inv, update-inv}
use Rattle.blocks.proofs.Past.{held-grow, held-join}
use Rattle.blocks.specs.Blocks.{Contents, Held, Inv, blocks, fork_contents, grow, seen}
use Rattle.diagram.proofs.Arranged.Advance.{Through, Linked, May, advance, contents, inv_same, may, may-next, may_true, next, on}
use Rattle.diagram.proofs.Arranged.Advance.{on-bound, on-other, on-self, one-may, one-older, sees-before, sees_on, sees-other}
use Rattle.diagram.proofs.Arranged.Advance.{true_may, unseen-before}
use Rattle.diagram.proofs.Graph.Events.{inherited_from, inherited_step, own_event_step, own_events, view-split, view_event_step, view_events}
use Rattle.diagram.proofs.Graph.Paths.{Ordered, both_older, leads_path, no_vertex, one_more, path_start}
use Rattle.diagram.proofs.Graph.Tables.{fork_step, tabulate-older}
use Rattle.diagram.specs.Diagram.{Diagram, Vertex, event, fork, join, root, start}
use Rattle.diagram.specs.Leads.{leads}
use Rattle.diagram.specs.Effects.{fork_vertex, tabulate}
use Rattle.lists.proofs.Cases.{cases, either, or_left, or_right, split}
use Rattle.lists.proofs.Changed.{changed-other, changed_same}
use Rattle.lists.proofs.Places.{Place, Places, insert_at, place, places, remove_at}
use Rattle.lists.proofs.Sublists.{nodup_apart, ⊑-⊆}
use Rattle.lists.specs.Lists.{◌∈◌, ◌⊑◌, changed}
use Rattle.lists.specs.Arranged.{◌⊆◌, insert_before, remove}
use Rattle.lists.specs.Pool.{fork_pool, join_pool}

blocks_from : (s : Contents) (l : List ℕ) (n : ℕ) → n ∈ blocks s l → (x : ℕ) × (n ∈ (s x).own)
blocks_from s [] n i = absurd (Memᴰ.not-nil i)
blocks_from s (x ∷ l) n i = pick (Memᴰ.append_cases (blocks s l) i) (blocks_from s l n)
  where
    pick : (n ∈ blocks s l) ⊎ (n ∈ (s x).own) → (n ∈ blocks s l → (x : ℕ) × (n ∈ (s x).own)) → (x : ℕ) × (n ∈ (s x).own)
    pick (inl j) k = k j
    pick (inr j) k = (x, j)

-- an update: its number is its vertex's
pub linked_update : (d : Diagram) (layout : List ℕ) (terminal starts : ℕ → ℕ) → Linked d layout terminal starts → (b : ℕ) → b ∈ layout → (t : ℕ) (k : Option ℕ) → Linked (event (terminal b) t k ∷ d) layout (changed terminal b (length d)) starts
linked_update d layout terminal starts L b i t k =
    advance d layout terminal starts L b v refl layout (grow (contents d terminal) b (length d ∷ [])) (may d terminal starts) (one-older d layout terminal starts L b v refl refl) tt i
    (changed_same (contents d terminal) b _) (λ x k h. changed-other (contents d terminal) b _ x h) inv' (one-may d layout terminal starts L b v refl refl) (λ w h. held-grow layout (contents d terminal) b (length d ∷ []) w h) few
  where
    v : Vertex
    v = event (terminal b) t k

    fresh : length d ∈ blocks (contents d terminal) layout → ⊥
    fresh k = let h = blocks_from (contents d terminal) layout (length d) k in omega (arith, L.small (terminal h.0) (length d) h.1)

    inv' : Inv layout (grow (contents d terminal) b (length d ∷ [])) (may d terminal starts)
    inv' =
        let p = place b layout i in
        let j : Inv (p.above ++ (b ∷ p.below)) (contents d terminal) (may d terminal starts) = rw p.eq at L.inv in
        let f : length d ∈ blocks (contents d terminal) (p.above ++ (b ∷ p.below)) → ⊥ = rw p.eq at fresh in
        rw p.eq (update-inv p.above b p.below (contents d terminal) (may d terminal starts) (length d) j f)

    few : (n : ℕ) → n ∈ (own_events d (terminal b) ++ (length d ∷ [])) → n < length (v ∷ d)
    few n k = either (Memᴰ.append_cases (own_events d (terminal b)) k) (λ j. omega (arith, L.small (terminal b) n j)) (λ j. omega (arith, Memᴰ.eq_of_singleton j))

join-keeps : (J : ℕ → ℕ → Bool) (a b x y : ℕ) → J x y ≡ true → join_pool J a b x y ≡ true
join-keeps J a b x y h = cases (eqb x a) (λ e. rw e (or_left (J a y) (J b y) (rw (eqb-true x a e) at h))) (λ e. rw e h)

-- a join
module _ (d : Diagram) (layout : List ℕ) (terminal starts : ℕ → ℕ) (L : Linked d layout terminal starts) (a b : ℕ) (a_in : a ∈ layout) (b-in : b ∈ layout) (m : May d terminal starts a b) where
  abbrev jv : Vertex
  jv = join (terminal a) (terminal b)

  abbrev js : Contents
  js = contents d terminal

  ordered-pair : ((b ∷ a ∷ []) ⊑ layout) × ((js b).inherited ⊆ seen (js a))
  ordered-pair = L.inv.joins a b a_in b-in (true_may d terminal starts a b m)

  P : Places b a layout
  P = places b a layout ordered-pair.0

  whole : Inv (P.above ++ (b ∷ (P.between ++ (a ∷ P.below)))) js (may d terminal starts)
  whole = rw P.eq at L.inv

  rest : remove b layout ≡ P.above ++ (P.between ++ (a ∷ P.below))
  rest = ap (remove b) P.eq ∙ remove_at b P.above (P.between ++ (a ∷ P.below)) (λ i. nodup_apart P.above _ whole.distinct b i (Memᴰ.head refl))

  join-may : (x y : ℕ) → x ∈ remove b layout → y ∈ remove b layout → May (jv ∷ d) (next d layout terminal starts L a jv refl) starts x y → join_pool (may d terminal starts) a b x y ≡ true
  join-may x y i k h = pick (may-next d layout terminal starts L a jv refl x y h)
    where
      pick : May d terminal starts x y ⊎ Through d terminal starts jv a x y → join_pool (may d terminal starts) a b x y ≡ true
      pick (inl q) = join-keeps (may d terminal starts) a b x y (true_may d terminal starts x y q)
      pick (inr q) = rw (q.0, eq-eqb a a refl) (side (Memᴰ.cases_cons q.2.1))
        where
          t : (f : ℕ) × (fork_vertex d (terminal y) ≡ some f) × (leads d f q.2.0 ≡ true)
          t = q.2.2

          via : (z : ℕ) → q.2.0 ≡ terminal z → may d terminal starts z y ≡ true
          via z e = true_may d terminal starts z y (record { outside = rw e at (q.1 q.2.0 q.2.1); at = t.0; start_of = t.1; leads = subst (λ w. leads d t.0 w ≡ true) e t.2 })

          side : (q.2.0 ≡ terminal a) ⊎ Memᴰ q.2.0 (terminal b ∷ []) → (may d terminal starts a y || may d terminal starts b y) ≡ true
          side (inl e) = or_left (may d terminal starts a y) (may d terminal starts b y) (via a e)
          side (inr j) = or_right (may d terminal starts a y) (may d terminal starts b y) (via b (Memᴰ.eq_of_singleton j))

  pub linked-join : Linked (join (terminal a) (terminal b) ∷ d) (remove b layout) (changed terminal a (length d)) starts
  linked-join =
      advance d layout terminal starts L a jv refl (remove b layout) (grow js a (js b).own) (join_pool (may d terminal starts) a b)
      (both_older (length d) (terminal a) (terminal b) (L.bound a) (L.bound b)) (m.at, m.start_of, leads_path d m.at (terminal a) m.leads)
      (rw rest (Memᴰ.append_right P.above (Memᴰ.append_right P.between (Memᴰ.head refl)))) (changed_same js a _) (λ x i h. changed-other js a _ x h)
      (rw rest (join-inv P.above b P.between a P.below js (may d terminal starts) whole ordered-pair.1)) join-may held few
    where
      held : (w : List ℕ) → Held layout js w → Held (remove b layout) (grow js a (js b).own) w
      held w h = rw rest (held-join P.above b P.between a P.below js (may d terminal starts) whole ordered-pair.1 w (rw P.eq at h))

      few : (n : ℕ) → n ∈ (own_events d (terminal a) ++ own_events d (terminal b)) → n < suc (length d)
      few n k = either (Memᴰ.append_cases (own_events d (terminal a)) k) (λ j. omega (arith, L.small (terminal a) n j)) (λ j. omega (arith, L.small (terminal b) n j))

-- a fork, from the diagram in which the fork vertex is: its number is f, and b is there
module _ (d : Diagram) (layout : List ℕ) (terminal starts : ℕ → ℕ) (L : Linked d layout terminal starts) (b : ℕ) (b-in : b ∈ layout) (c : ℕ) (c-new : c ∈ layout → ⊥)
    (f : ℕ) (at_f : terminal b ≡ f) (last : suc f ≡ length d) (lone : (x : ℕ) → x ∈ layout → (x ≡ b → ⊥) → leads d f (terminal x) ≡ false) where
  abbrev sv : Vertex
  sv = start f

  abbrev starts2 : ℕ → ℕ
  starts2 = changed starts c (length d)

  abbrev t2 : ℕ → ℕ
  t2 = on d sv terminal L.bound c

  not_new : (x : ℕ) → x ∈ layout → x ≡ c → ⊥
  not_new x i e = c-new (Memᴰ.cast (sym e) i)

  FP : Place b layout
  FP = place b layout b-in

  FL : insert_before b c layout ≡ FP.above ++ (c ∷ b ∷ FP.below)
  FL = ap (insert_before b c) FP.eq ∙ insert_at b c FP.above FP.below (λ i. nodup_apart FP.above _ (rw FP.eq at L.inv.distinct) b i (Memᴰ.head refl))

  c-in : c ∈ insert_before b c layout
  c-in = rw FL (Memᴰ.append_right FP.above (Memᴰ.head refl))

  lay-in : (x : ℕ) → x ∈ layout → x ∈ insert_before b c layout
  lay-in x i = rw FL (⊑-⊆ (Sublistᴰ.append (Sublistᴰ.refl FP.above) (Sublistᴰ.cons (Sublistᴰ.refl (b ∷ FP.below)))) x (rw FP.eq at i))

  out-in : (x : ℕ) → x ∈ insert_before b c layout → (x ≡ c → ⊥) → x ∈ layout
  out-in x i n = rw FP.eq (pick (Memᴰ.append_cases FP.above (rw FL at i)))
    where
      late : (x ≡ c) ⊎ (x ∈ (b ∷ FP.below)) → x ∈ (FP.above ++ (b ∷ FP.below))
      late (inl e) = absurd (n e)
      late (inr j) = Memᴰ.append_right FP.above j

      pick : (x ∈ FP.above) ⊎ (x ∈ (c ∷ b ∷ FP.below)) → x ∈ (FP.above ++ (b ∷ FP.below))
      pick (inl j) = Memᴰ.append_left _ j
      pick (inr j) = late (Memᴰ.cases_cons j)

  fork-content : (x : ℕ) → contents (sv ∷ d) t2 x ≡ fork_contents (contents d terminal) b c x
  fork-content x =
      cases (eqb x c)
      (λ e.
      let split-b = view-split L.ordered (terminal b) (L.bound b) in
      rw (eqb-true x c e, on-self d sv terminal L.bound c inherited_step [], on-self d sv terminal L.bound c own_event_step [], changed_same (contents d terminal) c _, ← split-b, at_f))
      (λ e.
      let q = eqb-false x c e in
      rw (on-other d sv terminal L.bound c inherited_step [] x q, on-other d sv terminal L.bound c own_event_step [] x q, changed-other (contents d terminal) c _ x q))

  fork-inv' : Inv (insert_before b c layout) (fork_contents (contents d terminal) b c) (fork_pool (may d terminal starts) b c)
  fork-inv' = rw FL (fork-inv FP.above b FP.below (contents d terminal) (may d terminal starts) c (rw FP.eq at L.inv) (rw FP.eq at c-new))

  fork-may : (x y : ℕ) → x ∈ insert_before b c layout → y ∈ insert_before b c layout → May (sv ∷ d) t2 starts2 x y → fork_pool (may d terminal starts) b c x y ≡ true
  fork-may x y i k h = at_y (split (eqb y c)) (split (eqb x c))
    where
      -- where x is an older revision
      seen-old : (x ≡ c → ⊥) → (e : ℕ) → leads (sv ∷ d) e (t2 x) ≡ leads d e (terminal x)
      seen-old n e = sees-other d sv terminal L.bound c e x n

      to-c : y ≡ c → (x ≡ c → ⊥) → (eqb x b ≡ true) ⊎ (eqb x b ≡ false) → fork_pool (may d terminal starts) b c x y ≡ true
      to-c q n (inl e) = rw (q, eq-eqb c c refl) e
      to-c q n (inr e) =
          let r : f ≡ h.at = cc (on-self d sv terminal L.bound c fork_step none, h.start_of, q) in
          let s : leads d f (terminal x) ≡ true = rw r (sym (seen-old n h.at) ∙ h.leads) in
          absurd (false≢true (sym (lone x (out-in x i n) (eqb-false x b e)) ∙ s))

      -- where y is an older revision
      from_old : (y ≡ c → ⊥) → fork_vertex d (terminal y) ≡ some h.at
      from_old n = sym (on-other d sv terminal L.bound c fork_step none y n) ∙ h.start_of

      unseen : (y ≡ c → ⊥) → leads (sv ∷ d) (starts y) (t2 x) ≡ false
      unseen n = ap (λ w. leads (sv ∷ d) w (t2 x)) (sym (changed-other starts c (length d) y n)) ∙ h.outside

      by-c : x ≡ c → (y ≡ c → ⊥) → fork_pool (may d terminal starts) b c x y ≡ true
      by-c q n =
          let g = sees-before d sv terminal L.bound c h.at (inherited_from L.ordered (terminal y) (L.bound y) h.at (from_old n)).0 (rw q at h.leads) in
          let e : g.0 ≡ terminal b = Memᴰ.eq_of_singleton g.1 ∙ sym at_f in
          let u : leads d (starts y) f ≡ false = unseen-before d sv terminal L.bound c (starts y) (rw q at (unseen n)) f (Memᴰ.head refl) in
          rw (q, ne_eqb y c n, eq-eqb c c refl) (true_may d terminal starts b y (record { outside = rw at_f u; at = h.at; start_of = from_old n; leads = subst (λ w. leads d h.at w ≡ true) e g.2 }))

      at_y : (eqb y c ≡ true) ⊎ (eqb y c ≡ false) → (eqb x c ≡ true) ⊎ (eqb x c ≡ false) → fork_pool (may d terminal starts) b c x y ≡ true
      at_y (inl p) (inl q) =
          let t : leads (sv ∷ d) (starts2 c) (t2 c) ≡ false = rw (eqb-true y c p, eqb-true x c q) at h.outside in
          let u : leads (sv ∷ d) (length d) (t2 c) ≡ false = rw (changed_same starts c (length d)) at t in
          absurd (false≢true (sym u ∙ sees_on d sv terminal L.bound c (length d) ∙ or_left (eqb (length d) (length d)) _ (eq-eqb (length d) (length d) refl)))
      at_y (inl p) (inr q) = to-c (eqb-true y c p) (eqb-false x c q) (split (eqb x b))
      at_y (inr p) (inl q) = by-c (eqb-true x c q) (eqb-false y c p)
      at_y (inr p) (inr q) =
          let n = eqb-false x c q in
          let o = eqb-false y c p in
          rw (p, q) (true_may d terminal starts x y (record { outside = sym (seen-old n (starts y)) ∙ unseen o; at = h.at; start_of = from_old o; leads = sym (seen-old n h.at) ∙ h.leads }))

  start-inv : Inv (insert_before b c layout) (contents (sv ∷ d) t2) (may (sv ∷ d) t2 starts2)
  start-inv =
      inv_same (insert_before b c layout) (fork_contents (contents d terminal) b c) (contents (sv ∷ d) t2) (fork_pool (may d terminal starts) b c) (may (sv ∷ d) t2 starts2) fork-inv'
      (λ x i. fork-content x)
      (λ x y i k e. fork-may x y i k (may_true (sv ∷ d) t2 starts2 x y e))

  start-older : (p : ℕ) → Memᴰ p (f ∷ []) → p < length d
  start-older p i = omega (arith, Memᴰ.eq_of_singleton i)

  start_small : (x n : ℕ) → n ∈ own_events (sv ∷ d) x → n < length (sv ∷ d)
  unfolding tabulate
  start_small x n i = cases (eqb x (length d)) (λ e. absurd (Memᴰ.not-nil (rw e at i))) (λ e. omega (arith, L.small x n (rw e at i)))

  start-past : (x : ℕ) → x < length (sv ∷ d) → Held (insert_before b c layout) (contents (sv ∷ d) t2) (view_events (sv ∷ d) x)
  start-past x h =
      cases (eqb x (length d))
      (λ e.
      let q : t2 c ≡ x = changed_same terminal c (length d) ∙ sym (eqb-true x (length d) e) in
      let o : Ordered (sv ∷ d) = one_more {v = sv} start-older L.ordered in
      (c, c-in, rw (q, view-split o x h) (Sublistᴰ.refl _)))
      (λ e.
      let q = eqb-false x (length d) e in
      let l : x < length d = omega arith in
      let w = L.past x l in
      let u : contents (sv ∷ d) t2 w.0 ≡ contents d terminal w.0 = fork-content w.0 ∙ changed-other (contents d terminal) c _ w.0 (not_new w.0 w.1) in
      (w.0, lay-in w.0 w.1, rw (tabulate-older view_event_step [] sv d x l) (subst (λ z. view_events d x ⊑ seen z) (sym u) w.2)))

  pub linked-start : Linked (start f ∷ d) (insert_before b c layout) (changed terminal c (length d)) (changed starts c (length d))
  linked-start = record {
    ordered = one_more {v = sv} start-older L.ordered;
    joins_ok = (tt, L.joins_ok);
    bound = on-bound d sv terminal L.bound c;
    small = start_small;
    inv = start-inv;
    past = start-past;
  }

-- a revision with nothing of its own leaves: no vertex is added
pub linked_drop : (d : Diagram) (layout : List ℕ) (terminal starts : ℕ → ℕ) → Linked d layout terminal starts
    → (b : ℕ) {m : ℕ} → (b ∷ m ∷ []) ⊑ layout → own_events d (terminal b) ≡ [] → Linked d (remove b layout) terminal starts
linked_drop d layout terminal starts L b {m} pair empty = record {
  ordered = L.ordered;
  joins_ok = L.joins_ok;
  bound = L.bound;
  small = L.small;
  inv = rw rest (drop-inv P.above b left s J whole empty m m-in);
  past = λ x h. rw rest (held-drop P.above b left s J whole empty m m-in (view_events d x) (rw P.eq at (L.past x h)));
}
  where
    s : Contents
    s = contents d terminal

    J : ℕ → ℕ → Bool
    J = may d terminal starts

    P : Places b m layout
    P = places b m layout pair

    left : List ℕ
    left = P.between ++ (m ∷ P.below)

    m-in : m ∈ left
    m-in = Memᴰ.append_right P.between (Memᴰ.head refl)

    whole : Inv (P.above ++ (b ∷ left)) s J
    whole = rw P.eq at L.inv

    rest : remove b layout ≡ P.above ++ left
    rest = ap (remove b) P.eq ∙ remove_at b P.above left (λ i. nodup_apart P.above _ whole.distinct b i (Memᴰ.head refl))

pub linked_root : Linked (root ∷ []) (0 ∷ []) (λ x. 0) (λ x. 0)
unfolding tabulate
linked_root = record {
  ordered = one_more {v = root} (λ p i. absurd (Memᴰ.not-nil i)) no_vertex;
  joins_ok = (tt, tt);
  bound = λ x. omega arith;
  small = λ x n i. absurd (Memᴰ.not-nil (rw (nothing-own x) at i));
  inv = record {
    distinct = Nodup-cons.1 (not-mem-nil, Nodup-nil);
    once = Nodup-nil;
    good = (record { under = Sublistᴰ.slnil; forked = inl refl }, tt);
    joins = λ a b i k e. absurd (false≢true (sym (nobody (leads (root ∷ []) 0 0)) ∙ e));
  };
  past = λ x h. let e : x ≡ 0 = omega arith in (0, Memᴰ.head refl, rw e Sublistᴰ.slnil);
}
  where
    nothing-own : (x : ℕ) → own_events (root ∷ []) x ≡ []
    nothing-own x = cases (eqb x 0) (λ e. rw e) (λ e. rw e)

    nobody : (t : Bool) → cond t false false ≡ false
    nobody true = refl
    nobody false = refl

-- of the fork vertex nobody but the forker has seen anything
pub lone : (d : Diagram) (layout : List ℕ) (terminal starts : ℕ → ℕ) (L : Linked d layout terminal starts) (b x : ℕ) → x ∈ layout → (x ≡ b → ⊥) → leads (fork (terminal b) ∷ d) (length d) (changed terminal b (length d) x) ≡ false
lone d layout terminal starts L b x i n = sees-other d (fork (terminal b)) terminal L.bound b (length d) x n ∙ cases (leads d (length d) (terminal x)) (λ e. absurd (omega (arith, path_start (leads_path d (length d) (terminal x) e)))) (λ e. e)
