-- What is listed behind what an earlier vertex listed is what is seen since: the own updates of a revision are those that its terminal sees and its
-- start vertex does not.
use Prim.Native.Nat.{◌<◌, ℕ}
use mathlib.Core.Bool.{true}
use mathlib.Core.Path.{◌∙◌, ◌≡◌, ap, refl, subst, sym}
use mathlib.Core.Logic.{◌↔◌}
use mathlib.Core.Option.{Option, none, some}
use mathlib.Core.List.Memᴰ
use mathlib.Core.List.Nodup
use mathlib.Core.List.{List, Memᴰ, Nodup, [], ◌++◌, ◌∷◌, append-nil}
use native.Mathlib.Omega.{arith}
use lib.ListN.{length}
use Rattle.blocks.proofs.Past.{held-order}
use Rattle.diagram.proofs.Arranged.Advance.{Linked, contents, may}
use Rattle.diagram.proofs.Graph.Events.{inherited_events, inherited_step, own_events, view-split, view_event_step, view_events}
use Rattle.diagram.proofs.Graph.Paths.{Ordered, path_start}
use Rattle.diagram.proofs.Graph.Tables.{by_vertex, number_step, start_step, tabulate-newest, tabulate-older}
use Rattle.diagram.proofs.Graph.Visible.{view-numbers, view_paths, visible}
use Rattle.diagram.proofs.Order.Constructed.{made-run}
use Rattle.diagram.proofs.Order.Inherited.{entry_is, numbers_nodup}
use Rattle.diagram.proofs.Order.Numbered.{number_event, one}
use Rattle.diagram.proofs.Order.Growth.{Older, tabulate_stays}
use Rattle.diagram.proofs.Order.Runs.{accepted_first, accepted-more, accepted_rest, fine_run, numbered-run, older_from, run-append, run_step}
use Rattle.diagram.specs.Counts.{OwnUpdates, SeenSince}
use Rattle.diagram.specs.Day.{IsOut}
use Rattle.diagram.specs.Diagram.{Diagram, HasPath, Vertex, event, fork, join, root, sources, start}
use Rattle.diagram.specs.Effects.{entry, number, start_vertex}
use Rattle.diagram.specs.Views.{own, view, view_step}
use Rattle.diagram.specs.Steps.{Fork, Join, Step, after, run}
use Rattle.diagram.specs.Accepted.{Accepted, accepted}
use Rattle.lists.proofs.Blocks.{flat-++, flat_from, flat_in}
use Rattle.lists.proofs.Cases.{either}
use Rattle.lists.proofs.Changed.{changed_same}
use Rattle.lists.specs.Names.{Name}
use Rattle.lists.proofs.Sublists.{nodup_apart}
use Rattle.lists.specs.Lists.{◌∈◌, changed}

-- a revision began with what its start vertex sees
abbrev Began : Diagram → ℕ → Type 0
Began d x = (start_vertex d x < length d) × (inherited_events d x ≡ view_events d (start_vertex d x))

began : {d : Diagram} → Ordered d → (x : ℕ) → x < length d → Began d x
began = by_vertex Began new old
  where
    -- where the revision goes on from p
    on : (v : Vertex) (d : Diagram) (p : ℕ) → start_step d (start_vertex d) v ≡ start_vertex d p → inherited_step d (inherited_events d) v ≡ inherited_events d p → Began d p → Began (v ∷ d) (length d)
    on v d p s i (b, e) = rw (tabulate-newest start_step 0 v d, tabulate-newest inherited_step [] v d, s, i) (omega arith, rw (tabulate-older view_event_step [] v d (start_vertex d p) b) e)

    new : (v : Vertex) (d : Diagram) → ((p : ℕ) → Memᴰ p (sources v) → p < length d) → ((p : ℕ) → p < length d → Began d p) → Began (v ∷ d) (length d)
    new root d f k = rw (tabulate-newest start_step 0 root d, tabulate-newest inherited_step [] root d) (omega arith, sym (tabulate-newest view_event_step [] root d))
    new (start p) d f k = rw (tabulate-newest start_step 0 (start p) d, tabulate-newest inherited_step [] (start p) d) (omega arith, sym (tabulate-newest view_event_step [] (start p) d))
    new (event p c u) d f k = on (event p c u) d p refl refl (k p (f p (Memᴰ.head refl)))
    new (fork p) d f k = on (fork p) d p refl refl (k p (f p (Memᴰ.head refl)))
    new (join p q) d f k = on (join p q) d p refl refl (k p (f p (Memᴰ.head refl)))

    old : (v : Vertex) (d : Diagram) (x : ℕ) → x < length d → Began d x → Began (v ∷ d) x
    old v d x h (b, e) = rw (tabulate-older start_step 0 v d x h, tabulate-older inherited_step [] v d x h) (omega arith, rw (tabulate-older view_event_step [] v d (start_vertex d x) b) e)

module _ (ss : List Step) (A : Accepted ss) (x : ℕ) (h : x < length (run ss).diagram) where
  abbrev d : Diagram
  d = (run ss).diagram

  L : Linked d (fine_run ss A).layout (run ss).terminal (run ss).start_of
  L = (fine_run ss A).sound.real.linked

  -- what a vertex shows are the updates that it sees, each once
  pub seen : (k : ℕ) → (k ∈ view d x) ↔ ((e : ℕ) × (number d e ≡ some k) × HasPath d e x)
  seen k = (there, back)
    where
      there : k ∈ view d x → (e : ℕ) × (number d e ≡ some k) × HasPath d e x
      there i =
          let e = flat_from (λ e. entry (number d e)) k (view_events d x) (rw (view-numbers L.ordered x h).1 at i) in
          (e.0, entry_is (number d e.0) k e.2, ((view_paths L.ordered x h).1 e.0 e.1).1)

      back : (e : ℕ) × (number d e ≡ some k) × HasPath d e x → k ∈ view d x
      back (e, q, p) = rw (view-numbers L.ordered x h).1 (flat_in (λ e. entry (number d e)) e k (view_events d x) ((visible L.ordered L.joins_ok e x h).1 (number_event d e k q, p)) (rw q (Memᴰ.head refl)))

  events-once : Nodup (view_events d x)
  events-once = Nodup.sublist ∣ held-order (fine_run ss A).layout (contents d (run ss).terminal) (may d (run ss).terminal (run ss).start_of) (view_events d x) L.inv (L.past x h) ∣₁ L.inv.once

  seen-once : Nodup (view d x)
  seen-once = rw (view-numbers L.ordered x h).1 (numbers_nodup d (run ss).updates (view_events d x) (numbered-run ss A) events-once)

  -- what a revision shows is what its start showed, and then its own
  started : view d x ≡ view d (start_vertex d x) ++ own d x
  started =
      let o = L.ordered in
      let S = began o x h in
      rw ((view-numbers o x h).1, (view-numbers o (start_vertex d x) S.0).1, (view-numbers o x h).0, view-split o x h, S.1) (flat-++ (λ e. entry (number d e)) (view_events d (start_vertex d x)) (own_events d x))

-- what is listed behind what an earlier vertex listed is what is seen since
pub seen_since : (ss before rest : List Step) → Accepted ss → ss ≡ before ++ rest → (x z : ℕ) → x < length (run ss).diagram → z < length (run before).diagram → (us : List ℕ)
    → view (run ss).diagram x ≡ view (run before).diagram z ++ us → SeenSince (run before).diagram z (run ss).diagram x us
seen_since ss before rest A place x z h l us e = record { listed = e; exactly = λ k. (there k, back k); once = Nodup.of_append_right (view c z) both }
  where
    c : Diagram
    c = (run before).diagram

    d : Diagram
    d = (run ss).diagram

    B : Accepted (before ++ rest)
    B = subst Accepted place A

    both : Nodup (view c z ++ us)
    both = subst Nodup e (seen-once ss A x h)

    grown : Older c d
    grown = subst (λ y. Older c y.diagram) (sym (ap run place ∙ run-append before rest)) (older_from rest (run before) (accepted_rest before rest B))

    first : Accepted before
    first = accepted_first before rest B

    -- an update that the earlier vertex saw has its number still
    same_number : (f k : ℕ) → number c f ≡ some k → number d f ≡ some k
    same_number f k q = tabulate_stays number_step none grown f ((numbered-run before first).inside f k q) ∙ q

    there : (k : ℕ) → k ∈ us → (f : ℕ) × (number d f ≡ some k) × HasPath d f x × (HasPath c f z → ⊥)
    there k i =
        let s = (seen ss A x h k).0 (subst (λ v. k ∈ v) (sym e) (Memᴰ.append_right (view c z) i)) in
        (s.0, s.1, s.2, λ p. nodup_apart (view c z) us both k ((seen before first z l k).1 (s.0, sym (tabulate_stays number_step none grown s.0 (path_start p)) ∙ s.1, p)) i)

    back : (k : ℕ) → (f : ℕ) × (number d f ≡ some k) × HasPath d f x × (HasPath c f z → ⊥) → k ∈ us
    back k (f, q, p, m) =
        either (Memᴰ.append_cases (view c z) (subst (λ v. k ∈ v) e ((seen ss A x h k).1 (f, q, p))))
        (λ i. let s = (seen before first z l k).0 i in absurd (m (subst (λ g. HasPath c g z) (one (numbered-run ss A) s.0 f k (same_number s.0 k s.1) q) s.2)))
        (λ i. i)

-- so are a revision's own updates
pub own_updates : (ss : List Step) → Accepted ss → (r : ℕ) → IsOut (run ss) r → OwnUpdates (run ss) r (own (run ss).diagram ((run ss).terminal r))
own_updates ss A r out =
    let L = (fine_run ss A).sound.real.linked in
    let at = (made-run ss A).starts r out.0 in
    let low = L.bound r in
    seen_since ss ss [] A (sym (append-nil ss)) ((run ss).terminal r) ((run ss).start_of r) low (subst (λ z. z < length (run ss).diagram) at (began L.ordered ((run ss).terminal r) low).0) _
    (subst (λ z. view (run ss).diagram ((run ss).terminal r) ≡ view (run ss).diagram z ++ own (run ss).diagram ((run ss).terminal r)) at (started ss A ((run ss).terminal r) low))

-- after one step more: what revision b shows beyond what revision a showed
since_step : (ss : List Step) → Accepted ss → (s : Step) → accepted (run ss) s ≡ true → (a b : ℕ) (us : List ℕ)
    → view (after (run ss) s).diagram ((after (run ss) s).terminal b) ≡ view (run ss).diagram ((run ss).terminal a) ++ us
    → SeenSince (run ss).diagram ((run ss).terminal a) (after (run ss) s).diagram ((after (run ss) s).terminal b) us
since_step ss A s e a b us shows = subst (λ y. SeenSince (run ss).diagram ((run ss).terminal a) y.diagram (y.terminal b) us) (run_step ss s) since
  where
    more : List Step
    more = ss ++ (s ∷ [])

    B : Accepted more
    B = accepted-more ss s A e

    since : SeenSince (run ss).diagram ((run ss).terminal a) (run more).diagram ((run more).terminal b) us
    since =
        seen_since more ss (s ∷ []) B refl ((run more).terminal b) ((run ss).terminal a) ((fine_run more B).sound.real.linked.bound b) ((fine_run ss A).sound.real.linked.bound a) us
        (subst (λ y. view y.diagram (y.terminal b) ≡ view (run ss).diagram ((run ss).terminal a) ++ us) (sym (run_step ss s)) shows)

-- a joiner gains the joinee's own updates
pub join_gains : (ss : List Step) → Accepted ss → (a b : ℕ) → accepted (run ss) (Join a b) ≡ true
    → SeenSince (run ss).diagram ((run ss).terminal a) (after (run ss) (Join a b)).diagram ((after (run ss) (Join a b)).terminal a) (own (run ss).diagram ((run ss).terminal b))
unfolding after
join_gains ss A a b e =
    since_step ss A (Join a b) e a a (own (run ss).diagram ((run ss).terminal b))
    (ap (view _) (changed_same (run ss).terminal a _) ∙ tabulate-newest view_step [] (join ((run ss).terminal a) ((run ss).terminal b)) (run ss).diagram)

-- a new revision shows what the forked one shows
pub fork_shows : (ss : List Step) → Accepted ss → (r : ℕ) (name : Option Name) → accepted (run ss) (Fork r name) ≡ true
    → SeenSince (run ss).diagram ((run ss).terminal r) (after (run ss) (Fork r name)).diagram ((after (run ss) (Fork r name)).terminal (run ss).revisions) []
unfolding after
fork_shows ss A r name e =
    since_step ss A (Fork r name) e r (run ss).revisions []
    (ap (view _) (changed_same (changed (run ss).terminal r (length d)) (run ss).revisions _) ∙ tabulate-newest view_step [] (start (length d)) (fv ∷ d) ∙ tabulate-newest view_step [] fv d ∙ sym (append-nil _))
  where
    d : Diagram
    d = (run ss).diagram

    fv : Vertex
    fv = fork ((run ss).terminal r)
