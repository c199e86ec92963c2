-- Every run makes a revision diagram of 002's Definition 6: the revisions that are out end in its terminals.
use Prim.Native.Nat.{◌<◌, suc, ℕ}
use mathlib.Core.Bool.{Bool, false, false≢true, true}
use mathlib.Core.Path.{◌∙◌, ◌≡◌, ap, refl, subst, sym}
use mathlib.Core.Logic.{◌↔◌, ◌⊎◌, inl, inr}
use mathlib.Core.Option.{Option, none, some}
use mathlib.Core.List.Memᴰ
use mathlib.Core.List.{List, Memᴰ}
use mathlib.Core.List.{[], ◌++◌, ◌∷◌}
use native.Mathlib.Omega.{arith}
use lib.ListN.{length}
use lib.Dec.{eqb}
use borrow.Author.Tests.{eqb-false, eqb-true, ne_eqb}
use Rattle.diagram.proofs.Arranged.Advance.{on-bound}
use Rattle.diagram.proofs.Days.Moves.{CanEnter, CanFork, CanJoin, can-enter, can-fork, can-join, not_last, dropped_out, forked_out, joined_out, joinable}
use Rattle.diagram.proofs.Days.Sound.{same_some, some≢none}
use Rattle.diagram.proofs.Graph.Paths.{Ordered, both_older, edge_bounds, leads_path, no_vertex, one_more, path_leads}
use Rattle.diagram.proofs.Graph.Tables.{start-leads, start_step, tabulate-newest, tabulate-older}
use Rattle.diagram.proofs.Order.Growth.{Fine, fine_fresh}
use Rattle.diagram.proofs.Order.Runs.{along, fine_run, fine_step}
use Rattle.diagram.specs.Checks.{not_joinable}
use Rattle.diagram.specs.Construction.{Constructed, Joinable, entered, forked, joined, rooted}
use Rattle.lists.specs.Names.{Name}
use Rattle.diagram.specs.Day.{Day, IsOut, fresh}
use Rattle.diagram.specs.Diagram.{Diagram, Edge, HasPath, Terminal, Vertex, event, f_sources, fork, j_sources, join, newest}
use Rattle.diagram.specs.Leads.{leads}
use Rattle.diagram.specs.Diagram.{older, root, s_sources, sources, start}
use Rattle.diagram.specs.Effects.{fork_vertex, start_vertex, tabulate}
use Rattle.diagram.specs.Steps.{Drop, Event, Fork, Join, Step, Yield, after, enter, fork_at, join_into, new_update, run, yield}
use Rattle.diagram.specs.Accepted.{Accepted, accepted}
use Rattle.lists.proofs.Cases.{cases, split}
use Rattle.lists.specs.Lists.{changed}

-- an s- or j-edge is an edge
pub s_any : (v : Vertex) (x : ℕ) → Memᴰ x (s_sources v) → Memᴰ x (sources v)
s_any v x i = Memᴰ.append_left (j_sources v) (Memᴰ.append_left (f_sources v) i)

j_any : (v : Vertex) (x : ℕ) → Memᴰ x (j_sources v) → Memᴰ x (sources v)
j_any v x i = Memᴰ.append_right (s_sources v ++ f_sources v) i

pub edge_any : {from : Vertex → List ℕ} → ((v : Vertex) (x : ℕ) → Memᴰ x (from v) → Memᴰ x (sources v)) → {x y : ℕ} {d : Diagram} → Edge from x y d → Edge sources x y d
edge_any f (newest {v} {d} e i) = newest e (f v _ i)
edge_any f (older e) = older (edge_any f e)

-- the newest vertex has no edge out
none_out : {from : Vertex → List ℕ} → ((v : Vertex) (x : ℕ) → Memᴰ x (from v) → Memᴰ x (sources v)) → {v : Vertex} {d : Diagram} → Ordered (v ∷ d) → (y : ℕ) → Edge from (length d) y (v ∷ d) → ⊥
none_out f {v} {d} o y e = omega (arith, edge_bounds o (edge_any f e))

terminal_newest : {v : Vertex} {d : Diagram} → Ordered (v ∷ d) → Terminal (v ∷ d) (length d)
terminal_newest {v} {d} o = record { vertex = omega arith; no_s = none_out s_any o; no_j = none_out j_any o }

-- an older terminal stays one, if the new vertex has no s- or j-edge from it
keeps_out : {from : Vertex → List ℕ} {v : Vertex} {d : Diagram} {x : ℕ} → (Memᴰ x (from v) → ⊥) → ((y : ℕ) → Edge from x y d → ⊥) → (y : ℕ) → Edge from x y (v ∷ d) → ⊥
keeps_out n f y (newest e i) = n i
keeps_out n f y (older e) = f y e

terminal_older : {v : Vertex} {d : Diagram} {x : ℕ} → (Memᴰ x (s_sources v) → ⊥) → (Memᴰ x (j_sources v) → ⊥) → Terminal d x → Terminal (v ∷ d) x
terminal_older n m T = record { vertex = omega (arith, T.vertex); no_s = keeps_out n T.no_s; no_j = keeps_out m T.no_j }

pub record Made (y : Day) : Type 0 where
  pub constructed : Constructed y.diagram
  pub starts : (r : ℕ) → r < y.revisions → start_vertex y.diagram (y.terminal r) ≡ y.start_of r
  pub distinct : (r s : ℕ) → r < y.revisions → s < y.revisions → y.start_of r ≡ y.start_of s → r ≡ s
  pub terminals : (r : ℕ) → IsOut y r → Terminal y.diagram (y.terminal r)

made-fresh : Made fresh
unfolding tabulate
made-fresh = record {
  constructed = rooted;
  starts = λ r h. refl;
  distinct = λ r s h k e. let a : r < 1 = h in let b : s < 1 = k in omega arith;
  terminals = λ r o. terminal_newest (one_more {v = root} (λ p i. absurd (Memᴰ.not-nil i)) no_vertex);
}

module _ (y : Day) (F : Fine y) (M : Made y) where
  abbrev d : Diagram
  d = y.diagram

  low : (r : ℕ) → y.terminal r < length d
  low r = F.sound.real.linked.bound r

  ordered : Ordered d
  ordered = F.sound.real.linked.ordered

  -- no two revisions have one terminal
  pub apart : (r s : ℕ) → r < y.revisions → s < y.revisions → (r ≡ s → ⊥) → Memᴰ (y.terminal r) (y.terminal s ∷ []) → ⊥
  apart r s h k n i =
      n (M.distinct r s h k (sym (M.starts r h) ∙ ap (start_vertex d) (Memᴰ.eq_of_singleton i) ∙ M.starts s k))

  -- a vertex that goes on from a revision's terminal
  module _ (v : Vertex) (r : ℕ) (hr : r < y.revisions) (on_line : start_step d (start_vertex d) v ≡ start_vertex d (y.terminal r)) where
    starts-on : (s : ℕ) → s < y.revisions → start_vertex (v ∷ d) (changed y.terminal r (length d) s) ≡ y.start_of s
    starts-on s h =
        cases (eqb s r)
        (λ e. rw (e, tabulate-newest start_step 0 v d, eqb-true s r e) (on_line ∙ M.starts r hr))
        (λ e. rw (e, tabulate-older start_step 0 v d (y.terminal s) (low s)) (M.starts s h))

    terminals-on : Ordered (v ∷ d) → s_sources v ≡ y.terminal r ∷ [] → (s : ℕ) → IsOut y s → (Memᴰ (y.terminal s) (j_sources v) → ⊥) → Terminal (v ∷ d) (changed y.terminal r (length d) s)
    terminals-on o q s os n =
        cases (eqb s r)
        (λ e. rw e (terminal_newest o))
        (λ e. rw e (terminal_older (λ i. apart s r os.0 hr (eqb-false s r e) (rw q at i)) n (M.terminals s os)))

  one_source : (v : Vertex) (r : ℕ) → r < y.revisions → sources v ≡ y.terminal r ∷ [] → Ordered (v ∷ d)
  one_source v r h q = one_more {v = v} {d = d} (λ p i. rw (Memᴰ.eq_of_singleton (rw q at i)) (low r)) ordered

  made-enter : (c r : ℕ) (u : Bool) → CanEnter y c r → Made (enter y c r u)
  made-enter c r u E = record {
    constructed = entered M.constructed (M.terminals r E.out) c (new_update y u);
    starts = starts-on v r E.out.0 refl;
    distinct = M.distinct;
    terminals = λ s o. terminals-on v r E.out.0 refl (one_source v r E.out.0 refl) refl s o (λ i. Memᴰ.not-nil i);
  }
    where
      v : Vertex
      v = event (y.terminal r) c (new_update y u)

  made-close : (c t : ℕ) → Made (yield y c (some t))
  made-close c t = record { constructed = M.constructed; starts = M.starts; distinct = M.distinct; terminals = M.terminals }

  made-fork : (r : ℕ) (name : Option Name) → CanFork y r name → Made (fork_at y r name)
  made-fork r name N = record {
    constructed = forked M.constructed (M.terminals r N.out);
    distinct = distinct';
    starts = λ s h. cases (eqb s n) (λ e. rw e (tabulate-newest start_step 0 sv (fv ∷ d))) (λ e. rw e (starts' s (not_last s n h e)));
    terminals = λ s o. cases (eqb s n) (λ e. rw e (terminal_newest ordered2)) (λ e. rw e (terminals' s (forked_out y r name s o e)));
  }
    where
      n : ℕ
      n = y.revisions

      fv : Vertex
      fv = fork (y.terminal r)

      sv : Vertex
      sv = start (length d)

      ordered1 : Ordered (fv ∷ d)
      ordered1 = one_source fv r N.out.0 refl

      ordered2 : Ordered (sv ∷ fv ∷ d)
      ordered2 = one_more {v = sv} {d = fv ∷ d} (λ p i. omega (arith, Memᴰ.eq_of_singleton i)) ordered1

      -- the new start vertex is none of the older ones
      distinct' : (s t : ℕ) → s < suc n → t < suc n → changed y.start_of n (suc (length d)) s ≡ changed y.start_of n (suc (length d)) t → s ≡ t
      distinct' s t h k e = pick (split (eqb s n)) (split (eqb t n))
        where
          pick : (eqb s n ≡ true) ⊎ (eqb s n ≡ false) → (eqb t n ≡ true) ⊎ (eqb t n ≡ false) → s ≡ t
          pick (inl p) (inl q) = eqb-true s n p ∙ sym (eqb-true t n q)
          pick (inl p) (inr q) = let f : suc (length d) ≡ y.start_of t = rw (p, q) at e in absurd (omega (arith, F.sound.real.starts_low t))
          pick (inr p) (inl q) = let f : y.start_of s ≡ suc (length d) = rw (p, q) at e in absurd (omega (arith, F.sound.real.starts_low s))
          pick (inr p) (inr q) = M.distinct s t (not_last s n h p) (not_last t n k q) (rw (p, q) at e)

      starts' : (s : ℕ) → s < n → start_vertex (sv ∷ fv ∷ d) (changed y.terminal r (length d) s) ≡ y.start_of s
      starts' s h = tabulate-older start_step 0 sv (fv ∷ d) (changed y.terminal r (length d) s) (on-bound d fv y.terminal low r s) ∙ starts-on fv r N.out.0 refl s h

      terminals' : (s : ℕ) → IsOut y s → Terminal (sv ∷ fv ∷ d) (changed y.terminal r (length d) s)
      terminals' s o =
          terminal_older (λ i. Memᴰ.not-nil i) (λ i. Memᴰ.not-nil i)
          (terminals-on fv r N.out.0 refl ordered1 refl s o (λ i. Memᴰ.not-nil i))

  -- the rule of Definition 6 and 01, from the four parts of the check
  rule-holds : (a b : ℕ) → IsOut y b → (b ≡ 0 → ⊥) → leads d (y.fork_of b) (y.terminal a) ≡ true → leads d (y.start_of b) (y.terminal a) ≡ false → Joinable d (y.terminal a) (y.terminal b)
  rule-holds a b o n f g = record {
    started_by = y.fork_of b;
    is_fork = F.sound.real.forks b o.0 n;
    fork_seen = leads_path d (y.fork_of b) (y.terminal a) f;
    start_unseen = λ p. false≢true (sym g ∙ path_leads ordered (rw (M.starts b o.0) at p));
  }

  -- and back: the check refuses nothing that the rule allows
  rule-back : (a b : ℕ) → IsOut y a → IsOut y b → Joinable d (y.terminal a) (y.terminal b) → not_joinable y a b ≡ false
  unfolding not_joinable
  rule-back a b oa ob J = rw (ne_eqb b 0 not_main, ne_eqb b a not_self, fork-ok) start-ok
    where
      not_main : b ≡ 0 → ⊥
      not_main e = some≢none (fork_vertex d (y.terminal b)) J.is_fork (ap (λ z. fork_vertex d (y.terminal z)) e ∙ F.sound.real.main)

      not_self : b ≡ a → ⊥
      not_self e = J.start_unseen (subst (HasPath d (start_vertex d (y.terminal b))) (ap y.terminal e) (leads_path d _ (y.terminal b) (start-leads ordered (y.terminal b) (low b))))

      is : J.started_by ≡ y.fork_of b
      is = same_some (sym J.is_fork ∙ F.sound.real.forks b ob.0 not_main)

      fork-ok : leads d (y.fork_of b) (y.terminal a) ≡ true
      fork-ok = subst (λ z. leads d z (y.terminal a) ≡ true) is (path_leads ordered J.fork_seen)

      start-ok : leads d (y.start_of b) (y.terminal a) ≡ false
      start-ok = cases (leads d (y.start_of b) (y.terminal a)) (λ e. absurd (J.start_unseen (rw (M.starts b ob.0) (leads_path d (y.start_of b) (y.terminal a) e)))) (λ e. e)

  made-join : (a b : ℕ) → CanJoin y a b → Made (join_into y a b)
  made-join a b H = record {
    constructed = joined M.constructed (M.terminals a H.out_a) (M.terminals b H.out_b) (rule-holds a b H.out_b H.not_main H.fork_seen H.start_unseen);
    starts = starts-on jv a H.out_a.0 refl;
    distinct = M.distinct;
    terminals = λ s o. let p = joined_out y a b s o in terminals-on jv a H.out_a.0 refl two-sources refl s p.0 (apart s b p.0.0 H.out_b.0 p.1);
  }
    where
      jv : Vertex
      jv = join (y.terminal a) (y.terminal b)

      two-sources : Ordered (jv ∷ d)
      two-sources = one_more {v = jv} {d = d} (both_older (length d) (y.terminal a) (y.terminal b) (low a) (low b)) ordered

made_after : (y : Day) (s : Step) → accepted y s ≡ true → Fine y → Made y → Made (after y s)
unfolding after
made_after y (Event c r u) e F M = made-enter y F M c r u (can-enter y c r u e)
made_after y (Yield c) e F M = by (y.open_by c)
  where
    by : (o : Option ℕ) → Made (yield y c o)
    by none = M
    by (some t) = made-close y F M c t
made_after y (Fork r name) e F M = made-fork y F M r name (can-fork y r name e)
made_after y (Join a b) e F M = made-join y F M a b (can-join y a b e)
made_after y (Drop r) e F M =
    record { constructed = M.constructed; starts = M.starts; distinct = M.distinct; terminals = λ s o. M.terminals s (dropped_out y r s o).0 }

-- every run of accepted steps makes its diagram by the construction steps of Definition 6
pub made-run : (ss : List Step) → Accepted ss → Made (run ss)
unfolding run
made-run ss A = (along (λ y. Fine y × Made y) (λ y s e P. (fine_step y s e P.0, made_after y s e P.0 P.1)) ss fresh A (fine_fresh, made-fresh)).1

-- at every time of a run: the check of code 11 is the join rule
pub joinable_iff : (ss : List Step) → Accepted ss → (a b : ℕ) → IsOut (run ss) a → IsOut (run ss) b → (not_joinable (run ss) a b ≡ false) ↔ Joinable (run ss).diagram ((run ss).terminal a) ((run ss).terminal b)
joinable_iff ss A a b oa ob =
    let F = fine_run ss A in
    let M = made-run ss A in
    (λ e. let q = joinable (run ss) a b e in rule-holds (run ss) F M a b ob (eqb-false b 0 q.0) q.2 q.3, rule-back (run ss) F M a b oa ob)
