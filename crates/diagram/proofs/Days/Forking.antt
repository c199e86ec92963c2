-- A fork keeps the day sound.
use Prim.Native.Nat.{◌<◌, suc, ℕ}
use mathlib.Core.Bool.{false, true}
use mathlib.Core.Path.{◌∙◌, ◌≡◌, refl}
use mathlib.Core.Logic.{◌⊎◌, inl, inr}
use mathlib.Core.Option.{Option, some}
use mathlib.Core.List.Memᴰ
use mathlib.Core.List.{List, Memᴰ, [], ◌∷◌}
use native.Mathlib.Omega.{arith}
use lib.ListN.{length}
use lib.Dec.{eqb}
use borrow.Author.Tests.{eqb-false, eqb-true, ne_eqb}
use Rattle.diagram.proofs.Days.Moves.{CanFork, forked_out}
use Rattle.diagram.proofs.Days.Outside.{Outside, Past, idle-far, idle-past, moved-runs, moved-sessions, moved-whole, outside_new}
use Rattle.diagram.proofs.Days.Real.{real-fork}
use Rattle.diagram.proofs.Days.Sound.{Filed, Sound, Unwritten, event-low}
use Rattle.diagram.proofs.Graph.Events.{own_event_step, own_events}
use Rattle.diagram.proofs.Graph.Paths.{leads_old}
use Rattle.diagram.proofs.Graph.Tables.{tabulate-newest, tabulate-older}
use Rattle.diagram.specs.Arbitration.{events_of}
use Rattle.lists.specs.Names.{Name}
use Rattle.diagram.specs.Checks.{marked}
use Rattle.diagram.specs.Day.{Day, IsOut}
use Rattle.diagram.specs.Diagram.{Diagram, Vertex, fork, start}
use Rattle.diagram.specs.Leads.{leads}
use Rattle.diagram.specs.Steps.{fork_at}
use Rattle.lists.proofs.Cases.{cases, either, split}
use Rattle.lists.proofs.Changed.{changed-other}
use Rattle.lists.proofs.Places.{insert_back, insert_old}
use Rattle.lists.specs.Lists.{◌∈◌, changed, flat}
use Rattle.lists.specs.Arranged.{insert_before}

module _ (y : Day) (layout : List ℕ) (hold : ℕ → List ℕ) (S : Sound y layout hold) (r : ℕ) (name : Option Name) (N : CanFork y r name) where
  abbrev d : Diagram
  d = y.diagram

  abbrev n : ℕ
  n = y.revisions

  abbrev y' : Day
  y' = fork_at y r name

  abbrev fv : Vertex
  fv = fork (y.terminal r)

  abbrev sv : Vertex
  sv = start (length d)

  abbrev hold' : ℕ → List ℕ
  hold' = changed hold n []

  low : (s : ℕ) → y.terminal s < length d
  low s = S.real.linked.bound s

  -- the terminals of the older revisions, and what is their own
  terminal-old : (s : ℕ) → s < n → (s ≡ r → ⊥) → y'.terminal s ≡ y.terminal s
  terminal-old s h k = changed-other (changed y.terminal r (length d)) n _ s (λ e. omega arith) ∙ changed-other y.terminal r (length d) s k

  own_old : (s : ℕ) → s ∈ layout → own_events (sv ∷ fv ∷ d) (changed y.terminal r (length d) s) ≡ flat (events_of y) (hold s)
  own_old s i =
      cases (eqb s r)
      (λ e. rw (e, tabulate-older own_event_step [] sv (fv ∷ d) (length d) (omega arith), tabulate-newest own_event_step [] fv d, ← (eqb-true s r e)) (S.filed.blocks_ok s i))
      (λ e. rw (e, tabulate-older own_event_step [] sv (fv ∷ d) (y.terminal s) (omega (arith, low s)), tabulate-older own_event_step [] fv d (y.terminal s) (low s)) (S.filed.blocks_ok s i))

  older : (s : ℕ) → s ∈ layout → s ≡ n → ⊥
  older s i e = omega (arith, (S.real.back s i).0)

  stays : (s : ℕ) → s ∈ insert_before r n layout → eqb s n ≡ false → s ∈ layout
  stays s i e = either (insert_back r n s layout i) (λ q. absurd (eqb-false s n e q)) (λ j. j)

  filed' : Filed y' (insert_before r n layout) hold'
  filed' = record {
    blocks_ok = λ s i. cases (eqb s n) (λ e. rw e (tabulate-newest own_event_step [] sv (fv ∷ d))) (λ e. rw e (own_old s (stays s i e)));
    all = λ t h. let p = S.filed.all t h in (p.0, insert_old r n p.0 layout p.1, rw (changed-other hold n [] p.0 (older p.0 p.1)) p.2);
    low = λ s t i j. cases (eqb s n) (λ e. absurd (Memᴰ.not-nil (rw e at j))) (λ e. S.filed.low s t (stays s i e) (rw e at j));
    first = S.filed.first;
  }

  -- a terminal that is an event is none of the new vertices
  was : (s t : ℕ) → IsOut y' s → t < y.transactions → y'.terminal s ∈ events_of y t → IsOut y s × (y'.terminal s ≡ y.terminal s)
  was s t o h i = pick (split (eqb s n)) (split (eqb s r))
    where
      pick : (eqb s n ≡ true) ⊎ (eqb s n ≡ false) → (eqb s r ≡ true) ⊎ (eqb s r ≡ false) → IsOut y s × (y'.terminal s ≡ y.terminal s)
      pick (inl e) g = let j : suc (length d) ∈ events_of y t = rw e at i in absurd (omega (arith, event-low y layout hold S t (suc (length d)) h j))
      pick (inr e) (inl g) = let j : length d ∈ events_of y t = rw (e, g) at i in absurd (omega (arith, event-low y layout hold S t (length d) h j))
      pick (inr e) (inr g) = let b = forked_out y r name s o e in (b, terminal-old s b.0 (eqb-false s r g))

  up : (e x : ℕ) → x < length d → leads d e x ≡ true → leads (sv ∷ fv ∷ d) e x ≡ true
  up e x h q = leads_old sv (fv ∷ d) e x (omega arith) ∙ leads_old fv d e x h ∙ q

  outside : Outside (sv ∷ fv ∷ d) y.transactions y.transaction
  outside =
      outside_new (fv ∷ d) sv y.transactions y.transaction (λ t e h i. omega (arith, event-low y layout hold S t e h i)) (λ p i. omega (arith, Memᴰ.eq_of_singleton i))
      (λ p t i h j. absurd (omega (arith, Memᴰ.eq_of_singleton i, event-low y layout hold S t p h j)))
      (outside_new d fv y.transactions y.transaction (event-low y layout hold S) (λ p i. rw (Memᴰ.eq_of_singleton i) (low r)) past S.whole.outside)
    where
      past : (p t : ℕ) → Memᴰ p (y.terminal r ∷ []) → t < y.transactions → p ∈ events_of y t → Past d (y.transaction t) p
      past p t i h j = let e = Memᴰ.eq_of_singleton i in rw e (idle-past y layout hold S r t N.out N.idle h (rw e at j))

  kept : (c s : ℕ) → y.open_by c ≡ some s
      → IsOut y' (y.transaction s).revision × (y'.terminal (y.transaction s).revision ≡ y.terminal (y.transaction s).revision)
      × (hold' (y.transaction s).revision ≡ hold (y.transaction s).revision)
  kept c s p =
      let o = (S.runs c s p).out in
      let old = older _ (S.real.out _ o) in
      ((omega (arith, o.0), changed-other y.joined n false _ old ∙ o.1), terminal-old _ o.0 (idle-far y layout hold S r c s N.idle p), changed-other hold n [] _ old)

  marks' : Unwritten y' hold'
  unfolding marked
  marks' = record {
    empty = λ s. cases (eqb s n) (λ e. rw e (λ q. refl)) (λ e. rw e (S.marks.empty s));
    main = let o = N.out.0 in rw (ne_eqb 0 n (λ e. omega arith)) S.marks.main;
  }

  pub sound-fork : Sound (fork_at y r name) (insert_before r y.revisions layout) (changed hold y.revisions [])
  sound-fork = record {
    real = real-fork y layout S.real r name N;
    filed = filed';
    runs = moved-runs y layout hold S (sv ∷ fv ∷ d) _ _ _ _ _ _ _ (omega arith) up was hold' kept;
    unshut = S.unshut;
    whole = moved-whole y layout hold S (sv ∷ fv ∷ d) _ _ _ _ _ _ _ (omega arith) up was outside;
    sessions = moved-sessions y layout hold S (sv ∷ fv ∷ d) _ _ _ _ _ _ _ (omega arith) up was;
    marks = marks';
  }
