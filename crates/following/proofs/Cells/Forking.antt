-- A fork: the cells follow. The new revision's cells stand under the number that the fork gives, which no revision out bears.
use Prim.Native.Nat.{◌≤◌, ◌<◌, suc, ℕ}
use mathlib.Core.Bool.{◌&&◌, ◌||◌, cond, false, or_assoc, or-false, true}
use mathlib.Core.Path.{◌∙◌, ◌≡◌, ap, refl, subst, sym}
use mathlib.Core.Option.{Option, none, some}
use mathlib.Core.List.{List, ◌++◌, ◌∷◌}
use native.Mathlib.Omega.{arith}
use lib.Dec.{eqb, ltb}
use lib.ListN.{length, take}
use lib.Seq.{length-take-le, take_all}
use borrow.Author.Tests.{eq-eqb, eqb-false, eqb-true, ltb-false, ltb-true, ne_eqb}
use Rattle.lists.specs.Lists.{◌∈◌, changed, mapped}
use Rattle.lists.specs.Arranged.{insert_before, member}
use Rattle.lists.specs.Names.{Name}
use Rattle.lists.proofs.Cases.{cases, either, or_cases, or_right}
use Rattle.lists.proofs.Changed.{changed-other, changed_same}
use Rattle.lists.proofs.Keep.{member-++, member_in}
use Rattle.lists.proofs.Places.{insert_back, insert_old}
use Rattle.lists.proofs.Renamed.{mapped_in, mapped-insert, mapped_same}
use Rattle.diagram.specs.Sizes.{revision_limit}
use Rattle.diagram.specs.Numbering.{next}
use Rattle.diagram.specs.Checks.{is_some}
use Rattle.diagram.specs.Day.{Day, number_of}
use Rattle.diagram.proofs.Days.Found.{found}
use Rattle.diagram.specs.Steps.{fork_at}
use Rattle.diagram.proofs.Days.Moves.{CanFork}
use Rattle.diagram.proofs.Days.Marking.{is-marked, none≢name}
use Rattle.diagram.proofs.Days.Naming.{fork-count, meant-low, meant-new, meant-old, next-apart, number_new, number-old}
use Rattle.machine.specs.Machine.{Machine, fork_on}
use Rattle.cells.specs.Sizes.{clients, main, revisions, state_marked, state_out, updates}
use Rattle.cells.specs.Cells.{Cells, chain, freed, flagged, next_number, own}
use Rattle.cells.specs.CellSteps.{fork_cells, fork_given, fork_row, fork_started}
use Rattle.cells.proofs.Places.{fork-freed, fork-freed-first, fork_outs, insert_length, shift_length}
use Rattle.cells.proofs.Follow.{bounded}
use Rattle.following.specs.Reached.{branch_cells}
use Rattle.following.proofs.Cells.Laid.{Laid, apart, same_number}
use Rattle.following.proofs.Cells.Represents.{Represents, count-main, given-few, number_is, open_cell, state_cell}

-- cells with other states and names, and another count of boxes started
abbrev with_names : Cells → (ℕ → ℕ) → (ℕ → Name) → ℕ → Cells
with_names k state names started = record {
  state = state;
  used = k.used;
  last = k.last;
  first = k.first;
  count = k.count;
  base = k.base;
  row = k.row;
  link = k.link;
  seen = k.seen;
  caught = k.caught;
  layout = k.layout;
  out = k.out;
  queue = k.queue;
  opened = k.opened;
  updates = k.updates;
  given = k.given;
  name = names;
  single = k.single;
  settled = k.settled;
  started = started;
}

module _ (y : Day) (m : Machine) (k : Cells) (h : Represents y m k) (L : Laid y m) (p : ℕ) (i : p ∈ m.layout) (name : Option Name) (C : CanFork y p name) where
  abbrev c : ℕ
  c = next y.numbering

  abbrev R : ℕ
  R = m.revisions

  abbrev n : ℕ
  n = number_of y p

  abbrev k' : Cells
  k' = fork_cells k n c

  abbrev m' : Machine
  m' = fork_on m p

  abbrev y' : Day
  y' = fork_at y p name

  room : k.out < revisions
  unfolding revision_limit
  room = let a = C.room in let b = h.out_is in omega arith

  -- the new revision and the older ones
  old : (x : ℕ) → x ∈ m'.layout → eqb x R ≡ false → x ∈ m.layout
  old x j e = either (insert_back p R x m.layout j) (λ q. absurd (eqb-false x R e q)) (λ o. o)

  not_new : (x : ℕ) → x ∈ m.layout → x ≡ R → ⊥
  not_new x j e = let l = (L.out x j).0 in let s = L.same_revisions in omega arith

  new-of : (x : ℕ) → eqb x R ≡ true → number_of y' x ≡ c
  new-of x e = ap (number_of y') (eqb-true x R e ∙ L.same_revisions) ∙ number_new y L.named p name C

  old_of : (x : ℕ) → x ∈ m.layout → number_of y' x ≡ number_of y x
  old_of x j = number-old y L.named p name C x (L.out x j).0

  old-test : (x : ℕ) → x ∈ m.layout → eqb (number_of y x) c ≡ false
  old-test x j = ne_eqb (number_of y x) c (next-apart y L.named p name C x (L.out x j))

  main-of : number_of y' main ≡ main
  main-of = old_of main h.main_out ∙ h.main_number

  main-own : m'.own main ≡ m.own main
  main-own = rw (ne_eqb main R (not_new main h.main_out))

  main-test : eqb n main ≡ eqb p main
  main-test = ap (eqb n) (sym h.main_number) ∙ same_number y m L p main i h.main_out

  fork-layout : take (suc k.out) k'.layout ≡ mapped (number_of y') (insert_before p R m.layout)
  fork-layout =
      fork_outs k n c room (rw h.layout_is (mapped_in (number_of y) m.layout p i))
      ∙ ap (insert_before n c) (h.layout_is ∙ mapped_same (number_of y) (number_of y') m.layout (λ x j. sym (old_of x j)))
      ∙ ap (λ z. insert_before z c (mapped (number_of y') m.layout)) (sym (old_of p i))
      ∙ ap (λ z. insert_before (number_of y' p) z (mapped (number_of y') m.layout)) (sym (new-of R (eq-eqb R R refl)))
      ∙ sym (mapped-insert (number_of y') p R m.layout (λ x j e. apart y m L x p j i (sym (old_of x j) ∙ e ∙ old_of p i)))

  old-state : (q : Option ℕ) → ((r : ℕ) → q ≡ some r → r < y.revisions) → state_cell y.joined y.mark q ≡ state_cell y'.joined y'.mark q
  old-state none l = refl
  old-state (some r) l = let b = l r refl in rw (ne_eqb r y.revisions (λ e. omega arith))

  fork-state : (v : ℕ) → v ≡ cond (is_some name) state_marked state_out → (x : ℕ) → changed k.state c v x ≡ state_cell y'.joined y'.mark (found y' x)
  fork-state v z x =
      cases (eqb x c)
      (λ e. rw (e, eqb-true x c e, meant-new y L.named p name C, eq-eqb y.revisions y.revisions refl) z)
      (λ e. rw (e, meant-old y L.named p name C x (eqb-false x c e)) (h.state_is x ∙ old-state (found y x) (meant-low y x)))

  -- the new mark has its name, an older one keeps it
  fork-names : (names : ℕ → Name) → ((w : Name) → name ≡ some w → names c ≡ w) → ((x : ℕ) → (x ≡ c → ⊥) → names x ≡ k.name x)
      → (r : ℕ) (w : Name) → y'.mark r ≡ some w → names (number_of y' r) ≡ w
  fork-names names new kept r w =
      cases (eqb r y.revisions)
      (λ e. rw e (new w))
      (λ e. rw e (λ q. let o = L.marks.out r (is-marked y r w q) in kept (number_of y r) (next-apart y L.named p name C r o) ∙ h.name_is r w q))

  fork-own : (x : ℕ) → x ∈ m'.layout → own k' (number_of y' x) ≡ m'.own x
  unfolding chain
  fork-own x j =
      cases (eqb x R)
      (λ e. rw (e, new-of x e, eq-eqb c c refl))
      (λ e. let o = old x j e in rw (e, old_of x o, old-test x o) (h.own_is x o))

  fork-first : (x : ℕ) → x ∈ m'.layout → (f : ℕ) (l : List ℕ) → m'.own x ≡ f ∷ l → k.first (number_of y' x) ≡ f
  fork-first x j f l = cases (eqb x R) (λ e. rw e (λ q. cc)) (λ e. let o = old x j e in rw (e, old_of x o) (h.first_is x o f l))

  -- what is flagged at p, or p's own, has a number
  low-flag : (v : ℕ) → (flagged k n v || member v (m.own p)) ≡ true → v < updates
  low-flag v e =
      let few = h.updates_few in
      let is = h.updates_is in
      let l : v < m.updates = either (or_cases (flagged k n v) (member v (m.own p)) e)
      (λ a. L.inherited_low p i v (member_in v (m.inherited p) (h.inherited_is p i v ∙ or_right (member v (take (k.base n) (m.own main))) (flagged k n v) a)))
      (λ a. L.own_low p i v (member_in v (m.own p) a)) in
      omega arith

  -- the new revision inherits what p shows: from the main revision by count alone, else by p's count and a row
  from-main : p ≡ main → (v : ℕ) → member v (m.inherited p ++ m.own p) ≡ (member v (take (k.count main) (m.own main)) || false)
  from-main e v =
      let l = count-main y m k h in
      rw (e, h.main_inherits, take_all (k.count main) (m.own main) (omega arith), or-false)

  from-other : (v : ℕ) → member v (m.inherited p ++ m.own p) ≡ (member v (take (k.base n) (m.own main)) || fork_row k n v)
  from-other v =
      rw (member-++, h.inherited_is p i v, or_assoc, h.own_is p i, bounded (flagged k n v || member v (m.own p)) v updates (low-flag v))

  new-inherited : (v : ℕ)
      → member v (m.inherited p ++ m.own p) ≡ (member v (take (cond (eqb n main) (k.count main) (k.base n)) (m.own main)) || (cond (eqb n main) false true && k'.row c v))
  new-inherited v =
      rw main-test
      (cases (eqb p main)
      (λ e. rw e (from-main (eqb-true p main e) v))
      (λ e. rw (e, eq-eqb c c refl) (from-other v)))

  old_row : (x v : ℕ) → eqb x c ≡ false → k'.row x v ≡ k.row x v
  old_row x v e = cases (eqb n main) (λ q. rw q) (λ q. rw (q, e))

  fork-inherited : (x : ℕ) → x ∈ m'.layout → (v : ℕ) → member v (m'.inherited x) ≡ (member v (take (k'.base (number_of y' x)) (m'.own main)) || flagged k' (number_of y' x) v)
  fork-inherited x j v =
      rw main-own
      (cases (eqb x R)
      (λ e. rw (e, new-of x e, eq-eqb c c refl) (new-inherited v))
      (λ e. let o = old x j e in rw (e, old_of x o, old-test x o, old_row (number_of y x) v (old-test x o)) (h.inherited_is x o v)))

  fork-base : (x : ℕ) → x ∈ m'.layout → k'.base (number_of y' x) ≤ length (m'.own main)
  fork-base x j =
      let l = count-main y m k h in
      rw main-own
      (cases (eqb x R)
      (λ e. rw (new-of x e, eq-eqb c c refl) (cases (eqb n main) (λ q. rw q (omega arith)) (λ q. rw q (h.base_few p i))))
      (λ e. let o = old x j e in rw (old_of x o, old-test x o) (h.base_few x o)))

  -- flags
  sender : (x : ℕ) → x ∈ m'.layout → eqb (number_of y' x) n ≡ eqb x p
  sender x j =
      cases (eqb x R)
      (λ e. rw (new-of x e) (ne_eqb c n (λ q. eqb-false n c (old-test p i) (sym q)) ∙ sym (ne_eqb x p (λ q. not_new p i (sym q ∙ eqb-true x R e)))))
      (λ e. let o = old x j e in rw (old_of x o) (same_number y m L x p o i))

  fork_seen : (a b : ℕ) → a ∈ m'.layout → b ∈ m'.layout → k'.seen (number_of y' a) (number_of y' b) ≡ m'.joinable a b
  fork_seen a b u v =
      cases (eqb b R)
      (λ e. rw (e, new-of b e, eq-eqb c c refl) (sender a u))
      (λ e. let s = old b v e in rw (e, old_of b s, old-test b s)
      (cases (eqb a R)
      (λ q. rw (q, new-of a q, eq-eqb c c refl) (h.seen_is p b i s))
      (λ q. let t = old a u q in rw (q, old_of a t, old-test a t) (h.seen_is a b t s))))

  fork-caught : (o x : ℕ) → o < clients → x ∈ m'.layout → k'.caught o (number_of y' x) ≡ m'.caught_up o x
  fork-caught o x ol j =
      cases (eqb x R)
      (λ e. rw (e, new-of x e, eq-eqb c c refl) (h.caught_is o p ol i))
      (λ e. let s = old x j e in rw (e, old_of x s, old-test x s) (h.caught_is o x ol s))

  still_open : (q : Option ℕ) → ((r : ℕ) → q ≡ some r → r ∈ m.layout) → open_cell (number_of y) q ≡ open_cell (number_of y') q
  still_open none l = refl
  still_open (some r) l = sym (old_of r (l r refl))

  fork-freed-is : freed k' ≡ y'.numbering.freed
  unfolding revision_limit
  fork-freed-is =
      cases (ltb y.numbering.given revisions)
      (λ e. let l = ltb-true y.numbering.given revisions e in let g = h.given_is in fork-freed k n c (omega arith) ∙ rw e h.freed_is)
      (λ e. let l = ltb-false y.numbering.given revisions e in let g = h.given_is in let r = room in
      fork-freed-first k n c h.queue_places (omega arith) (omega arith) (given-few y m k h L) ∙ rw (e, h.freed_is))

  fork-queue : length k'.queue ≡ revisions
  fork-queue = let q = h.queue_places in cases (ltb k.given revisions) (λ e. rw e q) (λ e. rw e (shift_length k.queue (omega arith) ∙ q))

  fork-given : fork_given k ≡ y'.numbering.given
  unfolding revision_limit
  fork-given = rw h.given_is

  branches : (state : ℕ → ℕ) (names : ℕ → Name) (started : ℕ) → ((x : ℕ) → state x ≡ state_cell y'.joined y'.mark (found y' x))
      → ((r : ℕ) (w : Name) → y'.mark r ≡ some w → names (number_of y' r) ≡ w) → Represents y' m' (with_names k' state names started)
  branches state names started states named-so = record {
    layout_is = fork-layout;
    places = let a = h.places in let b = insert_length n c k.layout in length-take-le revisions (insert_before n c k.layout) (omega arith);
    out_is = ap suc h.out_is ∙ sym (fork-count y L.named p name C);
    main_out = insert_old p R main m.layout h.main_out;
    main_number = main-of;
    given_is = fork-given;
    freed_is = fork-freed-is;
    queue_places = fork-queue;
    state_is = states;
    name_is = named-so;
    own_is = fork-own;
    first_is = fork-first;
    inherited_is = fork-inherited;
    base_few = fork-base;
    main_inherits = rw (ne_eqb main R (not_new main h.main_out)) h.main_inherits;
    seen_is = fork_seen;
    caught_is = fork-caught;
    opened_is = λ o l. h.opened_is o l ∙ still_open (m.open_on o) (L.open_out o);
    updates_is = h.updates_is;
    updates_few = h.updates_few;
  }

module _ (y : Day) (m : Machine) (k : Cells) (h : Represents y m k) (L : Laid y m) (p : ℕ) (i : p ∈ m.layout) where
  abbrev to : ℕ
  to = next y.numbering

  next-branch : (name : Option Name) → CanFork y p name → Represents (fork_at y p name) (fork_on m p) (branch_cells k (number_of y p) to name)
  next-branch none C =
      branches y m k h L p i none C (changed k.state to state_out) k.name (fork_started k) (fork-state y m k h L p i none C state_out refl)
      (fork-names y m k h L p i none C k.name (λ w e. absurd (none≢name e)) (λ x d. refl))
  next-branch (some w) C =
      branches y m k h L p i (some w) C (changed k.state to state_marked) (changed k.name to w) k.started (fork-state y m k h L p i (some w) C state_marked refl)
      (fork-names y m k h L p i (some w) C (changed k.name to w) (λ v e. let z : w ≡ v = cc in changed_same k.name to w ∙ z) (changed-other k.name to w))

  pub forks : (name : Option Name) → CanFork y p name → Represents (fork_at y p name) (fork_on m p) (branch_cells k (number_of y p) (next_number k) name)
  forks name C =
      subst (λ z. Represents (fork_at y p name) (fork_on m p) (branch_cells k (number_of y p) z name)) (sym (number_is y m k h L C.room)) (next-branch name C)
