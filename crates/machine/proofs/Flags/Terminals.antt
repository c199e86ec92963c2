-- What the terminals see after each step; and the flags that say which client has caught up with which revision.
use Prim.Native.Nat.{ℕ, suc, ◌<◌}
use mathlib.Core.Bool.{Bool, true, false, cond, not, ◌||◌, not-not, or-false}
use mathlib.Core.Path.{◌≡◌, refl, ◌∙◌, ap}
use mathlib.Core.Option.{Option, none, some}
use mathlib.Core.List.{◌∷◌}
use native.Mathlib.Omega.{arith}
use lib.ListN.{length}
use lib.Dec.{eqb}
use borrow.Author.Tests.{eqb-true, ne_eqb}
use Rattle.lists.specs.Lists.{changed}
use Rattle.lists.proofs.Cases.{cases}
use Rattle.lists.proofs.Changed.{changed-other, changed_same}
use Rattle.diagram.specs.Diagram.{Diagram, Vertex, event, fork, join, start}
use Rattle.diagram.specs.Leads.{leads}
use Rattle.lists.specs.Names.{Name}
use Rattle.diagram.specs.Day.{Day}
use Rattle.diagram.specs.Checks.{missing}
use Rattle.diagram.specs.Steps.{enter, new_update, fork_at, join_into}
use Rattle.diagram.proofs.Graph.Paths.{leads_from_newer, leads_newest, leads_old, leads_to_newest}
use Rattle.diagram.proofs.Order.Growth.{Fine}

-- at revision x's terminal revision z's start, or its fork, is seen
abbrev pub start_seen : Day → ℕ → ℕ → Bool
start_seen y z x = leads y.diagram (y.start_of z) (y.terminal x)

abbrev pub fork_seen : Day → ℕ → ℕ → Bool
fork_seen y z x = leads y.diagram (y.fork_of z) (y.terminal x)

-- client c has caught up with revision r: a path leads from its last event, if any, to the terminal
abbrev pub caught : Day → ℕ → ℕ → Bool
caught y c r = not (missing y.diagram (y.last_event c) (y.terminal r))

-- the flag follows what the terminals see
follow : (d e : Diagram) (o : Option ℕ) (x z : ℕ) → ((l : ℕ) → o ≡ some l → leads e l z ≡ leads d l x) → not (missing e o z) ≡ not (missing d o x)
follow d e none x z f = refl
follow d e (some l) x z f = rw (f l refl)

follow-two : (d e : Diagram) (o : Option ℕ) (x w z : ℕ) → ((l : ℕ) → o ≡ some l → leads e l z ≡ (leads d l x || leads d l w)) → not (missing e o z) ≡ (not (missing d o x) || not (missing d o w))
follow-two d e none x w z f = refl
follow-two d e (some l) x w z f = rw (f l refl, not-not (leads d l x), not-not (leads d l w)) (not-not _)

module _ (y : Day) (F : Fine y) where
  abbrev d : Diagram
  d = y.diagram

  low : (x : ℕ) → y.terminal x < length d
  low x = F.sound.real.linked.bound x

  start-low : (z : ℕ) → y.start_of z < length d
  start-low z = F.sound.real.starts_low z

  fork-low : (z : ℕ) → y.fork_of z < length d
  fork-low z = F.sound.real.forks_low z

  last_low : (c l : ℕ) → y.last_event c ≡ some l → l < length d
  last_low = F.sound.sessions.last_low

  -- an event: the terminals see of the older vertices what they saw
  module _ (c r : ℕ) (u : Bool) where
    abbrev v : Vertex
    v = event (y.terminal r) c (new_update y u)

    enter-sees : (l x : ℕ) → l < length d → leads (v ∷ d) l (changed y.terminal r (length d) x) ≡ leads d l (y.terminal x)
    enter-sees l x h =
        cases (eqb x r)
        (λ e. rw (e, leads_to_newest v d l h, eqb-true x r e) (or-false _))
        (λ e. rw e (leads_old v d l (y.terminal x) (low x)))

    pub enter-start : (z x : ℕ) → start_seen (enter y c r u) z x ≡ start_seen y z x
    enter-start z x = enter-sees (y.start_of z) x (start-low z)

    pub enter-fork : (z x : ℕ) → fork_seen (enter y c r u) z x ≡ fork_seen y z x
    enter-fork z x = enter-sees (y.fork_of z) x (fork-low z)

    -- c has caught up with r alone, and the others as they had
    own-sees : (x : ℕ) → leads (v ∷ d) (length d) (changed y.terminal r (length d) x) ≡ eqb x r
    own-sees x =
        cases (eqb x r)
        (λ e. rw e (leads_newest v d))
        (λ e. rw e (leads_old v d (length d) (y.terminal x) (low x) ∙ leads_from_newer d (length d) (y.terminal x) (omega arith)))

    pub caught-own : (x : ℕ) → caught (enter y c r u) c x ≡ eqb x r
    caught-own x = rw (changed_same y.last_event c (some (length d))) (not-not _ ∙ own-sees x)

    pub caught-other : (o x : ℕ) → (o ≡ c → ⊥) → caught (enter y c r u) o x ≡ caught y o x
    caught-other o x n = rw (changed-other y.last_event c (some (length d)) o n) (follow d (v ∷ d) (y.last_event o) (y.terminal x) ((enter y c r u).terminal x) (λ l e. enter-sees l x (last_low o l e)))

  -- a fork: the older terminals see what they saw, the new one what the forker's saw
  module _ (r : ℕ) (name : Option Name) where
    abbrev n : ℕ
    n = y.revisions

    abbrev ys : Day
    ys = fork_at y r name

    abbrev fv : Vertex
    fv = fork (y.terminal r)

    abbrev sv : Vertex
    sv = start (length d)

    -- from any vertex but the new start: by the fork vertex, or as it was
    at_old : (l x : ℕ) → (x ≡ n → ⊥) → leads ys.diagram l (ys.terminal x) ≡ cond (eqb x r) (leads (fv ∷ d) l (length d)) (leads d l (y.terminal x))
    at_old l x k =
        cases (eqb x r)
        (λ e. rw (ne_eqb x n k, e) (leads_old sv (fv ∷ d) l (length d) (omega arith)))
        (λ e. rw (ne_eqb x n k, e) (leads_old sv (fv ∷ d) l (y.terminal x) (omega (arith, low x)) ∙ leads_old fv d l (y.terminal x) (low x)))

    fork-sees : (l x : ℕ) → l < length d → (x ≡ n → ⊥) → leads ys.diagram l (ys.terminal x) ≡ leads d l (y.terminal x)
    fork-sees l x h k = at_old l x k ∙ cases (eqb x r) (λ e. rw (e, leads_to_newest fv d l h, eqb-true x r e) (or-false _)) (λ e. rw e)

    fork-new : (l : ℕ) → l < length d → leads ys.diagram l (ys.terminal n) ≡ leads d l (y.terminal r)
    fork-new l h = rw (changed_same (changed y.terminal r (length d)) n (suc (length d)), leads_to_newest sv (fv ∷ d) l (omega arith), leads_to_newest fv d l h, or-false (leads d l (y.terminal r))) (or-false _)

    pub fork-start : (z x : ℕ) → (z ≡ n → ⊥) → (x ≡ n → ⊥) → start_seen ys z x ≡ start_seen y z x
    fork-start z x j k = ap (λ l. leads ys.diagram l (ys.terminal x)) (changed-other y.start_of n _ z j) ∙ fork-sees (y.start_of z) x (start-low z) k

    pub fork-start-new : (z : ℕ) → (z ≡ n → ⊥) → start_seen ys z n ≡ start_seen y z r
    fork-start-new z j = ap (λ l. leads ys.diagram l (ys.terminal n)) (changed-other y.start_of n _ z j) ∙ fork-new (y.start_of z) (start-low z)

    pub fork-fork : (z x : ℕ) → (z ≡ n → ⊥) → (x ≡ n → ⊥) → fork_seen ys z x ≡ fork_seen y z x
    fork-fork z x j k = ap (λ l. leads ys.diagram l (ys.terminal x)) (changed-other y.fork_of n _ z j) ∙ fork-sees (y.fork_of z) x (fork-low z) k

    pub fork-fork-new : (z : ℕ) → (z ≡ n → ⊥) → fork_seen ys z n ≡ fork_seen y z r
    fork-fork-new z j = ap (λ l. leads ys.diagram l (ys.terminal n)) (changed-other y.fork_of n _ z j) ∙ fork-new (y.fork_of z) (fork-low z)

    -- the new revision's start is seen at its own terminal alone, its fork at the forker's
    pub start-own : start_seen ys n n ≡ true
    start-own = rw (changed_same y.start_of n (suc (length d)), changed_same (changed y.terminal r (length d)) n (suc (length d))) (leads_newest sv (fv ∷ d))

    pub start_none : (x : ℕ) → (x ≡ n → ⊥) → start_seen ys n x ≡ false
    start_none x k =
        ap (λ l. leads ys.diagram l (ys.terminal x)) (changed_same y.start_of n (suc (length d))) ∙ at_old (suc (length d)) x k
        ∙ cases (eqb x r) (λ e. rw e (leads_from_newer (fv ∷ d) (suc (length d)) (length d) (omega arith))) (λ e. rw e (leads_from_newer d (suc (length d)) (y.terminal x) (omega arith)))

    pub fork_by : (x : ℕ) → (x ≡ n → ⊥) → fork_seen ys n x ≡ eqb x r
    fork_by x k =
        ap (λ l. leads ys.diagram l (ys.terminal x)) (changed_same y.fork_of n (length d)) ∙ at_old (length d) x k
        ∙ cases (eqb x r) (λ e. rw e (leads_newest fv d)) (λ e. rw e (leads_from_newer d (length d) (y.terminal x) (omega arith)))

    pub caught-fork : (o x : ℕ) → (x ≡ n → ⊥) → caught ys o x ≡ caught y o x
    caught-fork o x k = follow d ys.diagram (y.last_event o) (y.terminal x) (ys.terminal x) (λ l e. fork-sees l x (last_low o l e) k)

    pub caught-forked : (o : ℕ) → caught ys o n ≡ caught y o r
    caught-forked o = follow d ys.diagram (y.last_event o) (y.terminal r) (ys.terminal n) (λ l e. fork-new l (last_low o l e))

  -- a join: the joiner's terminal sees what either saw
  module _ (a b : ℕ) where
    abbrev jv : Vertex
    jv = join (y.terminal a) (y.terminal b)

    join-sees : (l x : ℕ) → (x ≡ a → ⊥) → leads (jv ∷ d) l (changed y.terminal a (length d) x) ≡ leads d l (y.terminal x)
    join-sees l x k = rw (changed-other y.terminal a (length d) x k) (leads_old jv d l (y.terminal x) (low x))

    join-joiner : (l : ℕ) → l < length d → leads (jv ∷ d) l (changed y.terminal a (length d) a) ≡ (leads d l (y.terminal a) || leads d l (y.terminal b))
    join-joiner l h = rw (changed_same y.terminal a (length d), leads_to_newest jv d l h, or-false (leads d l (y.terminal b)))

    pub join-start : (z x : ℕ) → (x ≡ a → ⊥) → start_seen (join_into y a b) z x ≡ start_seen y z x
    join-start z x k = join-sees (y.start_of z) x k

    pub join-start-joiner : (z : ℕ) → start_seen (join_into y a b) z a ≡ (start_seen y z a || start_seen y z b)
    join-start-joiner z = join-joiner (y.start_of z) (start-low z)

    pub join-fork : (z x : ℕ) → (x ≡ a → ⊥) → fork_seen (join_into y a b) z x ≡ fork_seen y z x
    join-fork z x k = join-sees (y.fork_of z) x k

    pub join-fork-joiner : (z : ℕ) → fork_seen (join_into y a b) z a ≡ (fork_seen y z a || fork_seen y z b)
    join-fork-joiner z = join-joiner (y.fork_of z) (fork-low z)

    pub caught-join : (o x : ℕ) → (x ≡ a → ⊥) → caught (join_into y a b) o x ≡ caught y o x
    caught-join o x k = follow d (jv ∷ d) (y.last_event o) (y.terminal x) ((join_into y a b).terminal x) (λ l e. join-sees l x k)

    pub caught-joiner : (o : ℕ) → caught (join_into y a b) o a ≡ (caught y o a || caught y o b)
    caught-joiner o = follow-two d (jv ∷ d) (y.last_event o) (y.terminal a) (y.terminal b) ((join_into y a b).terminal a) (λ l e. join-joiner l (last_low o l e))
