-- What is known when a step is accepted, read off its checks. Each fact is proved from what its check would say if it failed, so that it does not
-- depend on how the check is written.
use Prim.Native.Nat.{ℕ, suc, ◌<◌}
use mathlib.Core.Bool.{Bool, true, false, false≢true, true≢false, or-true}
use mathlib.Core.Path.{◌≡◌, ◌∙◌, ap, refl, sym}
use mathlib.Core.Option.{Option, none, some}
use native.Mathlib.Omega.{arith}
use lib.Dec.{eqb}
use borrow.Author.Tests.{eqb-true, eqb-false, ne_eqb, ltb-true, not-false}
use Rattle.lists.proofs.Cases.{cases}
use Rattle.lists.specs.Lists.{changed}
use Rattle.lists.proofs.Sums.{any_at}
use Rattle.lists.specs.Names.{Name}
use Rattle.diagram.specs.Sizes.{client_limit, revision_limit}
use Rattle.diagram.specs.Diagram.{Diagram}
use Rattle.diagram.specs.Leads.{leads}
use Rattle.diagram.specs.Numbering.{Numbering}
use Rattle.diagram.specs.Day.{Day, IsOut, out_count}
use Rattle.diagram.specs.Checks.{unknown_client, is_on, open_elsewhere, busy_by_other, busy, stale, none_left, not_joinable, marked}
use Rattle.diagram.specs.Steps.{Step, Event, Yield, Fork, Join, Drop, enter, yield, fork_at, join_into, drop_at, after}
use Rattle.diagram.specs.Accepted.{not_given, misnamed, accepted}
use Rattle.diagram.proofs.Days.Accepting.{drop-tests, event-given, event-tests, fork-given, fork-tests, join-given, join-tests, ruled_out, yield-test}

-- a day after a step that enters no event: the clients and the transactions are as they were
abbrev pub moved : Day → Diagram → ℕ → (ℕ → ℕ) → (ℕ → ℕ) → (ℕ → ℕ) → (ℕ → Bool) → Numbering → (ℕ → Option Name) → Day
moved y d n starts forks terminals joined numbering mark = record {
  diagram = d;
  revisions = n;
  start_of = starts;
  fork_of = forks;
  terminal = terminals;
  joined = joined;
  numbering = numbering;
  mark = mark;
  updates = y.updates;
  last_event = y.last_event;
  open_by = y.open_by;
  transactions = y.transactions;
  transaction = y.transaction;
}

-- a number given out that is not the last one
pub not_last : (s n : ℕ) → s < suc n → eqb s n ≡ false → s < n
not_last s n h e = let k = eqb-false s n e in omega arith

-- what is out after a fork and is not the new revision was out before
pub forked_out : (y : Day) (r : ℕ) (name : Option Name) (s : ℕ) → IsOut (fork_at y r name) s → eqb s y.revisions ≡ false → IsOut y s
forked_out y r name s o e = (not_last s y.revisions o.0 e, rw e at o.1)

-- what is out after a hand-in of b, by a join or a drop, was out before, and is not b
still_out : (joined : ℕ → Bool) (b s : ℕ) → changed joined b true s ≡ false → (joined s ≡ false) × (s ≡ b → ⊥)
still_out joined b s o = cases (eqb s b) (λ e. let f : true ≡ false = rw e at o in absurd (true≢false f)) (λ e. (rw e at o, eqb-false s b e))

pub joined_out : (y : Day) (a b s : ℕ) → IsOut (join_into y a b) s → IsOut y s × (s ≡ b → ⊥)
joined_out y a b s o = let p = still_out y.joined b s o.1 in ((o.0, p.0), p.1)

pub dropped_out : (y : Day) (r s : ℕ) → IsOut (drop_at y r) s → IsOut y s × (s ≡ r → ⊥)
dropped_out y r s o = let p = still_out y.joined r s o.1 in ((o.0, p.0), p.1)

-- a mark is none that is not marked
pub mark_apart : (y : Day) (r s : ℕ) → marked y r ≡ false → marked y s ≡ true → s ≡ r → ⊥
mark_apart y r s u m e = false≢true (sym u ∙ ap (marked y) (sym e) ∙ m)

-- no transaction of a client that P names is open on r
abbrev pub Idle : Day → (ℕ → Type 0) → ℕ → Type 0
Idle y P r = (c : ℕ) → c < client_limit → P c → is_on y (y.open_by c) r ≡ false

pub record CanEnter (y : Day) (c r : ℕ) : Type 0 where
  pub client_ok : c < client_limit
  pub out : IsOut y r
  pub unmarked : marked y r ≡ false
  pub same_revision : (t : ℕ) → y.open_by c ≡ some t → (y.transaction t).revision ≡ r
  pub idle : Idle y (λ o. o ≡ c → ⊥) r
  pub caught_up : (l : ℕ) → y.last_event c ≡ some l → leads y.diagram l (y.terminal r) ≡ true

pub record CanFork (y : Day) (r : ℕ) (name : Option Name) : Type 0 where
  pub out : IsOut y r
  pub idle : Idle y (λ o. Unit {0}) r
  pub room : out_count y < revision_limit
  pub name_ok : misnamed y name ≡ false

pub record CanJoin (y : Day) (a b : ℕ) : Type 0 where
  pub out_a : IsOut y a
  pub out_b : IsOut y b
  pub unmarked_a : marked y a ≡ false
  pub unmarked_b : marked y b ≡ false
  pub idle_a : Idle y (λ o. Unit {0}) a
  pub idle_b : Idle y (λ o. Unit {0}) b
  pub not_main : b ≡ 0 → ⊥
  pub not_self : b ≡ a → ⊥
  pub fork_seen : leads y.diagram (y.fork_of b) (y.terminal a) ≡ true
  pub start_unseen : leads y.diagram (y.start_of b) (y.terminal a) ≡ false

pub record CanDrop (y : Day) (r : ℕ) : Type 0 where
  pub out : IsOut y r
  pub is_mark : marked y r ≡ true

pub data Moves (y : Day) : Day → Type 0 where
  enters : (c r : ℕ) (u : Bool) → CanEnter y c r → Moves y (enter y c r u)
  yields : (c : ℕ) → c < client_limit → Moves y (yield y c (y.open_by c))
  forks_at : (r : ℕ) (name : Option Name) → CanFork y r name → Moves y (fork_at y r name)
  joins_into : (a b : ℕ) → CanJoin y a b → Moves y (join_into y a b)
  drops_of : (r : ℕ) → CanDrop y r → Moves y (drop_at y r)

-- a yield takes no update
pub yield-updates : (y : Day) (c : ℕ) (o : Option ℕ) → (yield y c o).updates ≡ y.updates
yield-updates y c none = refl
yield-updates y c (some t) = refl

module _ (y : Day) where
  given : (r : ℕ) → not_given y r ≡ false → r < y.revisions
  given r e = let l = ltb-true _ y.revisions (not-false _ e) in omega arith

  known : (c : ℕ) → unknown_client c ≡ false → c < client_limit
  unfolding unknown_client
  known c e = let l = ltb-true _ client_limit (not-false _ e) in omega arith

  same_revision : (c r : ℕ) → open_elsewhere y c r ≡ false → (t : ℕ) → y.open_by c ≡ some t → (y.transaction t).revision ≡ r
  unfolding open_elsewhere
  same_revision c r e t q = cases (eqb (y.transaction t).revision r) (λ k. eqb-true _ r k) (λ k. absurd (true≢false (simp (q, k) at e)))

  idle-for : (c r : ℕ) → busy_by_other y c r ≡ false → Idle y (λ o. o ≡ c → ⊥) r
  unfolding busy_by_other
  idle-for c r e o h n = ruled_out (is_on y (y.open_by o) r) (λ q. false≢true (sym e ∙ any_at client_limit _ o h (simp (ne_eqb o c n, q))))

  pub idle-all : (r : ℕ) → busy y r ≡ false → Idle y (λ o. Unit {0}) r
  unfolding busy
  idle-all r e o h n = ruled_out (is_on y (y.open_by o) r) (λ q. false≢true (sym e ∙ any_at client_limit _ o h (simp q)))

  caught_up : (c r : ℕ) → stale y c r ≡ false → (l : ℕ) → y.last_event c ≡ some l → leads y.diagram l (y.terminal r) ≡ true
  unfolding stale
  caught_up c r e l q = cases (leads y.diagram l (y.terminal r)) (λ k. k) (λ k. absurd (true≢false (simp (q, k) at e)))

  -- the four parts of code 11
  pub joinable : (a b : ℕ) → not_joinable y a b ≡ false
      → (eqb b 0 ≡ false) × (eqb b a ≡ false) × (leads y.diagram (y.fork_of b) (y.terminal a) ≡ true) × (leads y.diagram (y.start_of b) (y.terminal a) ≡ false)
  unfolding not_joinable
  joinable a b e = (
    ruled_out (eqb b 0) (λ q. true≢false (simp q at e)),
    ruled_out (eqb b a) (λ q. true≢false (simp (q, or-true) at e)),
    cases (leads y.diagram (y.fork_of b) (y.terminal a)) (λ q. q) (λ q. absurd (true≢false (simp (q, or-true) at e))),
    ruled_out (leads y.diagram (y.start_of b) (y.terminal a)) (λ q. true≢false (simp (q, or-true) at e)),
  )

  pub can-enter : (c r : ℕ) (u : Bool) → accepted y (Event c r u) ≡ true → CanEnter y c r
  can-enter c r u e =
      let t = event-tests y c r u e in
      record {
        client_ok = known c t.0;
        out = (given r (event-given y c r u e), t.1);
        unmarked = t.2;
        same_revision = same_revision c r t.3;
        idle = idle-for c r t.4;
        caught_up = caught_up c r t.5;
      }

  pub can-yield : (c : ℕ) → accepted y (Yield c) ≡ true → c < client_limit
  can-yield c e = known c (yield-test y c e)

  pub can-fork : (r : ℕ) (name : Option Name) → accepted y (Fork r name) ≡ true → CanFork y r name
  unfolding none_left
  can-fork r name e =
      let t = fork-tests y r name e in
      record {
        out = (given r (fork-given y r name e), t.0);
        idle = idle-all r t.1;
        room = (let l = ltb-true _ revision_limit (not-false _ t.2) in omega arith);
        name_ok = t.3;
      }

  pub can-join : (a b : ℕ) → accepted y (Join a b) ≡ true → CanJoin y a b
  can-join a b e =
      let g = join-given y a b e in
      let t = join-tests y a b e in
      let q = joinable a b t.6 in
      record {
        out_a = (given a g.0, t.0);
        out_b = (given b g.1, t.1);
        unmarked_a = t.2;
        unmarked_b = t.3;
        idle_a = idle-all a t.4;
        idle_b = idle-all b t.5;
        not_main = eqb-false b 0 q.0;
        not_self = eqb-false b a q.1;
        fork_seen = q.2;
        start_unseen = q.3;
      }

  pub can-drop : (r : ℕ) → accepted y (Drop r) ≡ true → CanDrop y r
  can-drop r e = let t = drop-tests y r e in record { out = (given r t.0, t.1); is_mark = t.2 }

  pub step-moves : (s : Step) → accepted y s ≡ true → Moves y (after y s)
  unfolding after
  step-moves (Event c r u) e = enters c r u (can-enter c r u e)
  step-moves (Yield c) e = yields c (can-yield c e)
  step-moves (Fork r name) e = forks_at r name (can-fork r name e)
  step-moves (Join a b) e = joins_into a b (can-join a b e)
  step-moves (Drop r) e = drops_of r (can-drop r e)
