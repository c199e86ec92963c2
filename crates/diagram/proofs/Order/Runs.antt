-- Runs of accepted steps in parts, and what holds along them.
use Prim.Native.Nat.{ℕ, ◌<◌}
use mathlib.Core.Bool.{true, false, true≢false}
use mathlib.Core.Path.{◌∙◌, ◌≡◌, ap, refl, sym}
use mathlib.Core.Option.{Option, none, some}
use mathlib.Core.List.{List, Memᴰ, [], ◌++◌, ◌∷◌, append_assoc, append-nil}
use native.Mathlib.Omega.{arith}
use lib.Dec.{eqb}
use Rattle.lists.proofs.Cases.{cases}
use Rattle.lists.proofs.Changed.{changed-other}
use Rattle.diagram.proofs.Days.Moves.{Moves, drops_of, enters, forks_at, joins_into, step-moves, yields}
use Rattle.diagram.proofs.Days.Marking.{Marks, marks-fresh, marks-moves}
use Rattle.diagram.proofs.Days.Naming.{Named, named-fresh, named-moves}
use Rattle.diagram.proofs.Order.Growth.{Fine, Older, extends, fine_fresh, fine_moves, older_moves, older_trans, same}
use Rattle.diagram.proofs.Order.Numbered.{numbered-fresh, numbered_moves}
use Rattle.diagram.specs.Arbitration.{Extends, Numbered}
use Rattle.diagram.specs.Day.{Day, fresh}
use Rattle.diagram.specs.Views.{view}
use Rattle.diagram.specs.Steps.{Step, after, run, run_from, yield}
use Rattle.diagram.specs.Accepted.{Accepted, AcceptedFrom, accepted}

-- a run in two parts, and what is accepted of it
pub run_both : (a b : List Step) (y : Day) → run_from y (a ++ b) ≡ run_from (run_from y a) b
unfolding run_from
run_both [] b y = refl
run_both (s ∷ a) b y = run_both a b (after y s)

pub run-append : (a b : List Step) → run (a ++ b) ≡ run_from (run a) b
unfolding run
run-append a b = run_both a b fresh

pub run_step : (a : List Step) (s : Step) → run (a ++ (s ∷ [])) ≡ after (run a) s
unfolding run_from
run_step a s = run-append a (s ∷ [])

first_from : (a b : List Step) (y : Day) → AcceptedFrom y (a ++ b) → AcceptedFrom y a
first_from [] b y A = tt
first_from (s ∷ a) b y A = (A.0, first_from a b (after y s) A.1)

rest_from : (a b : List Step) (y : Day) → AcceptedFrom y (a ++ b) → AcceptedFrom (run_from y a) b
unfolding run_from
rest_from [] b y A = A
rest_from (s ∷ a) b y A = rest_from a b (after y s) A.1

pub accepted_first : (a b : List Step) → Accepted (a ++ b) → Accepted a
accepted_first a b = first_from a b fresh

pub accepted_rest : (a b : List Step) → Accepted (a ++ b) → AcceptedFrom (run a) b
unfolding run
accepted_rest a b = rest_from a b fresh

pub accepted_both : (a b : List Step) (y : Day) → AcceptedFrom y a → AcceptedFrom (run_from y a) b → AcceptedFrom y (a ++ b)
unfolding run_from
accepted_both [] b y A B = B
accepted_both (s ∷ a) b y A B = (A.0, accepted_both a b (after y s) A.1 B)

pub accepted-more : (ss : List Step) (s : Step) → Accepted ss → accepted (run ss) s ≡ true → Accepted (ss ++ (s ∷ []))
unfolding run
accepted-more ss s A e = accepted_both ss (s ∷ []) fresh A (e, tt)

-- what each step keeps holds after every run
pub along : (P : Day → Type 0) → ((y : Day) (s : Step) → accepted y s ≡ true → P y → P (after y s)) → (ss : List Step) (y : Day) → AcceptedFrom y ss → P y → P (run_from y ss)
unfolding run_from
along P keep [] y A p = p
along P keep (s ∷ ss) y A p = along P keep ss (after y s) A.1 (keep y s A.0 p)

-- the same of steps that are all in a list
pub along_in : (P : Day → Type 0) (all : List Step) → ((y : Day) (s : Step) → Memᴰ s all → accepted y s ≡ true → P y → P (after y s))
    → (ss : List Step) → ((s : Step) → Memᴰ s ss → Memᴰ s all) → (y : Day) → AcceptedFrom y ss → P y → P (run_from y ss)
unfolding run_from
along_in P all keep [] f y A p = p
along_in P all keep (s ∷ ss) f y A p = along_in P all keep ss (λ t i. f t (Memᴰ.tail i)) (after y s) A.1 (keep y s (f s (Memᴰ.head refl)) A.0 p)

pub fine_step : (y : Day) (s : Step) → accepted y s ≡ true → Fine y → Fine (after y s)
fine_step y s e F = fine_moves y (after y s) F (step-moves y s e)

pub fine_run : (ss : List Step) → Accepted ss → Fine (run ss)
unfolding run
fine_run ss A = along Fine fine_step ss fresh A fine_fresh

pub numbered-run : (ss : List Step) → Accepted ss → Numbered (run ss).diagram (run ss).updates
unfolding run
numbered-run ss A = along (λ y. Numbered y.diagram y.updates) (λ y s e N. numbered_moves y (after y s) N (step-moves y s e)) ss fresh A numbered-fresh

pub older_from : (ss : List Step) (y : Day) → AcceptedFrom y ss → Older y.diagram (run_from y ss).diagram
older_from ss y A = along (λ z. Older y.diagram z.diagram) (λ z s e o. older_trans o (older_moves z (after z s) (step-moves z s e))) ss y A same

pub named-run : (ss : List Step) → Accepted ss → Named (run ss)
unfolding run
named-run ss A = along Named (λ y s e N. named-moves y N (after y s) (step-moves y s e)) ss fresh A named-fresh

pub marks-run : (ss : List Step) → Accepted ss → Marks (run ss)
unfolding run
marks-run ss A = along Marks (λ y s e M. marks-moves y M (after y s) (step-moves y s e)) ss fresh A marks-fresh

-- a revision is there for good, and one that is joined stays so
pub stays_there : (y z : Day) → Moves y z → (r : ℕ) → r < y.revisions → r < z.revisions
stays_there y z (enters c s u E) r l = l
stays_there y z (yields c h) r l = by (y.open_by c)
  where
    by : (o : Option ℕ) → r < (yield y c o).revisions
    by none = l
    by (some t) = l
stays_there y z (forks_at s name C) r l = omega arith
stays_there y z (joins_into a b C) r l = l
stays_there y z (drops_of s D) r l = l

stays_joined : (y z : Day) → Moves y z → (r : ℕ) → r < y.revisions → y.joined r ≡ true → z.joined r ≡ true
stays_joined y z (enters c s u E) r l j = j
stays_joined y z (yields c h) r l j = by (y.open_by c)
  where
    by : (o : Option ℕ) → (yield y c o).joined r ≡ true
    by none = j
    by (some t) = j
stays_joined y z (forks_at s name C) r l j = changed-other y.joined y.revisions false r (λ e. omega arith) ∙ j
stays_joined y z (joins_into a b C) r l j = cases (eqb r b) (λ e. rw e) (λ e. rw e j)
stays_joined y z (drops_of s D) r l j = cases (eqb r s) (λ e. rw e) (λ e. rw e j)

pub joined_from : (ss : List Step) (y : Day) → AcceptedFrom y ss → (r : ℕ) → r < y.revisions → y.joined r ≡ true → (run_from y ss).joined r ≡ true
unfolding run_from
joined_from [] y A r l j = j
joined_from (s ∷ ss) y A r l j = let m = step-moves y s A.0 in joined_from ss (after y s) A.1 r (stays_there y (after y s) m r l) (stays_joined y (after y s) m r l j)

-- so the list of a revision that stays out grows along every run
pub extends-run : (ss : List Step) (y : Day) → Fine y → AcceptedFrom y ss → Extends y (run_from y ss)
unfolding run_from
extends-run [] y F A r o q = ([], sym (append-nil _))
extends-run (s ∷ ss) y F A r o q =
    let m = step-moves y s A.0 in
    let there = stays_there y (after y s) m r o.0 in
    cases ((after y s).joined r)
    (λ j. absurd (true≢false (sym (joined_from ss (after y s) A.1 r there j) ∙ q.1)))
    (λ j.
    let a = extends y (after y s) F m r o (there, j) in
    let b = extends-run ss (after y s) (fine_step y s A.0 F) A.1 r (there, j) q in
    (a.0 ++ b.0, b.1 ∙ ap (λ l. l ++ b.0) a.1 ∙ append_assoc (view y.diagram (y.terminal r)) a.0 b.0))
