-- A table that stands for a plain day: its lower half by the steps taken, its upper half by the entries noted.
use Prim.Native.Nat.{ℕ, suc, ◌+◌, ◌<◌}
use mathlib.Core.Bool.{Bool, true}
use mathlib.Core.Path.{◌≡◌, refl, sym, ◌∙◌, ap}
use mathlib.Core.Option.{none, some}
use mathlib.Core.List.{List, [], ◌∷◌, ◌++◌}
use native.Mathlib.Omega.{arith}
use lib.ListN.{length, length-append, length-drop}
use borrow.Author.Tests.{eq-eqb}
use Rattle.diagram.specs.Day.{Day, fresh}
use Rattle.diagram.specs.Steps.{Step, Event, Yield, Fork, Join, Drop, after, run, run_from}
use Rattle.diagram.specs.Accepted.{Accepted, accepted}
use Rattle.diagram.proofs.Order.Runs.{accepted-more, run_step}
use Rattle.cells.specs.Sizes as Lower
use Rattle.entries.specs.Sizes as Upper
use Rattle.entries.specs.Entries.{entry_at}
use Rattle.bills.specs.Bill.{counted}
use Rattle.bills.proofs.Grows.{counted-more}
use Rattle.plain.specs.Record.{PlainDay}
use Rattle.plain.proofs.Steps.{starts_box, sum_both, sum_over}
use Rattle.table.specs.Halves.{low, high, cells_of, is_table}
use Rattle.table.specs.Out.{table_bytes}
use Rattle.table.proofs.Halves.{low_of, high_of}
use Rattle.following.specs.Reached.{by_number, bytes_after, bytes_from, step_bytes}
use Rattle.following.specs.Follow.{BytesFollow, one_more, started_after}
use Rattle.following.specs.Numbers.{NumbersFollow}
use Rattle.following.proofs.Cells.Numbers.{numbers-follow}
use Rattle.following.proofs.Follow.{bytes_follow, choice_is_kept, started_is_kept}

pub record Stands (p : PlainDay) (t : List ℕ) : Type 0 where
  pub steps : List Step
  pub ok : Accepted steps
  pub day_is : p.day ≡ run steps
  pub low_is : low t ≡ bytes_after p.single steps
  pub boxes_are : p.started ≡ sum_over starts_box steps + 1
  pub size : length t ≡ table_bytes
  pub entries_are : (n : ℕ) → n < p.day.updates → entry_at (high t) n ≡ p.entries n

bytes_both : (ss : List Step) (s : Step) (y : Day) (d : List ℕ) → bytes_from y d (ss ++ (s ∷ [])) ≡ step_bytes (bytes_from y d ss) (by_number (run_from y ss) s)
unfolding bytes_from run_from
bytes_both [] s y d = refl
bytes_both (a ∷ ss) s y d = bytes_both ss s (after y a) (step_bytes d (by_number y a))

bytes_step : (single : Bool) (ss : List Step) (s : Step) → bytes_after single (ss ++ (s ∷ [])) ≡ step_bytes (bytes_after single ss) (by_number (run ss) s)
unfolding bytes_after run
bytes_step single ss s = bytes_both ss s fresh _

-- a count that stops, step by step, is the whole count where it stops
same_count : (a b : ℕ) → a ≡ b → counted a ≡ counted b
same_count a b e = rw e

one-counted : (s : Step) (n : ℕ) → one_more (counted n) s ≡ counted (starts_box s + n)
one-counted (Event c r u) n = same_count n (0 + n) (omega arith)
one-counted (Yield c) n = same_count n (0 + n) (omega arith)
one-counted (Fork r none) n = counted-more n ∙ same_count (suc n) (1 + n) (omega arith)
one-counted (Fork r (some name)) n = same_count n (0 + n) (omega arith)
one-counted (Join a b) n = same_count n (0 + n) (omega arith)
one-counted (Drop r) n = same_count n (0 + n) (omega arith)

counted_steps : (ss : List Step) (n : ℕ) → started_after (counted n) ss ≡ counted (sum_over starts_box ss + n)
counted_steps [] n = same_count n (0 + n) (omega arith)
counted_steps (s ∷ ss) n = ap (λ k. started_after k ss) (one-counted s n) ∙ counted_steps ss (starts_box s + n) ∙ same_count (sum_over starts_box ss + (starts_box s + n)) (sum_over starts_box (s ∷ ss) + n) (omega arith)

module _ (p : PlainDay) (t : List ℕ) (S : Stands p t) where
  pub bytes-are : BytesFollow p.day (low t)
  bytes-are = rw (S.day_is, S.low_is) (bytes_follow p.single S.steps S.ok)

  pub numbers-are : NumbersFollow p.day (cells_of t)
  numbers-are = numbers-follow p.day (cells_of t) bytes-are.follow

  -- the choice given to fresh is in its cell
  pub choice-is : (cells_of t).single ≡ p.single
  choice-is = rw S.low_is (choice_is_kept p.single S.steps S.ok)

  -- 02, U14: so is the count of boxes started, until it stops
  pub started-is : (cells_of t).started ≡ counted p.started
  started-is = rw S.low_is (started_is_kept p.single S.steps S.ok ∙ counted_steps S.steps 1 ∙ same_count _ _ (sym S.boxes_are))

  pub is-table : is_table t ≡ true
  unfolding is_table
  is-table = rw (eq-eqb (length t) table_bytes S.size, bytes-are.ranged)

  pub high-size : length (high t) ≡ Upper.entry_bytes
  unfolding high
  high-size = length-drop Lower.lower_bytes t ∙ omega (arith, S.size)

  -- a step taken, with any upper half that has the entries
  pub stands-next : (s : Step) → accepted p.day s ≡ true → (q : PlainDay) → q.day ≡ after p.day s → q.single ≡ p.single → q.started ≡ starts_box s + p.started → (h : List ℕ) → length h ≡ Upper.entry_bytes
      → ((n : ℕ) → n < q.day.updates → entry_at h n ≡ q.entries n) → Stands q (step_bytes (low t) (by_number p.day s) ++ h)
  stands-next s e q d c b h l f = let w = by_number p.day s in record {
    steps = S.steps ++ (s ∷ []);
    ok = ok';
    day_is = d ∙ ap (λ z. after z s) S.day_is ∙ sym (run_step S.steps s);
    low_is = low_of (step_bytes (low t) w) h size' ∙ is ∙ ap (λ b. bytes_after b (S.steps ++ (s ∷ []))) (sym c);
    boxes_are = (let a = S.boxes_are in let z = sum_both starts_box S.steps (s ∷ []) in omega arith);
    size = length-append (step_bytes (low t) w) h ∙ omega (arith, size', l);
    entries_are = λ n k. ap (λ z. entry_at z n) (high_of (step_bytes (low t) w) h size') ∙ f n k;
  }
    where
      ok' : Accepted (S.steps ++ (s ∷ []))
      ok' = accepted-more S.steps s S.ok (ap (λ z. accepted z s) (sym S.day_is) ∙ e)

      is : step_bytes (low t) (by_number p.day s) ≡ bytes_after p.single (S.steps ++ (s ∷ []))
      is = ap (λ z. step_bytes z (by_number p.day s)) S.low_is ∙ ap (λ z. step_bytes (bytes_after p.single S.steps) (by_number z s)) S.day_is ∙ sym (bytes_step p.single S.steps s)

      size' : length (step_bytes (low t) (by_number p.day s)) ≡ Lower.lower_bytes
      size' = ap length is ∙ (bytes_follow p.single (S.steps ++ (s ∷ [])) ok').size
