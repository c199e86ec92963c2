-- The card's room for a course as one number.
use Prim.Native.Nat.{ℕ, suc, ◌+◌, ◌-◌, ◌<◌}
use mathlib.Core.Bool.{Bool, true, false, cond, not}
use mathlib.Core.Path.{◌≡◌, refl, sym, ◌∙◌, ap}
use mathlib.Core.List.{List, [], ◌∷◌}
use native.Mathlib.Omega.{arith}
use lib.Dec.{eqb, ltb}
use lib.ListN.{length}
use borrow.Author.Tests.{le-ltb, lt-ltb, ltb-false, ltb-true}
use Rattle.lists.specs.Lists.{changed}
use Rattle.lists.specs.Sums.{any_below}
use Rattle.lists.proofs.Cases.{cases, or_right, same_truth}
use Rattle.lists.proofs.Sums.{any_at}
use Rattle.bundles.specs.declared.entry.Entry.{Entry}
use Rattle.desk.specs.Calls.{Call, Update, Query, Yield, Fork, Join, Sync, Mark, Drop, Bundle, Looks, entries_of}
use Rattle.desk.specs.Checks.{checks, settle}
use Rattle.table.specs.Answers.{refused}
use Rattle.table.specs.Halves.{is_table}
use Rattle.table.specs.Out.{Out}
use Rattle.table.specs.Calls.{asked, bundled}
use Rattle.table.specs.Served.{on_board, on_table}
use Rattle.table.specs.Shared.{above, batch_shared, count_in, sent_shared, update_shared}
use Rattle.table.proofs.Shared.{batch_alone, bundle_is, update-alone}
use Rattle.card.specs.Log.{assured, card, courses, larger, logged, passes}
use Rattle.card.specs.Courses.{Plain, Tables, counts, course_served, is_full, no_course, sharing, four}
use Rattle.card.specs.Room.{AloneByMost, CoursesByNumber, beside, most, served_beside}
use Rattle.card.proofs.Log.{at-least, larger-assured}
use Rattle.card.proofs.Ones.{no_table}

larger-above : (n : ℕ) → assured < n → larger n ≡ n
unfolding larger
larger-above n l = rw (lt-ltb assured n l)

-- a count makes the sum pass exactly if it is above the most that the others leave
passes-above : (others n : ℕ) → 0 < n → ltb card (others + larger n) ≡ above (most others) n
unfolding most
passes-above others n z =
    let b = at-least n in
    cases (ltb (card - assured) others)
    (λ e. let l = ltb-true (card - assured) others e in rw e (lt-ltb card (others + larger n) (omega arith) ∙ sym (lt-ltb 0 n z)))
    (λ e. let l = ltb-false (card - assured) others e in rw e (
    cases (ltb assured n)
    (λ f. let g = larger-above n (ltb-true assured n f) in same_truth _ _
    (λ h. let k = ltb-true card (others + larger n) h in lt-ltb (card - others) n (omega arith))
    (λ h. let k = ltb-true (card - others) n h in lt-ltb card (others + larger n) (omega arith)))
    (λ f. let m = ltb-false assured n f in let g = larger-assured n m in le-ltb card (others + larger n) (omega arith) ∙ sym (le-ltb (card - others) n (omega arith)))))

-- the same room, asked of counts after an update
module _ (full other : ℕ → Bool) (same : (n : ℕ) → full (suc n) ≡ other (suc n)) where
  update_same : (t : List ℕ) (c n k bib v : ℕ) → update_shared full t c n k bib v ≡ update_shared other t c n k bib v
  unfolding update_shared
  update_same t c n k bib v = rw (same (count_in t))

  sent_same : (es : List Entry) (t : List ℕ) (c n : ℕ) → sent_shared full t c n es ≡ sent_shared other t c n es
  unfolding sent_shared
  sent_same [] t c n = refl
  sent_same (e ∷ es) t c n = let u = update_shared other t c n e.kind e.bib e.v in rw (update_same t c n e.kind e.bib e.v) (ap (λ (o : Out). cond (eqb u.code 0) o u) (sent_same es u.lent c n))

  shared_same : (t : List ℕ) (q : Call (List ℕ)) → sharing full t q ≡ sharing other t q
  unfolding batch_shared
  shared_same t (Update c n k bib v) = ap on_table (update_same t c n k bib v)
  shared_same t (Query c n bib) = refl
  shared_same t (Yield c board) = refl
  shared_same t (Fork n) = refl
  shared_same t (Join n m board) = refl
  shared_same t (Sync m board) = refl
  shared_same t (Mark n name) = refl
  shared_same t (Drop name) = refl
  shared_same t (Bundle c n batch board) =
      ap (λ o. on_board t board (settle (checks (asked t) (Bundle c n batch (length board))) (refused t) (bundled t o))) (sent_same (entries_of batch) t c n)
  shared_same t (Looks l) = refl

-- j, k and l are the courses beside i
record Others (i j k l : ℕ) : Type 0 where
  own : i < courses
  first : j < courses
  second : k < courses
  third : l < courses
  all : (ts : Tables) → is_table (ts i) ≡ true → is_table (ts j) ≡ true → is_table (ts k) ≡ true → is_table (ts l) ≡ true → no_course ts i ≡ false
  sum : (f : ℕ → ℕ) (n : ℕ) → logged (changed f i n) ≡ larger (f j) + larger (f k) + larger (f l) + larger n

module _ {i j k l : ℕ} (O : Others i j k l) (ts : Tables) where
  abbrev left : ℕ → Bool
  left = above (most (beside (ts j) (ts k) (ts l)))

  full-above : (n : ℕ) → is_full ts i (suc n) ≡ left (suc n)
  unfolding is_full passes
  full-above n = ap (ltb card) (O.sum (counts ts) (suc n)) ∙ passes-above (beside (ts j) (ts k) (ts l)) (suc n) (omega arith)

  missing : (x : ℕ) → x < courses → is_table (ts x) ≡ false → no_course ts i ≡ true
  unfolding no_course
  missing x m e = or_right (not (ltb i courses)) _ (any_at courses (λ y. not (is_table (ts y))) x m (rw e))

  by-others : (q : Call (List ℕ)) → course_served ts i (Plain q) ≡ served_beside (ts j) (ts k) (ts l) (ts i) q
  unfolding course_served served_beside
  by-others q =
      cases (is_table (ts j))
      (λ a. cases (is_table (ts k))
      (λ b. cases (is_table (ts l))
      (λ c. cases (is_table (ts i))
      (λ d. rw (O.all ts d a b c, a, b, c) (shared_same (is_full ts i) left full-above (ts i) q))
      (λ d. rw (missing i O.own d, a, b, c) (sym (no_table (ts i) d left q))))
      (λ c. rw (missing l O.third c, a, b, c)))
      (λ b. rw (missing k O.second b, a, b)))
      (λ a. rw (missing j O.first a, a))

others_0 : Others 0 1 2 3
unfolding no_course any_below logged
others_0 = record { own = omega arith; first = omega arith; second = omega arith; third = omega arith; all = λ ts d a b c. rw (c, b, a, d); sum = λ f n. omega arith }

others_1 : Others 1 0 2 3
unfolding no_course any_below logged
others_1 = record { own = omega arith; first = omega arith; second = omega arith; third = omega arith; all = λ ts d a b c. rw (c, b, d, a); sum = λ f n. omega arith }

others_2 : Others 2 0 1 3
unfolding no_course any_below logged
others_2 = record { own = omega arith; first = omega arith; second = omega arith; third = omega arith; all = λ ts d a b c. rw (c, d, b, a); sum = λ f n. omega arith }

others_3 : Others 3 0 1 2
unfolding no_course any_below logged
others_3 = record { own = omega arith; first = omega arith; second = omega arith; third = omega arith; all = λ ts d a b c. rw (d, c, b, a); sum = λ f n. omega arith }

pub by_number : CoursesByNumber
unfolding four
by_number a b c d q =
    let ts = four a b c d in
    record { first = by-others others_0 ts q; second = by-others others_1 ts q; third = by-others others_2 ts q; fourth = by-others others_3 ts q }

pub alone_by_most : AloneByMost
alone_by_most t (Update c n k bib v) = ap on_table (update-alone t c n k bib v)
alone_by_most t (Query c n bib) = refl
alone_by_most t (Yield c board) = refl
alone_by_most t (Fork n) = refl
alone_by_most t (Join n m board) = refl
alone_by_most t (Sync m board) = refl
alone_by_most t (Mark n name) = refl
alone_by_most t (Drop name) = refl
alone_by_most t (Bundle c n batch board) = ap (on_board t board) (batch_alone t c n batch (length board)) ∙ sym (bundle_is t c n batch board)
alone_by_most t (Looks l) = refl
