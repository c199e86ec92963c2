-- A bundle of a course gives the code of the earliest of its updates and its yield that is refused, sent one by one, and leaves what they leave.
use Prim.Native.Nat.{ℕ, suc, ◌<◌}
use mathlib.Core.Bool.{Bool, true, false, cond}
use mathlib.Core.Path.{◌≡◌, refl, sym, ◌∙◌, ap, subst}
use mathlib.Core.List.{List, [], ◌∷◌}
use lib.Dec.{eqb}
use lib.ListN.{length}
use borrow.Author.Tests.{eq-eqb, eqb-false, eqb-true}
use Rattle.lists.proofs.Cases.{cases, either}
use Rattle.bundles.specs.declared.entry.Entry.{Entry}
use Rattle.boards.specs.Board.{board_bytes}
use Rattle.desk.specs.Calls.{Call, Update, Yield, entries_of}
use Rattle.table.specs.Answers.{after_taken}
use Rattle.table.specs.Halves.{is_table}
use Rattle.table.specs.Out.{Out}
use Rattle.table.specs.Calls.{bundled, yield_out}
use Rattle.table.specs.Served.{Served, on_table}
use Rattle.table.specs.Shared.{count_in, sent_shared, update_shared}
use Rattle.consistency.proofs.Stays.{stays_table}
use Rattle.card.specs.Log.{courses}
use Rattle.card.specs.Courses.{CourseCall, Plain, Tables, gets, is_full, no_course, sharing, written}
use Rattle.card.proofs.Log.{passes_same}
use Rattle.card.proofs.Courses.{bundle_sent, course_is, is_course, served_by_course}
use Rattle.courses.specs.Heard.{heard, tables_after}
use Rattle.courses.specs.Bundles.{BundlesOneByOne, first_code, singly}
use Rattle.courses.proofs.Shared.{sharing_is}
use Rattle.courses.proofs.Told.{others_stay, own-written}

only_code : (k : ℕ) → k ≡ cond (eqb k 0) 0 k
only_code k = cases (eqb k 0) (λ e. rw e (eqb-true k 0 e)) (λ e. rw e)

bundled_code : (t : List ℕ) (o : Out) → (bundled t o).code ≡ o.code
bundled_code t o = cases (eqb o.code 0) (λ e. rw e (sym (eqb-true o.code 0 e))) (λ e. rw e)

bundled-lent : (t : List ℕ) (o : Out) → o.code ≡ 0 → (bundled t o).lent ≡ o.lent
bundled-lent t o e = rw e

bundled_value : (t : List ℕ) (o : Out) → o.code ≡ 0 → (bundled t o).value ≡ count_in t
bundled_value t o e = rw e

module _ (i : ℕ) where
  abbrev calling : Call (List ℕ) → CourseCall
  calling q = record { course = i; ask = Plain q }

  next_is : (ts : Tables) → no_course ts i ≡ false → (q : Call (List ℕ)) → written ts (calling q) i ≡ (sharing (is_full ts i) (ts i) q).table
  next_is ts e q = own-written ts (calling q) i refl ∙ ap (λ (u : Served). u.table) (served_by_course ts i e q)

  -- the others' counts and tables stay, and its own stays a table
  full-next : (ts : Tables) (q : Call (List ℕ)) (n : ℕ) → is_full (written ts (calling q)) i n ≡ is_full ts i n
  unfolding is_full
  full-next ts q n = passes_same _ _ (λ x l. cases (eqb x i) (λ e. rw e) (λ e. rw e (ap count_in (others_stay ts (calling q) x (eqb-false x i e)))))

  course-next : (ts : Tables) → no_course ts i ≡ false → (q : Call (List ℕ)) → no_course (written ts (calling q)) i ≡ false
  course-next ts e q = course_is _ i (record { number = (is_course ts i e).number; tables = by })
    where
      own : is_table (sharing (is_full ts i) (ts i) q).table ≡ true
      own =
          let h = (is_course ts i e).tables i (is_course ts i e).number in
          either (sharing_is (is_full ts i) (ts i) q) (λ s. subst (λ (u : Served). is_table u.table ≡ true) (sym s) ((stays_table (ts i) q).stays h)) (λ s. subst (λ (u : Served). is_table u.table ≡ true) (sym s) h)

      by : (j : ℕ) → j < courses → is_table (written ts (calling q) j) ≡ true
      by j l =
          cases (eqb j i)
          (λ f. subst (λ k. is_table (written ts (calling q) k) ≡ true) (sym (eqb-true j i f)) (ap is_table (next_is ts e q) ∙ own))
          (λ f. ap is_table (others_stay ts (calling q) j (eqb-false j i f)) ∙ (is_course ts i e).tables j l)

  -- the first of some calls, where it has code k
  heard-first : (ts : Tables) (q : Call (List ℕ)) (cs : List CourseCall) → heard i ts (calling q ∷ cs) ≡ record { ask = Plain q; got = gets ts (calling q) } ∷ heard i (written ts (calling q)) cs
  unfolding heard
  heard-first ts q cs = rw (eq-eqb i i refl)

  first_is : (ts : Tables) (q : Call (List ℕ)) (cs : List CourseCall) (k : ℕ) → (gets ts (calling q)).reply.code ≡ k
      → first_code (heard i ts (calling q ∷ cs)) ≡ cond (eqb k 0) (first_code (heard i (written ts (calling q)) cs)) k
  unfolding first_code
  first_is ts q cs k e = ap first_code (heard-first ts q cs) ∙ ap (λ k. cond (eqb k 0) (first_code (heard i (written ts (calling q)) cs)) k) e

  after_first : (ts : Tables) (q : Call (List ℕ)) (cs : List CourseCall) → tables_after ts (calling q ∷ cs) i ≡ tables_after (written ts (calling q)) cs i
  unfolding tables_after
  after_first ts q cs = refl

  -- what a bundle sends, and the calls that it stands for
  record Sent (o : Out) (ts : Tables) (cs : List CourseCall) : Type 0 where
    code : o.code ≡ first_code (heard i ts cs)
    lent : o.code ≡ 0 → o.lent ≡ tables_after ts cs i

  module _ (c n : ℕ) (board : List ℕ) (b : length board ≡ board_bytes) (full : ℕ → Bool) where
    yield-sent : (ts : Tables) → no_course ts i ≡ false → Sent (yield_out (ts i) c board_bytes) ts (calling (Yield c board) ∷ [])
    unfolding first_code tables_after heard
    yield-sent ts e =
        let g : (gets ts (calling (Yield c board))).reply.code ≡ (yield_out (ts i) c board_bytes).code = ap (λ (u : Served). u.reply.code) (served_by_course ts i e (Yield c board)) ∙ rw b in
        record { code = only_code (yield_out (ts i) c board_bytes).code ∙ sym (first_is ts (Yield c board) [] (yield_out (ts i) c board_bytes).code g); lent = λ z. sym (next_is ts e (Yield c board) ∙ rw b) }

    -- a call and, if it is taken, those after it
    goes_on : (ts : Tables) (q : Call (List ℕ)) (cs : List CourseCall) (o : Out) (rest : List ℕ → Out) → gets ts (calling q) ≡ on_table o
        → Sent (rest o.lent) (written ts (calling q)) cs → Sent (after_taken o rest) ts (calling q ∷ cs)
    goes_on ts q cs o rest g R =
        let f = first_is ts q cs o.code (ap (λ (u : Served). u.reply.code) g) in
        cases (eqb o.code 0)
        (λ e. rw e (record { code = R.code ∙ sym (f ∙ rw e); lent = λ z. R.lent z ∙ sym (after_first ts q cs) }))
        (λ e. rw e (record { code = sym (f ∙ rw e); lent = λ z. absurd (eqb-false o.code 0 e z) }))

    update-got : (ts : Tables) → no_course ts i ≡ false → ((k : ℕ) → full k ≡ is_full ts i k) → (k bib v : ℕ) → gets ts (calling (Update c n k bib v)) ≡ on_table (update_shared full (ts i) c n k bib v)
    unfolding update_shared
    update-got ts e same k bib v = served_by_course ts i e (Update c n k bib v) ∙ rw (same (suc (count_in (ts i))))

    sent-one-by-one : (es : List Entry) (ts : Tables) → no_course ts i ≡ false → ((k : ℕ) → full k ≡ is_full ts i k) → Sent (sent_shared full (ts i) c n es) ts (singly i c n es board)
    unfolding sent_shared
    sent-one-by-one [] ts e same = yield-sent ts e
    sent-one-by-one (x ∷ es) ts e same =
        let q : Call (List ℕ) = Update c n x.kind x.bib x.v in
        let us = written ts (calling q) in
        let g = update-got ts e same x.kind x.bib x.v in
        let R = sent-one-by-one es us (course-next ts e q) (λ k. same k ∙ sym (full-next ts q k)) in
        goes_on ts q (singly i c n es board) (update_shared full (ts i) c n x.kind x.bib x.v) (λ d. sent_shared full d c n es) g
        (subst (λ d. Sent (sent_shared full d c n es) us (singly i c n es board)) (own-written ts (calling q) i refl ∙ ap (λ (u : Served). u.table) g) R)

pub bundles_one_by_one : BundlesOneByOne
bundles_one_by_one ts i c n batch board e w b =
    let o = sent_shared (is_full ts i) (ts i) c n (entries_of batch) in
    let R = sent-one-by-one i c n board b (is_full ts i) (entries_of batch) ts e (λ k. refl) in
    let h = bundle_sent ts i c n batch board e w b in
    let k = ap (λ (u : Served). u.reply.code) h ∙ bundled_code (ts i) o in
    record {
      code = k ∙ R.code;
      table = λ z. ap (λ (u : Served). u.table) h ∙ bundled-lent (ts i) o (sym k ∙ z) ∙ R.lent (sym k ∙ z);
      value = λ z. ap (λ (u : Served). u.reply.value) h ∙ bundled_value (ts i) o (sym k ∙ z);
    }
