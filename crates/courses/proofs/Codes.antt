-- When a call of a course has 1, and when 20, of any four buffers.
use Prim.Native.Nat.{ℕ, suc, ◌<◌}
use mathlib.Core.Bool.{Bool, true, false, ◌&&◌, true≢false}
use mathlib.Core.Logic.{◌↔◌}
use mathlib.Core.Path.{◌≡◌, refl, sym, ◌∙◌, ap, subst}
use mathlib.Core.List.Memᴰ
use mathlib.Core.List.{List, [], ◌∷◌}
use native.Mathlib.Omega.{arith}
use lib.Dec.{eqb, ltb}
use lib.ListN.{length}
use borrow.Author.Tests.{eqb-true, lt-ltb, ltb-true}
use Rattle.lists.specs.Lists.{◌∈◌}
use Rattle.lists.specs.Arranged.{member}
use Rattle.lists.proofs.Cases.{and-true, cases, cond_all, either}
use Rattle.lists.proofs.Keep.{in_member}
use Rattle.bundles.specs.declared.entry.Entry.{Entry}
use Rattle.desk.specs.Calls.{Call, Update, Query, Yield, Fork, Join, Sync, Mark, Drop, Bundle, Looks, Show, Fill, Preview, Verify, Bill, entries_of, call_on}
use Rattle.desk.specs.Checks.{checks, settle}
use Rattle.desk.specs.Listed.{codes_for}
use Rattle.plain.specs.Fills.{enters}
use Rattle.table.specs.Answers.{refused}
use Rattle.table.specs.Out.{Out}
use Rattle.table.specs.Calls.{asked, sent_out, bundled, update_out}
use Rattle.table.specs.Served.{Served, on_board, served}
use Rattle.table.specs.Shared.{batch_shared, finds_full, sent_shared, unless_full, update_shared}
use Rattle.table.proofs.Shared.{bundle_is}
use Rattle.consistency.proofs.Refusals.{fresh-refused, fresh-refused_exactly, refusals_change_nothing}
use Rattle.consistency.proofs.Stays.{stays_table}
use Rattle.card.specs.Log.{courses}
use Rattle.card.specs.Courses.{Ask, Fresh, Plain, Tables, counts, course_served, is_full, no_course, no_fresh, sharing}
use Rattle.card.proofs.Log.{over-passes, passes_over}
use Rattle.card.proofs.Courses.{IsCourse, is_course}
use Rattle.courses.specs.Heard.{alone}
use Rattle.courses.specs.Claims.{IsTurnedAway, OnesExactly, RefusalsChangeNothing, TwentyByUpdates, TwentyExactly, codes_asked}
use Rattle.courses.proofs.Shared.{sharing_is}
use Rattle.courses.proofs.Told.{refused-alone}

-- a table alone never gives 20
unlisted : (q : Call (List ℕ)) → member 20 (codes_for q) ≡ false
unlisted (Update c n k bib v) = refl
unlisted (Query c n bib) = refl
unlisted (Yield c board) = refl
unlisted (Fork n) = refl
unlisted (Join n m board) = refl
unlisted (Sync m board) = refl
unlisted (Mark n name) = refl
unlisted (Drop name) = refl
unlisted (Bundle c n batch board) = refl
unlisted (Looks (Show n sheet)) = refl
unlisted (Looks (Fill n)) = refl
unlisted (Looks (Preview n m bib)) = refl
unlisted (Looks (Verify file)) = refl
unlisted (Looks (Bill member)) = refl

pub never_twenty : (t : List ℕ) (q : Call (List ℕ)) → (served t q).reply.code ≡ 20 → ⊥
never_twenty t q e =
    let r = refusals_change_nothing t q (λ z. omega arith) in
    true≢false (sym (in_member 20 (codes_for q) (subst (λ k. k ∈ codes_for q) e r.number)) ∙ unlisted q)

sharing-one : (ts : Tables) (i : ℕ) (q : Call (List ℕ)) → IsCourse ts i → (sharing (is_full ts i) (ts i) q).reply.code ≡ 1 → ⊥
sharing-one ts i q C e =
    either (sharing_is (is_full ts i) (ts i) q)
    (λ s. true≢false (sym (C.tables i C.number) ∙ (stays_table (ts i) q).one.0 (sym (ap (λ (u : Served). u.reply.code) s) ∙ e)))
    (λ s. let z : (sharing (is_full ts i) (ts i) q).reply.code ≡ 20 = ap (λ (u : Served). u.reply.code) s in omega arith)

pub ones_exactly : OnesExactly
unfolding course_served no_fresh
ones_exactly ts i = record {
  call = λ q. cases (no_course ts i) (λ e. (λ h. e, λ h. rw e)) (λ e. (rw e (λ h. absurd (sharing-one ts i q (is_course ts i e) h)), λ h. absurd (true≢false (sym h ∙ e))));
  fresh = λ single board.
      let F = (fresh-refused_exactly (ts i) single board).one in
      cases (ltb i courses)
      (λ e. rw e (λ h. λ both. F.0 h both.1, λ h. F.1 (λ l. h (ltb-true i courses e, l))))
      (λ e. rw e (λ h. λ both. true≢false (sym (lt-ltb i courses both.0) ∙ e), λ h. refl));
}

-- 20 of an update that the table alone answers with another code
unless_twenty : (full : Bool) (t : List ℕ) (o : Out) → (o.code ≡ 20 → ⊥) → ((unless_full full t o).code ≡ 20) ↔ ((o.code ≡ 0) × (full ≡ true))
unfolding finds_full
unless_twenty full t o n = (
  cases (eqb o.code 0 && full) (λ e. λ h. let b = and-true (eqb o.code 0) full e in (eqb-true o.code 0 b.0, b.1)) (λ e. rw e (λ h. absurd (n h))),
  λ h. rw (h.0, h.1),
)

pub twenty_exactly : TwentyExactly
unfolding course_served update_shared is_full
twenty_exactly ts i c n k bib v =
    let full = is_full ts i (suc (counts ts i)) in
    let U = unless_twenty full (ts i) (update_out (ts i) c n k bib v) (never_twenty (ts i) (Update c n k bib v)) in
    cases (no_course ts i)
    (λ e. (rw e (λ h. absurd (omega arith)), λ h. absurd (true≢false (sym e ∙ h.0))))
    (λ e. (rw e (λ h. let b = U.0 h in (refl, b.0, passes_over _ b.1)), rw e (λ h. U.1 (h.1, over-passes _ h.2))))

-- a bundle of no entries is the yield
none-sent : (full : ℕ → Bool) (es : List Entry) (t : List ℕ) (c n : ℕ) → (0 < length es → ⊥) → sent_shared full t c n es ≡ sent_out t c n es
unfolding sent_shared sent_out
none-sent full [] t c n h = refl
none-sent full (e ∷ es) t c n h = absurd (h (omega arith))

sharing_twenty : (full : ℕ → Bool) (t : List ℕ) (q : Call (List ℕ)) → (0 < enters (call_on length q) → ⊥) → sharing full t q ≡ served t q
unfolding batch_shared
sharing_twenty full t (Update c n k bib v) h = absurd (h (omega arith))
sharing_twenty full t (Query c n bib) h = refl
sharing_twenty full t (Yield c board) h = refl
sharing_twenty full t (Fork n) h = refl
sharing_twenty full t (Join n m board) h = refl
sharing_twenty full t (Sync m board) h = refl
sharing_twenty full t (Mark n name) h = refl
sharing_twenty full t (Drop name) h = refl
sharing_twenty full t (Bundle c n batch board) h =
    ap (λ o. on_board t board (settle (checks (asked t) (Bundle c n batch (length board))) (refused t) (bundled t o))) (none-sent full (entries_of batch) t c n h)
    ∙ sym (bundle_is t c n batch board)
sharing_twenty full t (Looks l) h = refl

pub twenty_by_updates : TwentyByUpdates
unfolding course_served
twenty_by_updates ts i q =
    cases (no_course ts i)
    (λ e. rw e (λ h. absurd (omega arith)))
    (λ e. rw e (λ h. cases (ltb 0 (enters (call_on length q)))
    (λ l. ltb-true 0 _ l)
    (λ l. absurd (never_twenty (ts i) q (sym (ap (λ (u : Served). u.reply.code) (sharing_twenty (is_full ts i) (ts i) q (λ k. true≢false (sym (lt-ltb 0 _ k) ∙ l)))) ∙ h)))))

-- a refusal has a number of its row, 1 or 20, and leaves every byte
alone-number : (t : List ℕ) (a : Ask) → ((alone t a).reply.code ≡ 0 → ⊥) → (alone t a).reply.code ∈ codes_asked a
alone-number t (Fresh single board) h = (fresh-refused t single board h).number
alone-number t (Plain q) h = Memᴰ.tail (Memᴰ.tail (refusals_change_nothing t q h).number)

abbrev Away : List ℕ → Ask → Served → Type 0
Away t a s = (s.reply.code ≡ 0 → ⊥) → IsTurnedAway t a s

alone_away : (t : List ℕ) (a : Ask) → Away t a (alone t a)
alone_away t a h = record { number = alone-number t a h; blank = refused-alone t a h }

pub changes_nothing : RefusalsChangeNothing
unfolding course_served
changes_nothing ts i (Fresh single board) =
    let a = Fresh single board in
    cond_all (Away (ts i) a) (no_fresh ts i) _ _ (λ h. record { number = Memᴰ.head refl; blank = refl }) (alone_away (ts i) a)
changes_nothing ts i (Plain q) =
    cond_all (Away (ts i) (Plain q)) (no_course ts i) _ _ (λ h. record { number = Memᴰ.head refl; blank = refl })
    (either (sharing_is (is_full ts i) (ts i) q)
    (λ s. subst (Away (ts i) (Plain q)) (sym s) (alone_away (ts i) (Plain q)))
    (λ s. subst (Away (ts i) (Plain q)) (sym s) (λ h. record { number = Memᴰ.tail (Memᴰ.head refl); blank = refl })))
