-- A bundle that is taken is its updates and a yield, each of them taken (02, U4).
use Prim.Native.Nat.{ℕ}
use mathlib.Core.Bool.{false}
use mathlib.Core.Path.{◌≡◌, refl, sym, ◌∙◌, ap}
use mathlib.Core.List.{List, [], ◌∷◌}
use native.Mathlib.Omega.{arith}
use lib.Dec.{eqb}
use lib.ListN.{length}
use borrow.Author.Tests.{eqb-false, eqb-true}
use Rattle.lists.proofs.Cases.{cases, or-false}
use Rattle.bundles.specs.declared.entry.Entry.{Entry}
use Rattle.bundles.specs.Records.{entry_at}
use Rattle.bundles.proofs.First.{first_entry}
use Rattle.boards.specs.Board.{board_bytes}
use Rattle.desk.specs.Calls.{Call, Update, Yield, Records, Entries, Batch, entries_of, is_wrong_batch}
use Rattle.desk.specs.Checks.{checks}
use Rattle.desk.proofs.Checks.{Ends, no, yes, ends}
use Rattle.plain.specs.Record.{PlainDay}
use Rattle.plain.specs.Answers.{Outcome, after_taken, asked, bundled, called, day_from, ending, refused, sent, taken}
use Rattle.plain.specs.Bundles.{AllTaken, parts}

-- no call has code 1: of those whose end is taken
not-one : (p : PlainDay) (c : Call ℕ) {o : Outcome} → (ending p c).answer.code ≡ 0 → Ends (checks (asked p) c) (refused p) (ending p c) o → o.answer.code ≡ 1 → ⊥
not-one p c z (no k h) e = omega arith
not-one p c z (yes P) e = omega arith

pub one_never : (p : PlainDay) (c : Call ℕ) → (ending p c).answer.code ≡ 0 → (called p c).answer.code ≡ 1 → ⊥
unfolding called
one_never p c z = not-one p c z (ends (refused p) (ending p c) (asked p) refl c)

-- what goes on after a call that was taken
after_code : (o : Outcome) (rest : PlainDay → Outcome) → (o.answer.code ≡ 1 → ⊥) → ((q : PlainDay) → (rest q).answer.code ≡ 1 → ⊥) → (after_taken o rest).answer.code ≡ 1 → ⊥
after_code o rest h f = cases (eqb o.answer.code 0) (λ q. rw q (f o.next)) (λ q. rw q h)

after-taken : (o : Outcome) (rest : PlainDay → Outcome) → (after_taken o rest).answer.code ≡ 0 → (o.answer.code ≡ 0) × (after_taken o rest ≡ rest o.next)
after-taken o rest z = cases (eqb o.answer.code 0) (λ q. (eqb-true _ 0 q, rw q)) (λ q. absurd (eqb-false _ 0 q (rw q at z)))

pub after-bundled : (p : PlainDay) (o : Outcome) → (bundled p o).answer.code ≡ 0 → (o.answer.code ≡ 0) × (bundled p o ≡ taken o.next p.day.updates)
after-bundled p o z = cases (eqb o.answer.code 0) (λ q. (eqb-true _ 0 q, rw q)) (λ q. absurd (eqb-false _ 0 q (rw q at z)))

module _ (c n : ℕ) where
  pub sent-never : (es : List Entry) (p : PlainDay) → (sent p c n es).answer.code ≡ 1 → ⊥
  unfolding sent called
  sent-never [] p = one_never p (Yield c board_bytes) refl
  sent-never (e ∷ es) p = after_code (called p (Update c n e.kind e.bib e.v)) (λ q. sent q c n es) (one_never p (Update c n e.kind e.bib e.v) refl) (λ q. sent-never es q)

  -- the first is taken, and then the others are sent
  pub sent-first : (e : Entry) (es : List Entry) (p : PlainDay) → (sent p c n (e ∷ es)).answer.code ≡ 0
      → ((called p (Update c n e.kind e.bib e.v)).answer.code ≡ 0) × (sent p c n (e ∷ es) ≡ sent (called p (Update c n e.kind e.bib e.v)).next c n es)
  unfolding sent called
  sent-first e es p z = after-taken (called p (Update c n e.kind e.bib e.v)) (λ q. sent q c n es) z

  -- each part is taken, and they lead where the bundle does
  pub sent-parts : (es : List Entry) (p : PlainDay) → (sent p c n es).answer.code ≡ 0 → AllTaken p (parts c n es) × ((sent p c n es).next ≡ day_from p (parts c n es))
  unfolding sent called day_from
  sent-parts [] p z = ((z, tt), refl)
  sent-parts (e ∷ es) p z =
      let f = sent-first e es p z in
      let more = sent-parts es (called p (Update c n e.kind e.bib e.v)).next (sym (ap (λ o. o.answer.code) f.1) ∙ z) in
      ((f.0, more.0), ap (λ o. o.next) f.1 ∙ more.1)

  -- and the other way
  pub parts-sent : (es : List Entry) (p : PlainDay) → AllTaken p (parts c n es) → (sent p c n es).answer.code ≡ 0
  unfolding sent called
  parts-sent [] p T = T.0
  parts-sent (e ∷ es) p T = rw T.0 (parts-sent es _ T.1)

-- a batch that is not wrong has a first entry
some_entry : (es : List Entry) → (length es ≡ 0 → ⊥) → (e : Entry) × (rest : List Entry) × (es ≡ e ∷ rest)
some_entry [] h = absurd (h refl)
some_entry (e ∷ es) h = (e, es, refl)

pub head_of : (batch : Batch) → is_wrong_batch batch ≡ false → (e : Entry) × (rest : List Entry) × (entries_of batch ≡ e ∷ rest)
head_of (Records bytes) h = let f = first_entry bytes h in (entry_at bytes 0, f.0, f.1)
head_of (Entries es) h = some_entry es (eqb-false (length es) 0 (or-false (eqb (length es) 0) _ h).0)
