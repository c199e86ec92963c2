-- A bundle ends on the table as on the plain day: update by update, and then the yield (02, U4).
use Prim.Native.Nat.{ℕ}
use mathlib.Core.Path.{◌≡◌, refl, ◌∙◌, ap}
use mathlib.Core.List.{List, [], ◌∷◌}
use lib.Dec.{eqb}
use Rattle.lists.proofs.Cases.{cases}
use Rattle.bundles.specs.declared.entry.Entry.{Entry}
use Rattle.boards.specs.Board.{board_bytes}
use Rattle.desk.specs.Calls.{Update, Bundle, Batch, Records, Entries, entries_of}
use Rattle.desk.proofs.Checks.{same_end}
use Rattle.plain.specs.Record.{PlainDay}
use Rattle.plain.specs.Answers as Plain
use Rattle.plain.specs.Answers.{Outcome, called, sent}
use Rattle.table.specs.Answers as Table
use Rattle.table.specs.Out.{Out}
use Rattle.table.specs.Calls.{batch_out, bundle_out, entries_out, sent_out, bundled, update_out}
use Rattle.table.specs.Served.{on_table}
use Rattle.consistency.proofs.Table.Stands.{Stands, bytes-are}
use Rattle.consistency.proofs.Table.Rows.{agree}
use Rattle.consistency.proofs.Table.Calls.{Same, refused-same, same_answer, update_same, yield-same}

abbrev Left : Out → Outcome → Type 0
Left u o = Same [] (on_table u) o

same_code : (u : Out) (o : Outcome) → Left u o → u.code ≡ o.answer.code
same_code u o h = ap (λ r. r.code) h.reply

-- what goes on after a call that was taken
goes_on : (u : Out) (o : Outcome) (more : List ℕ → Out) (rest : PlainDay → Outcome) → Left u o → (Stands o.next u.lent → Left (more u.lent) (rest o.next)) → Left (Table.after_taken u more) (Plain.after_taken o rest)
goes_on u o more rest h f =
    let e = ap (λ k. eqb k 0) (same_code u o h) in
    cases (eqb o.answer.code 0) (λ q. rw (e ∙ q, q) (f h.stands)) (λ q. rw (e ∙ q, q) h)

sent_same : (es : List Entry) (p : PlainDay) (t : List ℕ) → Stands p t → (c n : ℕ) → Left (sent_out t c n es) (sent p c n es)
unfolding sent sent_out called
sent_same [] p t S c n = yield-same p t S c board_bytes
sent_same (e ∷ es) p t S c n =
    goes_on (update_out t c n e.kind e.bib e.v) (called p (Update c n e.kind e.bib e.v)) (λ d. sent_out d c n es) (λ q. sent q c n es) (update_same p t S c n e.kind e.bib e.v) (λ s. sent_same es _ _ s c n)

bundled_same : (p : PlainDay) (t : List ℕ) → Stands p t → (u : Out) (o : Outcome) → Left u o → Left (bundled t u) (Plain.bundled p o)
bundled_same p t S u o h =
    rw (same_code u o h)
    (cases (eqb o.answer.code 0) (λ q. rw q (record { reply = same_answer 0 0 refl (bytes-are p t S).follow.same_updates refl refl; stands = h.stands })) (λ q. rw q (record { reply = refl; stands = S })))

batch_same : (p : PlainDay) (t : List ℕ) (S : Stands p t) (c n : ℕ) (batch : Batch) (room : ℕ) → Left (batch_out t c n batch room) (called p (Bundle c n batch room))
unfolding called
batch_same p t S c n batch room =
    same_end Left (Table.refused t) (Plain.refused p) (refused-same p t S) _ _ (agree p t S (Bundle c n batch room))
    (λ P. bundled_same p t S (sent_out t c n (entries_of batch)) (sent p c n (entries_of batch)) (sent_same (entries_of batch) p t S c n))

pub bundle_same : (p : PlainDay) (t : List ℕ) (S : Stands p t) (c n : ℕ) (bytes : List ℕ) (room : ℕ) → Left (bundle_out t c n bytes room) (called p (Bundle c n (Records bytes) room))
unfolding bundle_out
bundle_same p t S c n bytes room = batch_same p t S c n (Records bytes) room

pub entries_same : (p : PlainDay) (t : List ℕ) (S : Stands p t) (c n : ℕ) (es : List Entry) (room : ℕ) → Left (entries_out t c n es room) (called p (Bundle c n (Entries es) room))
unfolding entries_out
entries_same p t S c n es room = batch_same p t S c n (Entries es) room
