-- How a call of a course moves the count of its table, where the table stands for a plain day: what the card lets pass, and that the assured part always passes.
use Prim.Native.Nat.{ℕ, suc, ◌+◌, ◌≤◌}
use mathlib.Core.Bool.{Bool, false, cond}
use mathlib.Core.Path.{◌≡◌, refl, sym, ◌∙◌, ap, subst}
use mathlib.Core.List.{List, [], ◌∷◌}
use native.Mathlib.Omega.{arith}
use lib.Dec.{eqb}
use lib.ListN.{length}
use Rattle.lists.proofs.Cases.{cases, cond_all, either}
use Rattle.bundles.specs.declared.entry.Entry.{Entry}
use Rattle.boards.specs.Board.{board_bytes}
use Rattle.desk.specs.Calls.{Call, Update, Query, Yield, Fork, Join, Sync, Mark, Drop, Bundle, Looks, Batch, entries_of, call_on}
use Rattle.desk.specs.Checks.{Check, checks, settle}
use Rattle.plain.specs.Record.{PlainDay}
use Rattle.plain.specs.Answers.{called}
use Rattle.plain.specs.Fills.{enters}
use Rattle.plain.proofs.Fills.{adds}
use Rattle.table.specs.Answers.{refused, taken}
use Rattle.table.specs.Out.{Out}
use Rattle.table.specs.Calls.{asked, sent_out, bundled, update_out, yield_out}
use Rattle.table.specs.Served.{Served, on_board, on_table, served}
use Rattle.table.specs.Shared.{batch_shared, count_in, finds_full, sent_shared, unless_full, update_shared}
use Rattle.table.proofs.Shared.{bundle_is}
use Rattle.consistency.proofs.Table.Stands.{Stands, bytes-are}
use Rattle.consistency.proofs.Table.Calls.{Same, marks, update_same, yield-same}
use Rattle.consistency.proofs.Table.Follows.{call_same}
use Rattle.card.specs.Courses.{sharing}
use Rattle.courses.proofs.Shared.{update-is}

pub count-is : (p : PlainDay) (t : List ℕ) → Stands p t → count_in t ≡ p.day.updates
count-is p t S = (bytes-are p t S).follow.same_updates

abbrev if_taken : ℕ → ℕ → ℕ
if_taken code n = cond (eqb code 0) n 0

-- a call that ends as on the day adds what it enters, if it is taken
count-adds : (p : PlainDay) (t : List ℕ) → Stands p t → (c : Call ℕ) (sheet : List ℕ) (s : Served) → Same sheet s (called p c) → count_in s.table ≡ count_in t + if_taken s.reply.code (enters c)
count-adds p t S c sheet s h =
    count-is (called p c).next s.table h.stands ∙ adds p (marks p t S) c
    ∙ ap (λ k. k + if_taken (called p c).answer.code (enters c)) (sym (count-is p t S))
    ∙ ap (λ k. count_in t + if_taken k (enters c)) (sym (ap (λ r. r.code) h.reply))

pub count_next : (p : PlainDay) (t : List ℕ) → Stands p t → (q : Call (List ℕ)) → count_in (served t q).table ≡ count_in t + if_taken (served t q).reply.code (enters (call_on length q))
count_next p t S q = count-adds p t S (call_on length q) _ (served t q) (call_same p t S q)

at_most : (code n : ℕ) → if_taken code n ≤ n
at_most code n = cond_all (λ k. k ≤ n) (eqb code 0) n 0 (omega arith) (omega arith)

none-entered : (code : ℕ) → if_taken code 0 ≡ 0
none-entered code = cond_all (λ k. k ≡ 0) (eqb code 0) 0 0 refl refl

-- a call that enters no update keeps the count
count_stays : (p : PlainDay) (t : List ℕ) → Stands p t → (q : Call (List ℕ)) → enters (call_on length q) ≡ 0 → count_in (served t q).table ≡ count_in t
count_stays p t S q e = let a = count_next p t S q in let z : if_taken (served t q).reply.code (enters (call_on length q)) ≡ 0 = rw e (none-entered (served t q).reply.code) in omega arith

-- what holds of every refusal and of the end holds of the row
settle_all : {A : Type 0} (P : A → Type 0) (ks : List Check) (refusal : ℕ → A) (end : A) → ((k : ℕ) → P (refusal k)) → P end → P (settle ks refusal end)
settle_all P [] refusal end f h = h
settle_all P (k ∷ ks) refusal end f h = cond_all P k.applies (refusal k.code) (settle ks refusal end) (f k.code) (settle_all P ks refusal end f h)

-- an update leaves a table that stands for a day, and so does one that finds the card full
update-stands : (full : ℕ → Bool) (p : PlainDay) (t : List ℕ) → Stands p t → (c n k bib v : ℕ) → (q : PlainDay) × Stands q (update_shared full t c n k bib v).lent
update-stands full p t S c n k bib v =
    either (update-is full t c n k bib v) (λ e. rw e ((called p (Update c n k bib v)).next, (update_same p t S c n k bib v).stands)) (λ e. rw e (p, S))

update-count : (p : PlainDay) (t : List ℕ) → Stands p t → (c n k bib v : ℕ) → count_in (update_out t c n k bib v).lent ≡ count_in t + if_taken (update_out t c n k bib v).code 1
update-count p t S c n k bib v = count-adds p t S (Update c n k bib v) [] (on_table (update_out t c n k bib v)) (update_same p t S c n k bib v)

-- B holds of each count that the card has room for, and so of the count that any call leaves
module _ (full : ℕ → Bool) (B : ℕ → Type 0) (room : (n : ℕ) → full n ≡ false → B n) where
  update-room : (p : PlainDay) (t : List ℕ) → Stands p t → B (count_in t) → (c n k bib v : ℕ) → B (count_in (update_shared full t c n k bib v).lent)
  unfolding update_shared finds_full
  update-room p t S b c n k bib v = by (update_out t c n k bib v) (update-count p t S c n k bib v)
    where
      by : (o : Out) → count_in o.lent ≡ count_in t + if_taken o.code 1 → B (count_in (unless_full (full (suc (count_in t))) t o).lent)
      by o e =
          cases (eqb o.code 0)
          (λ z. cases (full (suc (count_in t)))
          (λ f. rw (z, f) b)
          (λ f. rw (z, f) (subst B (sym (e ∙ rw z (omega arith))) (room (suc (count_in t)) f))))
          (λ z. cond_all (λ (u : Out). B (count_in u.lent)) (finds_full (full (suc (count_in t))) o) (refused t 20) o b (subst B (sym (e ∙ rw z (omega arith))) b))

  sent-room : (es : List Entry) (p : PlainDay) (t : List ℕ) → Stands p t → B (count_in t) → (c n : ℕ) → B (count_in (sent_shared full t c n es).lent)
  unfolding sent_shared
  sent-room [] p t S b c n =
      let e = count-adds p t S (Yield c board_bytes) [] (on_table (yield_out t c board_bytes)) (yield-same p t S c board_bytes) in
      let z = none-entered (yield_out t c board_bytes).code in
      let same : count_in (yield_out t c board_bytes).lent ≡ count_in t = omega arith in
      subst B (sym same) b
  sent-room (e ∷ es) p t S b c n =
      let u = update_shared full t c n e.kind e.bib e.v in
      let d = update-stands full p t S c n e.kind e.bib e.v in
      let r = update-room p t S b c n e.kind e.bib e.v in
      cond_all (λ (o : Out). B (count_in o.lent)) (eqb u.code 0) (sent_shared full u.lent c n es) u (sent-room es d.0 u.lent d.1 r c n) r

  batch-room : (p : PlainDay) (t : List ℕ) → Stands p t → B (count_in t) → (c n : ℕ) (batch : Batch) (size : ℕ) → B (count_in (batch_shared full t c n batch size).lent)
  unfolding batch_shared
  batch-room p t S b c n batch size =
      let o = sent_shared full t c n (entries_of batch) in
      settle_all (λ (o : Out). B (count_in o.lent)) (checks (asked t) (Bundle c n batch size)) (refused t) (bundled t o) (λ k. b)
      (cond_all (λ (o : Out). B (count_in o.lent)) (eqb o.code 0) (taken o.lent (count_in t)) (refused t o.code) (sent-room (entries_of batch) p t S b c n) b)

  pub sharing-room : (p : PlainDay) (t : List ℕ) → Stands p t → B (count_in t) → (q : Call (List ℕ)) → B (count_in (sharing full t q).table)
  sharing-room p t S b (Update c n k bib v) = update-room p t S b c n k bib v
  sharing-room p t S b (Query c n bib) = subst B (sym (count_stays p t S (Query c n bib) refl)) b
  sharing-room p t S b (Yield c board) = subst B (sym (count_stays p t S (Yield c board) refl)) b
  sharing-room p t S b (Fork n) = subst B (sym (count_stays p t S (Fork n) refl)) b
  sharing-room p t S b (Join n m board) = subst B (sym (count_stays p t S (Join n m board) refl)) b
  sharing-room p t S b (Sync m board) = subst B (sym (count_stays p t S (Sync m board) refl)) b
  sharing-room p t S b (Mark n name) = subst B (sym (count_stays p t S (Mark n name) refl)) b
  sharing-room p t S b (Drop name) = subst B (sym (count_stays p t S (Drop name) refl)) b
  sharing-room p t S b (Bundle c n batch board) = batch-room p t S b c n batch (length board)
  sharing-room p t S b (Looks l) = b

-- where the card has room for every count up to a limit, a call within it is served as by the table alone
module _ (full : ℕ → Bool) (limit : ℕ) (room : (n : ℕ) → n ≤ limit → full n ≡ false) where
  update-passes : (t : List ℕ) (c n k bib v : ℕ) → suc (count_in t) ≤ limit → update_shared full t c n k bib v ≡ update_out t c n k bib v
  unfolding update_shared finds_full
  update-passes t c n k bib v l = by (update_out t c n k bib v)
    where
      by : (o : Out) → unless_full (full (suc (count_in t))) t o ≡ o
      by o = rw (room (suc (count_in t)) l) (cases (eqb o.code 0) (λ e. rw e) (λ e. rw e))

  sent-passes : (es : List Entry) (p : PlainDay) (t : List ℕ) → Stands p t → (c n : ℕ) → count_in t + length es ≤ limit → sent_shared full t c n es ≡ sent_out t c n es
  unfolding sent_shared sent_out
  sent-passes [] p t S c n l = refl
  sent-passes (e ∷ es) p t S c n l =
      let o = update_out t c n e.kind e.bib e.v in
      let a = update-count p t S c n e.kind e.bib e.v in
      let b = at_most o.code 1 in
      let rest = sent-passes es (called p (Update c n e.kind e.bib e.v)).next o.lent (update_same p t S c n e.kind e.bib e.v).stands c n (omega arith) in
      rw (update-passes t c n e.kind e.bib e.v (omega arith)) (ap (λ z. cond (eqb o.code 0) z o) rest)

  pub sharing-passes : (p : PlainDay) (t : List ℕ) → Stands p t → (q : Call (List ℕ)) → count_in t + enters (call_on length q) ≤ limit → sharing full t q ≡ served t q
  unfolding batch_shared
  sharing-passes p t S (Update c n k bib v) l = ap on_table (update-passes t c n k bib v (omega arith))
  sharing-passes p t S (Query c n bib) l = refl
  sharing-passes p t S (Yield c board) l = refl
  sharing-passes p t S (Fork n) l = refl
  sharing-passes p t S (Join n m board) l = refl
  sharing-passes p t S (Sync m board) l = refl
  sharing-passes p t S (Mark n name) l = refl
  sharing-passes p t S (Drop name) l = refl
  sharing-passes p t S (Bundle c n batch board) l =
      ap (λ o. on_board t board (settle (checks (asked t) (Bundle c n batch (length board))) (refused t) (bundled t o))) (sent-passes (entries_of batch) p t S c n l)
      ∙ sym (bundle_is t c n batch board)
  sharing-passes p t S (Looks l) k = refl
