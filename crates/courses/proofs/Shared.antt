-- An update or a bundle of a course: as its table alone has it, or 20.
use Prim.Native.Nat.{ℕ}
use mathlib.Core.Bool.{Bool}
use mathlib.Core.Logic.{◌⊎◌, inl, inr}
use mathlib.Core.Path.{◌≡◌, refl, sym, ◌∙◌, ap}
use mathlib.Core.List.{List, [], ◌∷◌}
use lib.Dec.{eqb}
use lib.ListN.{length}
use Rattle.lists.proofs.Cases.{cases, either}
use Rattle.bundles.specs.declared.entry.Entry.{Entry}
use Rattle.desk.specs.Calls.{Call, Update, Query, Yield, Fork, Join, Sync, Mark, Drop, Bundle, Looks, Batch, entries_of}
use Rattle.desk.specs.Checks.{Check, checks, settle}
use Rattle.table.specs.Answers.{after_taken, refused}
use Rattle.table.specs.Out.{Out}
use Rattle.table.specs.Calls.{asked, batch_out, sent_out, bundled, update_out}
use Rattle.table.specs.Served.{on_board, on_table, served}
use Rattle.table.specs.Shared.{batch_shared, finds_full, sent_shared, unless_full, update_shared}
use Rattle.table.proofs.Brings.{board-blank}
use Rattle.table.proofs.Shared.{bundle_is}
use Rattle.card.specs.Courses.{Plain, sharing, turned_away}

-- 20, or what the update alone has
unless_is : (full : Bool) (t : List ℕ) (o : Out) → (unless_full full t o ≡ o) ⊎ (unless_full full t o ≡ refused t 20)
unless_is full t o = cases (finds_full full o) (λ e. rw e (inr refl)) (λ e. rw e (inl refl))

-- a row of checks with one end or another: it stops at the same check, or comes to its end
stops_or_ends : {A : Type 0} (refusal : ℕ → A) (a b : A) (ks : List Check) → (settle ks refusal a ≡ settle ks refusal b) ⊎ (settle ks refusal a ≡ a)
stops_or_ends refusal a b [] = inr refl
stops_or_ends refusal a b (k ∷ ks) = cases k.applies (λ e. rw e (inl refl)) (λ e. rw e (stops_or_ends refusal a b ks))

module _ (full : ℕ → Bool) where
  pub update-is : (t : List ℕ) (c n k bib v : ℕ) → (update_shared full t c n k bib v ≡ update_out t c n k bib v) ⊎ (update_shared full t c n k bib v ≡ refused t 20)
  unfolding update_shared
  update-is t c n k bib v = unless_is _ t (update_out t c n k bib v)

  sent_is : (es : List Entry) (t : List ℕ) (c n : ℕ) → (sent_shared full t c n es ≡ sent_out t c n es) ⊎ ((sent_shared full t c n es).code ≡ 20)
  unfolding sent_shared sent_out
  sent_is [] t c n = inl refl
  sent_is (e ∷ es) t c n =
      either (update-is t c n e.kind e.bib e.v)
      (λ q. rw q (by (update_out t c n e.kind e.bib e.v) (λ d. sent_is es d c n)))
      (λ q. rw q (inr refl))
    where
      by : (o : Out) → ((d : List ℕ) → (sent_shared full d c n es ≡ sent_out d c n es) ⊎ ((sent_shared full d c n es).code ≡ 20))
          → (after_taken o (λ d. sent_shared full d c n es) ≡ after_taken o (λ d. sent_out d c n es)) ⊎ ((after_taken o (λ d. sent_shared full d c n es)).code ≡ 20)
      by o rest = cases (eqb o.code 0) (λ q. rw q (rest o.lent)) (λ q. rw q (inl refl))

bundled_twenty : (t : List ℕ) (o : Out) → o.code ≡ 20 → bundled t o ≡ refused t 20
bundled_twenty t o e = rw e

ended_is : (t : List ℕ) (c n : ℕ) (batch : Batch) (room : ℕ) (o : Out) → (o ≡ sent_out t c n (entries_of batch)) ⊎ (o.code ≡ 20)
    → (settle (checks (asked t) (Bundle c n batch room)) (refused t) (bundled t o) ≡ batch_out t c n batch room) ⊎ (settle (checks (asked t) (Bundle c n batch room)) (refused t) (bundled t o) ≡ refused t 20)
ended_is t c n batch room o h =
    let ks = checks (asked t) (Bundle c n batch room) in
    either h
    (λ q. inl (ap (λ o. settle ks (refused t) (bundled t o)) q))
    (λ q. either (stops_or_ends (refused t) (bundled t o) (bundled t (sent_out t c n (entries_of batch))) ks) (λ s. inl s) (λ s. inr (s ∙ bundled_twenty t o q)))

batch_is : (full : ℕ → Bool) (t : List ℕ) (c n : ℕ) (batch : Batch) (room : ℕ) → (batch_shared full t c n batch room ≡ batch_out t c n batch room) ⊎ (batch_shared full t c n batch room ≡ refused t 20)
unfolding batch_shared
batch_is full t c n batch room = ended_is t c n batch room _ (sent_is _ (entries_of batch) t c n)

pub sharing_is : (full : ℕ → Bool) (t : List ℕ) (q : Call (List ℕ)) → (sharing full t q ≡ served t q) ⊎ (sharing full t q ≡ turned_away 20 t (Plain q))
sharing_is full t (Update c n k bib v) = either (update-is full t c n k bib v) (λ e. inl (ap on_table e)) (λ e. inr (ap on_table e))
sharing_is full t (Query c n bib) = inl refl
sharing_is full t (Yield c board) = inl refl
sharing_is full t (Fork n) = inl refl
sharing_is full t (Join n m board) = inl refl
sharing_is full t (Sync m board) = inl refl
sharing_is full t (Mark n name) = inl refl
sharing_is full t (Drop name) = inl refl
sharing_is full t (Bundle c n batch board) =
    either (batch_is full t c n batch (length board)) (λ e. inl (ap (on_board t board) e ∙ sym (bundle_is t c n batch board))) (λ e. inr (ap (on_board t board) e ∙ board-blank t board {o = refused t 20} refl))
sharing_is full t (Looks l) = inl refl
