-- Each step is its writes in a row: from what every write says of the bytes before and after it to the step's definition.
use Prim.Native.Nat.{ℕ, ◌+◌, ◌-◌, ◌<◌}
use mathlib.Core.Bool.{cond}
use mathlib.Core.Path.{◌≡◌, ◌∙◌}
use mathlib.Core.List.{List, [], ◌∷◌, ◌++◌}
use lib.Dec.{eqb}
use lib.ListN.{length, set, take}
use Rattle.lists.specs.Arranged.{remove}
use Rattle.cells.specs.Sizes.{lower_bytes, revisions, clients, main, state_joined}
use Rattle.cells.specs.Parts.{split, glue, wrote, ◌⟨◌≔◌⟩, seen_part, caught_part, state_part, count_part, layout_part, queue_part, counters_part, settled_part}
use Rattle.cells.specs.Words.{put_word}
use Rattle.cells.specs.Flags.{pack, put_row}
use Rattle.cells.specs.Decode.{decode}
use Rattle.lists.specs.Pool.{join_pool}
use Rattle.cells.specs.CellSteps.{counted, one_fewer, join_caught}
use Rattle.cells.specs.Steps.{splice_parts, merge_parts, drop_parts, join_bytes, drop_bytes}
use Rattle.cells.proofs.Parts.{holds_split, holds_step}
use Rattle.cells.proofs.Sized.{drop_sized, layout_sized, merge_sized, seen_row_sized, splice_sized}
use Rattle.cells.proofs.Places.{remove-length}
use Rattle.linking.proofs.Writes.{byte-wrote, caught-wrote, word-wrote}

module _ (d : List ℕ) (l : length d ≡ lower_bytes) where
  pub merge-done : (d₁ d₂ d₃ d₄ d₅ : List ℕ) (a b m n t v : ℕ) → a < revisions → m ≡ (decode (split d)).count a → n ≡ (decode (split d)).count b → t ≡ counted (m + n)
      → v ≡ cond (eqb a main) t (decode (split d)).settled
      → d₁ ≡ glue (splice_parts (split d) a b) → d₂ ≡ wrote d₁ count_part (put_word (split d₁ count_part) a t) → d₃ ≡ wrote d₂ settled_part (put_word (split d₂ settled_part) 0 v)
      → d₄ ≡ wrote d₃ seen_part (put_row 8 (split d₃ seen_part) a (join_pool (decode (split d₃)).seen a b a)) → d₅ ≡ wrote d₄ caught_part (pack clients (join_caught (decode (split d₄)).caught a b))
      → d₅ ≡ glue (merge_parts (split d) a b)
  merge-done d₁ d₂ d₃ d₄ d₅ a b m n t v al em en et ev e₁ e₂ e₃ e₄ e₅ =
      let h = holds_split d l in
      let h₁ = holds_step (λ q. splice_parts q a b) h e₁ (splice_sized h.sized a b) in
      let h₂ = word-wrote count_part a t h₁ e₂ in
      let h₃ = word-wrote settled_part 0 v h₂ e₃ in
      let h₄ = holds_step (λ q. q ⟨ seen_part ≔ put_row 8 (q seen_part) a (join_pool (decode q).seen a b a) ⟩) h₃ e₄ (seen_row_sized h₃.sized a _ al) in
      (caught-wrote (λ f. join_caught f a b) h₄ e₅).eq ∙ rw (ev, et, em, en)

  pub drop-done : (d₁ d₂ d₃ d₄ : List ℕ) (r i o : ℕ) → i ≡ (decode (split d)).given - (decode (split d)).out → o ≡ one_fewer (decode (split d)).out
      → d₁ ≡ wrote d state_part (set (split d state_part) r state_joined) → d₂ ≡ wrote d₁ layout_part (take revisions (remove r (split d₁ layout_part) ++ (0 ∷ [])))
      → d₃ ≡ wrote d₂ queue_part (set (split d₂ queue_part) i r) → d₄ ≡ wrote d₃ counters_part (set (split d₃ counters_part) 2 o) → d₄ ≡ drop_bytes d r
  unfolding drop_bytes
  drop-done d₁ d₂ d₃ d₄ r i o ei eo e₁ e₂ e₃ e₄ =
      let h = holds_split d l in
      let t = split d layout_part in
      let h₁ = byte-wrote state_part r state_joined h e₁ in
      let s = layout_sized h₁.sized (remove r t ++ (0 ∷ [])) (remove-length r t) in
      let h₂ = holds_step (λ q. q ⟨ layout_part ≔ take revisions (remove r (q layout_part) ++ (0 ∷ [])) ⟩) h₁ e₂ s in
      let h₃ = byte-wrote queue_part i r h₂ e₃ in
      (byte-wrote counters_part 2 o h₃ e₄).eq ∙ rw (ei, eo)

  pub join-done : (d₁ d₂ : List ℕ) (a b : ℕ) → a < revisions → d₁ ≡ glue (merge_parts (split d) a b) → d₂ ≡ drop_bytes d₁ b → d₂ ≡ join_bytes d a b
  unfolding drop_bytes join_bytes
  join-done d₁ d₂ a b al e₁ e₂ =
      let h = holds_split d l in
      let h₁ = holds_step (λ q. merge_parts q a b) h e₁ (merge_sized h.sized a b al) in
      (holds_step (λ q. drop_parts q b) h₁ e₂ (drop_sized h₁.sized b)).eq
