-- Each step is its writes in a row: from what every write says of the bytes before and after it to the step's definition.
use Prim.Native.Nat.{ℕ, ◌<◌}
use mathlib.Core.Path.{◌≡◌, ◌∙◌}
use mathlib.Core.List.{List}
use lib.Dec.{eqb}
use lib.ListN.{length, set}
use Rattle.cells.specs.Sizes.{lower_bytes, clients, closed}
use Rattle.cells.specs.Parts.{split, glue, wrote, ◌⟨◌≔◌⟩, caught_part, opened_part, settled_part}
use Rattle.cells.specs.Words.{put_word}
use Rattle.cells.specs.Flags.{put_row}
use Rattle.cells.specs.Decode.{decode}
use Rattle.cells.specs.CellSteps.{close_settled}
use Rattle.cells.specs.Steps.{query_parts, append_parts, query_bytes, update_bytes, close_bytes}
use Rattle.cells.proofs.Parts.{holds_split, holds_step}
use Rattle.cells.proofs.Sized.{append_sized, caught_row_sized, query_sized}
use Rattle.linking.proofs.Writes.{byte-wrote, word-wrote}

module _ (d : List ℕ) (l : length d ≡ lower_bytes) where
  pub query-done : (d₁ d₂ : List ℕ) (c r v : ℕ) → c < clients → v ≡ r → d₁ ≡ wrote d caught_part (put_row 8 (split d caught_part) c (λ y. eqb y r)) → d₂ ≡ wrote d₁ opened_part (set (split d₁ opened_part) c v) → d₂ ≡ query_bytes d c r
  unfolding query_bytes
  query-done d₁ d₂ c r v cl ev e₁ e₂ =
      let h = holds_split d l in
      let h₁ = holds_step (λ q. q ⟨ caught_part ≔ put_row 8 (q caught_part) c (λ y. eqb y r) ⟩) h e₁ (caught_row_sized h.sized c (λ y. eqb y r) cl) in
      (byte-wrote opened_part c v h₁ e₂).eq ∙ rw ev

  pub close-done : (d₁ d₂ : List ℕ) (c v : ℕ) → v ≡ close_settled (decode (split d)) c → d₁ ≡ wrote d opened_part (set (split d opened_part) c closed)
      → d₂ ≡ wrote d₁ settled_part (put_word (split d₁ settled_part) 0 v) → d₂ ≡ close_bytes d c
  unfolding close_bytes
  close-done d₁ d₂ c v ev e₁ e₂ =
      let h₁ = byte-wrote opened_part c closed (holds_split d l) e₁ in
      (word-wrote settled_part 0 v h₁ e₂).eq ∙ rw ev

  pub update-done : (d₁ d₂ : List ℕ) (c r : ℕ) → c < clients → d₁ ≡ glue (append_parts (split d) r) → d₂ ≡ query_bytes d₁ c r → d₂ ≡ update_bytes d c r
  unfolding query_bytes update_bytes
  update-done d₁ d₂ c r cl e₁ e₂ =
      let h = holds_split d l in
      let h₁ = holds_step (λ q. append_parts q r) h e₁ (append_sized h.sized r) in
      (holds_step (λ q. query_parts q c r) h₁ e₂ (query_sized h₁.sized c r cl)).eq
