-- Each change of an own list is its writes in a row: from what every write says of the bytes before and after it to the definition.
use Prim.Native.Nat.{ℕ, ◌+◌, ◌/◌, ◌%◌}
use mathlib.Core.Bool.{Bool, cond}
use mathlib.Core.Path.{◌≡◌, sym, ◌∙◌}
use mathlib.Core.List.{List}
use native.Mathlib.Numerals.{add-one}
use lib.Dec.{eqb}
use lib.ListN.{length, set, length-set}
use borrow.Author.Tests.{eq-eqb, ne_eqb}
use Rattle.cells.specs.Sizes.{lower_bytes, clients}
use Rattle.cells.specs.Parts.{Parts, split, glue, wrote, ◌⟨◌≔◌⟩, caught_part, low_part, high_part, last_part, first_part, count_part, counters_part}
use Rattle.cells.specs.Words.{put_word, put_half}
use Rattle.cells.specs.Flags.{pack}
use Rattle.cells.specs.Decode.{decode}
use Rattle.cells.specs.CellSteps.{counted}
use Rattle.cells.specs.Steps.{link_parts, append_parts, splice_parts}
use Rattle.cells.proofs.Parts.{Holds, glue-split, holds_split, holds_step, holds_wrote, with_same}
use Rattle.cells.proofs.Words.{put_word-length, put_half-length}
use Rattle.cells.proofs.Sized.{caught_sized, link_sized}

-- a byte, and a word, of one part
pub byte-wrote : {d d' : List ℕ} {p : Parts} (i r v : ℕ) → Holds d p → d' ≡ wrote d i (set (split d i) r v) → Holds d' (p ⟨ i ≔ set (p i) r v ⟩)
byte-wrote {p = p} i r v h e = holds_wrote i (λ t. set t r v) h e (length-set (p i) r v ∙ h.sized.of i)

pub word-wrote : {d d' : List ℕ} {p : Parts} (i r v : ℕ) → Holds d p → d' ≡ wrote d i (put_word (split d i) r v) → Holds d' (p ⟨ i ≔ put_word (p i) r v ⟩)
word-wrote {p = p} i r v h e = holds_wrote i (λ t. put_word t r v) h e (put_word-length (p i) r v ∙ h.sized.of i)

-- the caught-up flags
pub caught-wrote : {d d' : List ℕ} {p : Parts} (f : (ℕ → ℕ → Bool) → ℕ → ℕ → Bool) → Holds d p → d' ≡ wrote d caught_part (pack clients (f (decode (split d)).caught)) → Holds d' (p ⟨ caught_part ≔ pack clients (f (decode p).caught) ⟩)
caught-wrote f h e = holds_step (λ q. q ⟨ caught_part ≔ pack clients (f (decode q).caught) ⟩) h e (caught_sized h.sized _)

module _ (d : List ℕ) (l : length d ≡ lower_bytes) where
  pub link-done : (d₁ d₂ : List ℕ) (u v : ℕ) → d₁ ≡ wrote d low_part (set (split d low_part) u (v % 256)) → d₂ ≡ wrote d₁ high_part (put_half (split d₁ high_part) u (v / 256)) → d₂ ≡ glue (link_parts (split d) u v)
  link-done d₁ d₂ u v e₁ e₂ =
      let h = holds_split d l in
      let h₁ = byte-wrote low_part u (v % 256) h e₁ in
      (holds_wrote high_part (λ t. put_half t u (v / 256)) h₁ e₂ (put_half-length (split d high_part) u _ ∙ h.sized.of high_part)).eq

  pub append-done : (d₁ d₂ d₃ d₄ d₅ : List ℕ) (r u last count first : ℕ)
      → u ≡ (decode (split d)).updates → last ≡ (decode (split d)).last r → count ≡ counted ((decode (split d)).count r + 1) → first ≡ cond (eqb ((decode (split d)).count r) 0) u ((decode (split d)).first r)
      → d₁ ≡ glue (link_parts (split d) u last) → d₂ ≡ wrote d₁ last_part (put_word (split d₁ last_part) r u) → d₃ ≡ wrote d₂ first_part (put_word (split d₂ first_part) r first)
      → d₄ ≡ wrote d₃ count_part (put_word (split d₃ count_part) r count) → d₅ ≡ wrote d₄ counters_part (put_word (split d₄ counters_part) 0 (u + 1))
      → d₅ ≡ glue (append_parts (split d) r)
  append-done d₁ d₂ d₃ d₄ d₅ r u last count first eu el ec ef e₁ e₂ e₃ e₄ e₅ =
      let h = holds_split d l in
      let h₁ = holds_step (λ q. link_parts q u last) h e₁ (link_sized h.sized u last) in
      let h₂ = word-wrote last_part r u h₁ e₂ in
      let h₃ = word-wrote first_part r first h₂ e₃ in
      let h₄ = word-wrote count_part r count h₃ e₄ in
      (word-wrote counters_part 0 (u + 1) h₄ e₅).eq ∙ rw (ec, add-one, add-one, ef, eu, el)

  same_parts : (p : Parts) → p ⟨ low_part ≔ p low_part ⟩ ⟨ high_part ≔ p high_part ⟩ ⟨ last_part ≔ p last_part ⟩ ⟨ first_part ≔ p first_part ⟩ ≡ p
  same_parts p = rw (with_same p low_part) (rw (with_same p high_part) (rw (with_same p last_part) (with_same p first_part)))

  -- nothing to splice
  pub splice-none : (a b n : ℕ) → n ≡ (decode (split d)).count b → n ≡ 0 → d ≡ glue (splice_parts (split d) a b)
  splice-none a b n en z = rw (eq-eqb ((decode (split d)).count b) 0 (sym en ∙ z), same_parts (split d)) (sym (glue-split d l))

  pub splice-done : (d₁ d₂ d₃ : List ℕ) (a b n from to end first : ℕ)
      → n ≡ (decode (split d)).count b → (n ≡ 0 → ⊥) → from ≡ (decode (split d)).first b → to ≡ (decode (split d)).last a → end ≡ (decode (split d)).last b
      → first ≡ cond (eqb ((decode (split d)).count a) 0) from ((decode (split d)).first a)
      → d₁ ≡ glue (link_parts (split d) from to) → d₂ ≡ wrote d₁ last_part (put_word (split d₁ last_part) a end) → d₃ ≡ wrote d₂ first_part (put_word (split d₂ first_part) a first)
      → d₃ ≡ glue (splice_parts (split d) a b)
  splice-done d₁ d₂ d₃ a b n from to end first en nz ef et ee eg e₁ e₂ e₃ =
      let h = holds_split d l in
      let h₁ = holds_step (λ q. link_parts q from to) h e₁ (link_sized h.sized from to) in
      let h₂ = word-wrote last_part a end h₁ e₂ in
      (word-wrote first_part a first h₂ e₃).eq ∙ rw (ne_eqb ((decode (split d)).count b) 0 (λ z. nz (en ∙ z)), eg, ef, et, ee)
