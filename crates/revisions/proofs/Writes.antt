-- Each step is its writes in a row: from what every write says of the bytes before and after it to the step's definition.
use Prim.Native.Nat.{ℕ, suc, ◌+◌, ◌<◌}
use mathlib.Core.Bool.{Bool, true, false, cond}
use mathlib.Core.Path.{◌≡◌, refl, sym, ap, fun_ext, ◌∙◌}
use mathlib.Core.List.{List, [], ◌∷◌, ◌++◌}
use native.Mathlib.Numerals.{add-one}
use native.Mathlib.Omega.{arith}
use lib.Dec.{eqb, ltb}
use lib.ListN.{length, set, take, replicate, length-replicate, length-set}
use lib.Seq.{get_or-set_other, set-get_or, set-set}
use borrow.Author.Tests.{eqb-true, ne_eqb}
use Rattle.lists.specs.Lists.{rest_of}
use Rattle.lists.specs.Arranged.{insert_before, replaced}
use Rattle.lists.specs.Names.{Name}
use Rattle.lists.proofs.Cases.{cases}
use Rattle.cells.specs.Sizes.{lower_bytes, revisions, clients, closed, main, state_out, state_marked}
use Rattle.cells.specs.Parts.{Parts, Sized, parts, offset, size, split, glue, wrote, ◌⟨◌≔◌⟩, rows_part, seen_part, caught_part, state_part, used_part}
use Rattle.cells.specs.Parts.{count_part, base_part, layout_part, queue_part, opened_part, counters_part, names_part, single_part, started_part, signature_part}
use Rattle.cells.specs.Range.{signature}
use Rattle.cells.specs.Words.{put_word, put_name}
use Rattle.cells.specs.Flags.{pack}
use Rattle.cells.specs.Decode.{decode}
use Rattle.lists.specs.Pool.{fork_pool}
use Rattle.cells.specs.CellSteps.{fork_caught, fork_row, fork_started}
use Rattle.cells.specs.Steps.{put_row_of, inherit_parts, branch_parts, fresh_bytes, fork_bytes, mark_bytes}
use Rattle.cells.proofs.Parts.{Holds, holds_split, holds_put, holds_step, holds_wrote, sized_with, split_is, with_same}
use Rattle.cells.proofs.Words.{put_name-length}
use Rattle.cells.proofs.Sized.{caught_sized, branch_sized, inherit_sized, layout_sized, row_sized, seen_sized}
use Rattle.cells.proofs.Places.{insert_length}
use Rattle.linking.proofs.Writes.{byte-wrote, caught-wrote, word-wrote}
use Rattle.revisions.specs.Pieces.{fresh_counts, fresh_revisions, number_parts, start_parts}

-- part i put in whole
abbrev pub Put : List ℕ → List ℕ → ℕ → List ℕ → Type 0
Put d d' i q = d' ≡ replaced d (offset i) (length q) q

-- q was put in, and it is r
pub put_as : (d d' q r : List ℕ) (i : ℕ) → q ≡ r → d' ≡ replaced d (offset i) (length q) q → Put d d' i r
put_as d d' q r i e f = f ∙ ap (λ z. replaced d (offset i) (length z) z) e

-- three parts, one after the other
pub three_put : (d d₁ d₂ d₃ : List ℕ) (i j k : ℕ) (a b c : List ℕ) → length d ≡ lower_bytes → i < parts → j < parts → k < parts → length a ≡ size i → length b ≡ size j → length c ≡ size k
    → Put d d₁ i a → Put d₁ d₂ j b → Put d₂ d₃ k c → d₃ ≡ glue (split d ⟨ i ≔ a ⟩ ⟨ j ≔ b ⟩ ⟨ k ≔ c ⟩)
three_put d d₁ d₂ d₃ i j k a b c l il jl kl x y z e₁ e₂ e₃ =
    let h₁ = holds_put i a il x (holds_split d l) e₁ in
    let h₂ = holds_put j b jl y h₁ e₂ in
    (holds_put k c kl z h₂ e₃).eq

with_twice : (p : Parts) (i : ℕ) (a b : List ℕ) → p ⟨ i ≔ a ⟩ ⟨ i ≔ b ⟩ ≡ p ⟨ i ≔ b ⟩
with_twice p i a b = fun_ext (λ j. cases (eqb j i) (λ e. rw e) (λ e. rw e))

-- the seen flags
seen-wrote : {d d' : List ℕ} {p : Parts} (f : (ℕ → ℕ → Bool) → ℕ → ℕ → Bool) → Holds d p → d' ≡ wrote d seen_part (pack revisions (f (decode (split d)).seen)) → Holds d' (p ⟨ seen_part ≔ pack revisions (f (decode p).seen) ⟩)
seen-wrote f h e = holds_step (λ q. q ⟨ seen_part ≔ pack revisions (f (decode q).seen) ⟩) h e (seen_sized h.sized _)

with_swap : (p : Parts) (i j : ℕ) (a b : List ℕ) → (i ≡ j → ⊥) → p ⟨ i ≔ a ⟩ ⟨ j ≔ b ⟩ ≡ p ⟨ j ≔ b ⟩ ⟨ i ≔ a ⟩
with_swap p i j a b n = fun_ext (λ x. cases (eqb x j)
    (λ e. let z : eqb x i ≡ false = ne_eqb x i (λ f. n (sym f ∙ eqb-true x j e)) in rw (e, z))
    (λ e. rw e))

start_sized : {p : Parts} → Sized p → (q c n : ℕ) → Sized (start_parts p q c n)
start_sized {p} h q c n =
    let k = decode p in
    let a = caught_sized (seen_sized h (fork_pool k.seen q c)) (fork_caught k.caught q c) in
    let b = sized_with a state_part (set (p state_part) c 1) (length-set (p state_part) c 1 ∙ h.of state_part) in
    let e = layout_sized b (insert_before q c (p layout_part)) (insert_length q c (p layout_part)) in
    sized_with e counters_part (set (p counters_part) 2 n) (length-set (p counters_part) 2 n ∙ h.of counters_part)

-- the pieces of a branch are the branch: where a number was never used the queue stays, else the count of those given out
branched : (p : Parts) (q c : ℕ) → number_parts (start_parts (inherit_parts p q c) q c (suc (decode p).out)) (decode p).given ≡ branch_parts p q c
branched p q c = cases (ltb (decode p).given revisions)
    (λ e. rw e (with_twice T counters_part _ _ ∙ ap (λ r. r ⟨ counters_part ≔ set A 3 (suc (decode p).given) ⟩) (sym (with_same T queue_part))))
    (λ e. rw e (with_swap T counters_part queue_part A _ (λ f. absurd (omega arith)) ∙ ap (λ r. T ⟨ queue_part ≔ rest_of (p queue_part) ++ (1 ∷ []) ⟩ ⟨ counters_part ≔ r ⟩) (sym stays)))
  where
    A : List ℕ
    A = set (p counters_part) 2 (suc (decode p).out)

    T : Parts
    T =
        let k = decode p in
        inherit_parts p q c
        ⟨ seen_part ≔ pack revisions (fork_pool k.seen q c) ⟩
        ⟨ caught_part ≔ pack clients (fork_caught k.caught q c) ⟩
        ⟨ state_part ≔ set (p state_part) c 1 ⟩
        ⟨ layout_part ≔ take revisions (insert_before q c (p layout_part)) ⟩

    stays : set A 3 (decode p).given ≡ A
    stays = ap (set A 3) (sym (get_or-set_other (p counters_part) 2 3 (suc (decode p).out) 0 (λ f. absurd (omega arith)))) ∙ set-get_or A 3 0

module _ (d : List ℕ) (l : length d ≡ lower_bytes) where
  -- what c inherits
  pub by-count-done : (d₁ d₂ d₃ : List ℕ) (c base : ℕ) → base ≡ (decode (split d)).count 0
      → d₁ ≡ wrote d used_part (set (split d used_part) c 0) → d₂ ≡ wrote d₁ base_part (put_word (split d₁ base_part) c base) → d₃ ≡ wrote d₂ count_part (put_word (split d₂ count_part) c 0)
      → d₃ ≡ glue (inherit_parts (split d) 0 c)
  by-count-done d₁ d₂ d₃ c base eb e₁ e₂ e₃ =
      let h = holds_split d l in
      let h₁ = byte-wrote used_part c 0 h e₁ in
      let h₂ = word-wrote base_part c base h₁ e₂ in
      (word-wrote count_part c 0 h₂ e₃).eq ∙ rw (with_same (split d) rows_part, eb)

  pub by-row-done : (d₁ d₂ d₃ d₄ : List ℕ) (q c base : ℕ) (f : ℕ → Bool) → (q ≡ 0 → ⊥) → c < revisions → base ≡ (decode (split d)).base q
      → put_row_of (split d rows_part) c f ≡ put_row_of (split d rows_part) c (fork_row (decode (split d)) q)
      → d₁ ≡ wrote d rows_part (put_row_of (split d rows_part) c f) → d₂ ≡ wrote d₁ used_part (set (split d₁ used_part) c 1)
      → d₃ ≡ wrote d₂ base_part (put_word (split d₂ base_part) c base) → d₄ ≡ wrote d₃ count_part (put_word (split d₃ count_part) c 0)
      → d₄ ≡ glue (inherit_parts (split d) q c)
  by-row-done d₁ d₂ d₃ d₄ q c base f nz cl eb er e₁ e₂ e₃ e₄ =
      let h = holds_split d l in
      let h₁ = holds_step (λ p. p ⟨ rows_part ≔ put_row_of (p rows_part) c f ⟩) h e₁ (row_sized h.sized false c f cl) in
      let h₂ = byte-wrote used_part c 1 h₁ e₂ in
      let h₃ = word-wrote base_part c base h₂ e₃ in
      (word-wrote count_part c 0 h₃ e₄).eq ∙ rw (ne_eqb q 0 nz, er, eb)

  pub start-done : (d₁ d₂ d₃ d₄ d₅ : List ℕ) (q c n : ℕ)
      → d₁ ≡ wrote d seen_part (pack revisions (fork_pool (decode (split d)).seen q c)) → d₂ ≡ wrote d₁ caught_part (pack clients (fork_caught (decode (split d₁)).caught q c))
      → d₃ ≡ wrote d₂ state_part (set (split d₂ state_part) c 1) → d₄ ≡ wrote d₃ layout_part (take revisions (insert_before q c (split d₃ layout_part)))
      → d₅ ≡ wrote d₄ counters_part (set (split d₄ counters_part) 2 n) → d₅ ≡ glue (start_parts (split d) q c n)
  start-done d₁ d₂ d₃ d₄ d₅ q c n e₁ e₂ e₃ e₄ e₅ =
      let h = holds_split d l in
      let h₁ = seen-wrote (λ f. fork_pool f q c) h e₁ in
      let h₂ = caught-wrote (λ f. fork_caught f q c) h₁ e₂ in
      let h₃ = byte-wrote state_part c 1 h₂ e₃ in
      let h₄ = holds_step (λ p. p ⟨ layout_part ≔ take revisions (insert_before q c (p layout_part)) ⟩) h₃ e₄ (layout_sized h₃.sized (insert_before q c (split d layout_part)) (insert_length q c (split d layout_part))) in
      (byte-wrote counters_part 2 n h₄ e₅).eq

  -- the parent has forked the child
  pub branch-done : (d₁ d₂ d₃ : List ℕ) (q c o g : ℕ) → c < revisions → o ≡ (decode (split d)).out → g ≡ (decode (split d)).given
      → d₁ ≡ glue (inherit_parts (split d) q c) → d₂ ≡ glue (start_parts (split d₁) q c (o + 1)) → d₃ ≡ glue (number_parts (split d₂) g) → d₃ ≡ glue (branch_parts (split d) q c)
  branch-done d₁ d₂ d₃ q c o g cl eo eg e₁ e₂ e₃ =
      let h = holds_split d l in
      let h₁ = holds_step (λ p. inherit_parts p q c) h e₁ (inherit_sized h.sized q c cl) in
      let h₂ = holds_step (λ p. start_parts p q c (o + 1)) h₁ e₂ (start_sized h₁.sized q c (o + 1)) in
      e₃ ∙ ap (λ p. glue (number_parts p g)) (split_is h₂) ∙ rw (add-one, eo, eg) (ap glue (branched (split d) q c))

  -- and a box is started
  pub fork-done : (d₁ d₂ : List ℕ) (q c v : ℕ) → c < revisions → v ≡ fork_started (decode (split d)) → d₁ ≡ glue (branch_parts (split d) q c)
      → d₂ ≡ wrote d₁ started_part (put_word (split d₁ started_part) 0 v) → d₂ ≡ fork_bytes d q c
  unfolding fork_bytes
  fork-done d₁ d₂ q c v cl ev e₁ e₂ =
      let h = holds_split d l in
      let h₁ = holds_step (λ p. branch_parts p q c) h e₁ (branch_sized h.sized q c cl) in
      (word-wrote started_part 0 v h₁ e₂).eq ∙ rw ev

  pub mark-done : (d₁ d₂ d₃ : List ℕ) (q c : ℕ) (n : Name) → c < revisions
      → d₁ ≡ glue (branch_parts (split d) q c) → d₂ ≡ wrote d₁ state_part (set (split d₁ state_part) c state_marked)
      → d₃ ≡ wrote d₂ names_part (put_name (split d₂ names_part) c n) → d₃ ≡ mark_bytes d q c n
  unfolding mark_bytes
  mark-done d₁ d₂ d₃ q c n cl e₁ e₂ e₃ =
      let h = holds_split d l in
      let h₁ = holds_step (λ p. branch_parts p q c) h e₁ (branch_sized h.sized q c cl) in
      let h₂ = byte-wrote state_part c state_marked h₁ e₂ in
      let s = put_name-length (split d names_part) c n ∙ h.sized.of names_part in
      (holds_wrote names_part (λ t. put_name t c n) h₂ e₃ s).eq ∙ rw (set-set (split d state_part) c state_out state_marked)

-- a new day: bytes that are all 0, the caught-up flags, then each part put in whole
fresh-revisions_sized : {p : Parts} → Sized p → Sized (fresh_revisions p)
unfolding size
fresh-revisions_sized h =
    sized_with (sized_with (sized_with h state_part (set (replicate revisions 0) main state_out) refl) layout_part (replicate revisions main) refl) queue_part (replicate revisions 1) refl

fresh-counts_sized : {p : Parts} → Sized p → Sized (fresh_counts p)
unfolding size signature
fresh-counts_sized h =
    sized_with (sized_with (sized_with h opened_part (replicate clients closed) refl) counters_part (0 ∷ 0 ∷ 1 ∷ 1 ∷ []) refl) signature_part signature refl

pub fresh_done : (single : Bool) (d₁ d₂ d₃ d₄ d₅ d₆ : List ℕ) → d₁ ≡ glue (λ i. replicate (size i) 0) → d₂ ≡ wrote d₁ caught_part (pack clients (λ c r. true))
    → d₃ ≡ glue (fresh_revisions (split d₂)) → d₄ ≡ glue (fresh_counts (split d₃)) → d₅ ≡ wrote d₄ single_part (cond single 1 0 ∷ [])
    → d₆ ≡ wrote d₅ started_part (1 ∷ 0 ∷ []) → d₆ ≡ fresh_bytes single
unfolding fresh_bytes size
fresh_done single d₁ d₂ d₃ d₄ d₅ d₆ e₁ e₂ e₃ e₄ e₅ e₆ =
    let z : Sized (λ i. replicate (size i) 0) = record { of = λ i. length-replicate (size i) 0 } in
    let h₁ : Holds d₁ (λ i. replicate (size i) 0) = record { eq = e₁; sized = z } in
    let h₂ = caught-wrote (λ f c r. true) h₁ e₂ in
    let h₃ = holds_step fresh_revisions h₂ e₃ (fresh-revisions_sized h₂.sized) in
    let h₄ = holds_step fresh_counts h₃ e₄ (fresh-counts_sized h₃.sized) in
    let h₅ = holds_wrote single_part (λ t. cond single 1 0 ∷ []) h₄ e₅ refl in
    let h₆ = holds_wrote started_part (λ t. 1 ∷ 0 ∷ []) h₅ e₆ refl in
    h₆.eq
    ∙ ap (λ p. glue (p ⟨ started_part ≔ 1 ∷ 0 ∷ [] ⟩)) (with_swap _ signature_part single_part signature (cond single 1 0 ∷ []) (λ e. absurd (omega arith)))
    ∙ ap glue (with_swap _ signature_part started_part signature (1 ∷ 0 ∷ []) (λ e. absurd (omega arith)))
