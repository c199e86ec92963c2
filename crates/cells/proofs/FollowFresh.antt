-- The fresh parts are the fresh cells.
use Prim.Native.Nat.{ℕ, zero, suc, ◌+◌, ◌*◌, ◌/◌, ◌%◌}
use mathlib.Core.Bool.{Bool, true, false, cond, ◌&&◌, and-true}
use mathlib.Core.Path.{◌≡◌, refl, ◌∙◌, ap, fun_ext}
use mathlib.Core.List.{List, [], ◌∷◌}
use native.Mathlib.Nat.{zero-div}
use native.Mathlib.Omega.{arith}
use lib.Dec.{eqb, ltb}
use lib.ListN.{replicate, get_or-replicate, get_or-eq_default}
use borrow.Author.Tests.{ltb-true, ltb-false}
use Rattle.lists.proofs.Cases.{cases}
use Rattle.cells.specs.Sizes.{revisions, clients, main, closed, state_out}
use Rattle.cells.specs.Parts.{size, rows_part, low_part, high_part, seen_part, used_part, last_part, first_part, count_part, base_part, names_part}
use Rattle.cells.specs.Words.{byte, word, half, link_in, name_in}
use Rattle.cells.specs.Flags.{flag_in}
use Rattle.cells.specs.Decode.{decode, row_of}
use Rattle.cells.specs.CellSteps.{fresh_cells}
use Rattle.cells.specs.Steps.{fresh_parts}
use Rattle.cells.proofs.Tables.{get_or-changed}
use Rattle.cells.proofs.Flags.{packed}

abbrev zeros : ℕ → List ℕ
zeros n = replicate n 0

zero_byte : (n i : ℕ) → byte (zeros n) i ≡ 0
zero_byte zero i = refl
zero_byte (suc n) zero = refl
zero_byte (suc n) (suc i) = zero_byte n i

zero_word : (n i : ℕ) → word (zeros n) i ≡ 0
unfolding word
zero_word n i = rw (zero_byte n (2 * i), zero_byte n (2 * i + 1))

zero_name : (n r : ℕ) → name_in (zeros n) r ≡ 0 ∷ 0 ∷ 0 ∷ 0 ∷ []
zero_name n r = rw (zero_byte n (4 * r), zero_byte n (4 * r + 1), zero_byte n (4 * r + 2), zero_byte n (4 * r + 3))

zero_flag : (w m n x y : ℕ) → flag_in w m (zeros n) x y ≡ false
zero_flag w m n x y = rw (zero_byte n (w * x + y / 8), zero-div) (cases (ltb x m && ltb y (8 * w)) (λ e. rw e) (λ e. rw e))

zero_row : (n r u : ℕ) → row_of (zeros n) r u ≡ false
zero_row n zero u = refl
zero_row n (suc r) u = zero_flag 512 63 n r u

zero_link : (n m u : ℕ) → link_in (zeros n) (zeros m) u ≡ 0
unfolding half
zero_link n m u = rw (zero_byte n u, zero_byte m (u / 2)) (cases (eqb (u % 2) 0) (λ e. rw e) (λ e. rw e))

fresh-caught : (single : Bool) (x y : ℕ) → (decode (fresh_parts single)).caught x y ≡ (fresh_cells single).caught x y
fresh-caught single x y = packed clients (λ c r. true) x y ∙ and-true (ltb x clients && ltb y revisions)

fresh_opened : (single : Bool) (c : ℕ) → (decode (fresh_parts single)).opened c ≡ (fresh_cells single).opened c
fresh_opened single c =
    cases (ltb c clients)
    (λ e. rw e (get_or-replicate clients c closed 0 (ltb-true c clients e)))
    (λ e. rw e (let l = ltb-false c clients e in get_or-eq_default (replicate clients closed) 0 {n = c} (omega arith)))

fresh_state : (single : Bool) (r : ℕ) → (decode (fresh_parts single)).state r ≡ (fresh_cells single).state r
fresh_state single r = get_or-changed (zeros revisions) main state_out 0 r (omega arith) ∙ ap (λ z. cond (eqb r main) state_out z) (zero_byte revisions r)

-- the choice as a byte, and back
choice : (b : Bool) → eqb (cond b 1 0) 1 ≡ b
choice true = refl
choice false = refl

pub fresh_follows : (single : Bool) → decode (fresh_parts single) ≡ fresh_cells single
unfolding word size
fresh_follows single = λ i. record {
  state = fun_ext (fresh_state single) i;
  used = fun_ext (λ x. ap (λ z. eqb z 1) (zero_byte (size used_part) x)) i;
  last = fun_ext (zero_word (size last_part)) i;
  first = fun_ext (zero_word (size first_part)) i;
  count = fun_ext (zero_word (size count_part)) i;
  base = fun_ext (zero_word (size base_part)) i;
  row = fun_ext (λ x. fun_ext (zero_row (size rows_part) x)) i;
  link = fun_ext (zero_link (size low_part) (size high_part)) i;
  seen = fun_ext (λ x. fun_ext (zero_flag 8 revisions (size seen_part) x)) i;
  caught = fun_ext (λ x. fun_ext (fresh-caught single x)) i;
  layout = (fresh_cells single).layout;
  out = 1;
  queue = (fresh_cells single).queue;
  opened = fun_ext (fresh_opened single) i;
  updates = 0;
  given = 1;
  name = fun_ext (zero_name (size names_part)) i;
  single = choice single i;
  settled = 0;
  started = 1;
}
