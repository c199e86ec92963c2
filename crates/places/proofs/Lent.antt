-- Names of four bytes and words of two in a part: the bytes are lent and written as they are.
use Prim.Native.Nat.{ℕ, ◌+◌, ◌*◌, ◌/◌, ◌%◌, ◌<◌}
use mathlib.Core.Path.{◌≡◌, refl, sym, ap, ◌∙◌}
use mathlib.Core.List.{List, [], ◌∷◌}
use native.Mathlib.Omega.{arith}
use lib.ListN.{length, set}
use Rattle.lists.specs.Arranged.{replaced}
use Rattle.cells.specs.Tables.{tab}
use Rattle.cells.specs.Words.{byte, put_name, put_word}
use Rattle.cells.proofs.Tables.{filled, filled_more, filled_none, tab_of}

-- a name in the place of what was lent
pub name_put : (t : List ℕ) (r : ℕ) (n : List ℕ) → 4 * r + 3 < length t → length n ≡ 4 → replaced t (4 * r) 4 n ≡ put_name t r n
unfolding put_name
name_put t r n h l =
    let f = byte n in
    let at = 4 * r in
    let none : t ≡ filled t at f 0 = filled_none t at f in
    let e : at + 0 ≡ at = omega arith in
    let first : set t at (f 0) ≡ filled t at f 1 = ap (λ z. set z at (f 0)) none ∙ ap (λ a. set (filled t at f 0) a (f 0)) (sym e) ∙ filled_more t at f 0 (f 0) (omega arith) refl in
    let second : set (set t at (f 0)) (at + 1) (f 1) ≡ filled t at f 2 = ap (λ z. set z (at + 1) (f 1)) first ∙ filled_more t at f 1 (f 1) (omega arith) refl in
    let third : set (set (set t at (f 0)) (at + 1) (f 1)) (at + 2) (f 2) ≡ filled t at f 3 = ap (λ z. set z (at + 2) (f 2)) second ∙ filled_more t at f 2 (f 2) (omega arith) refl in
    ap (replaced t at 4) (tab_of n 0 4 l) ∙ sym (ap (λ z. set z (at + 3) (f 3)) third ∙ filled_more t at f 3 (f 3) (omega arith) refl)

-- a word's two bytes in the place of what was lent
pub word_put : (t : List ℕ) (r v : ℕ) (w : List ℕ) → 2 * r + 1 < length t → w ≡ v % 256 ∷ v / 256 ∷ [] → replaced t (2 * r) 2 w ≡ put_word t r v
unfolding put_word tab
word_put t r v w h q =
    let f = byte (v % 256 ∷ v / 256 ∷ []) in
    let at = 2 * r in
    let e : at + 0 ≡ at = omega arith in
    let first : set t at (f 0) ≡ filled t at f 1 = ap (λ z. set z at (f 0)) (filled_none t at f) ∙ ap (λ a. set (filled t at f 0) a (f 0)) (sym e) ∙ filled_more t at f 0 (f 0) (omega arith) refl in
    ap (replaced t at 2) q ∙ sym (ap (λ z. set z (at + 1) (f 1)) first ∙ filled_more t at f 1 (f 1) (omega arith) refl)
