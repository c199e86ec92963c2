-- Numbers in bytes, each with one law: after a write the numbers are the old ones changed at one place.
use Prim.Native.Nat.{ℕ, ◌+◌, ◌*◌, ◌/◌, ◌%◌, ◌<◌, ◌≤◌}
use mathlib.Core.Bool.{true, false, cond}
use mathlib.Core.Path.{◌≡◌, refl, sym, ◌∙◌, ap}
use mathlib.Core.Logic.{◌≢◌}
use mathlib.Core.List.{List, [], ◌∷◌}
use native.Mathlib.Omega.{arith}
use lib.Dec.{eqb}
use lib.ListN.{length, set, length-set}
use lib.Seq.{get_or-set_same, get_or-set_other}
use borrow.Author.Tests.{eqb-true, eqb-false, eq-eqb, ne_eqb}
use Rattle.lists.specs.Lists.{changed}
use Rattle.lists.proofs.Cases.{cases}
use Rattle.cells.specs.Words.{byte, word, put_word, half, put_half, link_in, name_in, put_name}
use Rattle.cells.proofs.Tables.{get_or-changed}

pub put_word-length : (t : List ℕ) (r v : ℕ) → length (put_word t r v) ≡ length t
unfolding put_word
put_word-length t r v = simp length-set

pub word_put : (t : List ℕ) (r v x : ℕ) → 2 * r + 1 < length t → word (put_word t r v) x ≡ changed (word t) r v x
unfolding word put_word
word_put t r v x h = cases (eqb x r) same other
  where
    low : List ℕ
    low = set t (2 * r) (v % 256)

    fits : 2 * r + 1 < length low
    fits = rw length-set h

    same : eqb x r ≡ true → word (put_word t r v) x ≡ changed (word t) r v x
    same e =
        rw (e, eqb-true x r e, get_or-set_same low (2 * r + 1) (v / 256) 0 fits, get_or-set_other low (2 * r + 1) (2 * r) (v / 256) 0 (omega arith), get_or-set_same t (2 * r) (v % 256) 0 (omega arith))
        (omega arith)

    other : eqb x r ≡ false → word (put_word t r v) x ≡ changed (word t) r v x
    other e =
        let n = eqb-false x r e in
        rw (
          e,
          get_or-set_other low (2 * r + 1) (2 * x) (v / 256) 0 (omega arith),
          get_or-set_other low (2 * r + 1) (2 * x + 1) (v / 256) 0 (λ q. n (omega arith)),
          get_or-set_other t (2 * r) (2 * x) (v % 256) 0 (λ q. n (omega arith)),
          get_or-set_other t (2 * r) (2 * x + 1) (v % 256) 0 (omega arith),
        )

-- a byte that is not of the word, and a word that has not the byte
pub byte_put_other : (t : List ℕ) (r v j : ℕ) → j ≢ 2 * r → j ≢ 2 * r + 1 → byte (put_word t r v) j ≡ byte t j
unfolding put_word
byte_put_other t r v j h g = get_or-set_other (set t (2 * r) (v % 256)) (2 * r + 1) j (v / 256) 0 g ∙ get_or-set_other t (2 * r) j (v % 256) 0 h

pub word-set-other : (t : List ℕ) (r v j : ℕ) → 2 * r ≢ j → 2 * r + 1 ≢ j → word (set t j v) r ≡ word t r
unfolding word
word-set-other t r v j h g = rw (get_or-set_other t j (2 * r) v 0 h, get_or-set_other t j (2 * r + 1) v 0 g)

pub put_half-length : (t : List ℕ) (u v : ℕ) → length (put_half t u v) ≡ length t
unfolding put_half
put_half-length t u v = simp length-set

pub half_put : (t : List ℕ) (u v x : ℕ) → u / 2 < length t → v < 16 → half (put_half t u v) x ≡ changed (half t) u v x
unfolding half put_half
half_put t u v x h l = cases (eqb (x / 2) (u / 2)) here there
  where
    new : ℕ
    new = cond (eqb (u % 2) 0) (byte t (u / 2) / 16 * 16 + v) (byte t (u / 2) % 16 + 16 * v)

    there : eqb (x / 2) (u / 2) ≡ false → half (put_half t u v) x ≡ changed (half t) u v x
    there e =
        let n = eqb-false (x / 2) (u / 2) e in
        rw (ne_eqb x u (λ q. n (ap (λ z. z / 2) q)), get_or-set_other t (u / 2) (x / 2) new 0 n)

    here : eqb (x / 2) (u / 2) ≡ true → half (put_half t u v) x ≡ changed (half t) u v x
    here e =
        let q = eqb-true (x / 2) (u / 2) e in
        rw (q, get_or-set_same t (u / 2) new 0 h)
        (cases (eqb (x % 2) 0)
        (λ f. let y = eqb-true (x % 2) 0 f in cases (eqb (u % 2) 0) (λ g. let z = eqb-true (u % 2) 0 g in rw (f, g, eq-eqb x u (omega arith)) (omega arith)) (λ g. let z = eqb-false (u % 2) 0 g in rw (f, g, ne_eqb x u (λ w. z (sym (ap (λ k. k % 2) w) ∙ y))) (omega arith)))
        (λ f. let y = eqb-false (x % 2) 0 f in cases (eqb (u % 2) 0) (λ g. let z = eqb-true (u % 2) 0 g in rw (f, g, ne_eqb x u (λ w. y (ap (λ k. k % 2) w ∙ z))) (omega arith)) (λ g. let z = eqb-false (u % 2) 0 g in rw (f, g, eq-eqb x u (omega arith)) (omega arith))))

pub link_put : (low high : List ℕ) (u v x : ℕ) → u < length low → u / 2 < length high → v < 4096 → link_in (set low u (v % 256)) (put_half high u (v / 256)) x ≡ changed (link_in low high) u v x
link_put low high u v x h g l =
    rw (get_or-changed low u (v % 256) 0 x h, half_put high u (v / 256) x g (omega arith))
    (cases (eqb x u) (λ e. rw e (omega arith)) (λ e. rw e))

pub put_name-length : (t : List ℕ) (r : ℕ) (n : List ℕ) → length (put_name t r n) ≡ length t
unfolding put_name
put_name-length t r n = simp length-set

-- a list of four by its bytes
pub four_bytes : (n : List ℕ) → length n ≡ 4 → byte n 0 ∷ byte n 1 ∷ byte n 2 ∷ byte n 3 ∷ [] ≡ n
four_bytes (a ∷ b ∷ c ∷ d ∷ []) e = refl
four_bytes [] e = absurd (omega arith)
four_bytes (a ∷ []) e = absurd (omega arith)
four_bytes (a ∷ b ∷ []) e = absurd (omega arith)
four_bytes (a ∷ b ∷ c ∷ []) e = absurd (omega arith)
four_bytes (a ∷ b ∷ c ∷ d ∷ f ∷ n) e = absurd (omega arith)

module _ (t : List ℕ) (r : ℕ) (n : List ℕ) where
  abbrev one : List ℕ
  one = set t (4 * r) (byte n 0)

  abbrev two : List ℕ
  two = set one (4 * r + 1) (byte n 1)

  abbrev three : List ℕ
  three = set two (4 * r + 2) (byte n 2)

  byte-put-name : (j : ℕ) → (4 * r ≤ j → j < 4 * r + 4 → ⊥) → byte (put_name t r n) j ≡ byte t j
  unfolding put_name
  byte-put-name j out =
      get_or-set_other three (4 * r + 3) j (byte n 3) 0 (λ q. out (omega arith) (omega arith))
      ∙ get_or-set_other two (4 * r + 2) j (byte n 2) 0 (λ q. out (omega arith) (omega arith))
      ∙ get_or-set_other one (4 * r + 1) j (byte n 1) 0 (λ q. out (omega arith) (omega arith))
      ∙ get_or-set_other t (4 * r) j (byte n 0) 0 (λ q. out (omega arith) (omega arith))

  same-name : 4 * r + 3 < length t → name_in (put_name t r n) r ≡ byte n 0 ∷ byte n 1 ∷ byte n 2 ∷ byte n 3 ∷ []
  unfolding put_name
  same-name h =
      rw (
        get_or-set_other three (4 * r + 3) (4 * r) (byte n 3) 0 (omega arith),
        get_or-set_other two (4 * r + 2) (4 * r) (byte n 2) 0 (omega arith),
        get_or-set_other one (4 * r + 1) (4 * r) (byte n 1) 0 (omega arith),
        get_or-set_same t (4 * r) (byte n 0) 0 (omega arith),
        get_or-set_other three (4 * r + 3) (4 * r + 1) (byte n 3) 0 (omega arith),
        get_or-set_other two (4 * r + 2) (4 * r + 1) (byte n 2) 0 (omega arith),
        get_or-set_same one (4 * r + 1) (byte n 1) 0 (simp length-set (omega arith)),
        get_or-set_other three (4 * r + 3) (4 * r + 2) (byte n 3) 0 (omega arith),
        get_or-set_same two (4 * r + 2) (byte n 2) 0 (simp length-set (omega arith)),
        get_or-set_same three (4 * r + 3) (byte n 3) 0 (simp length-set (omega arith)),
      )

  pub name-put : (x : ℕ) → 4 * r + 3 < length t → length n ≡ 4 → name_in (put_name t r n) x ≡ changed (name_in t) r n x
  name-put x h l =
      cases (eqb x r)
      (λ e. rw (e, eqb-true x r e) (same-name h ∙ four_bytes n l))
      (λ e.
      let d = eqb-false x r e in
      let stays : (i : ℕ) → i < 4 → byte (put_name t r n) (4 * x + i) ≡ byte t (4 * x + i) = λ i l. byte-put-name (4 * x + i) (λ a b. d (omega arith)) in
      rw (e, byte-put-name (4 * x) (λ a b. d (omega arith)), stays 1 (omega arith), stays 2 (omega arith), stays 3 (omega arith)))
