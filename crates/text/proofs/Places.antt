-- Text put behind text is one text put.
use Prim.Native.Nat.{ℕ, ◌+◌, ◌≤◌}
use mathlib.Core.Path.{◌≡◌, refl, sym, ◌∙◌, ap}
use mathlib.Core.List.{List, [], ◌++◌, append_assoc}
use native.Mathlib.Nat.{add-zero}
use native.Mathlib.Omega.{arith}
use lib.ListN.{length, take, drop, length-append, take-append-drop}
use lib.Seq.{length-take-le, take_at, drop_at, drop-drop}
use Rattle.io.specs.Counts.{IsPrefixLen}
use Rattle.lists.proofs.Replaced.{replaced-length}
use Rattle.text.specs.Placed.{placed}

module _ (out s : List ℕ) (at : ℕ) (fits : at + length s ≤ length out) where
  front : length (take at out ++ s) ≡ at + length s
  front = length-append (take at out) s ∙ ap (λ n. n + length s) (length-take-le at out (omega arith))

  pub placed-length : length (placed out at s) ≡ length out
  unfolding placed
  placed-length = replaced-length out s at (length s) fits refl

  -- the buffer is what stands before the end of the text, and then what stood there
  split : placed out at s ≡ (take at out ++ s) ++ drop (at + length s) out
  unfolding placed
  split = sym (append_assoc (take at out) s (drop (at + length s) out))

  pub placed-more : (r : List ℕ) → placed (placed out at s) (at + length s) r ≡ placed out at (s ++ r)
  unfolding placed
  placed-more r =
      let a = take at out ++ s in
      let d = drop (at + length s) out in
      let e : take (at + length s) (a ++ d) ≡ a = take_at a d (at + length s) front in
      let l : at + length s + length r ≡ at + length (s ++ r) = rw length-append (omega arith) in
      let g : drop (at + length s + length r) (a ++ d) ≡ drop (at + length (s ++ r)) out =
      sym (drop-drop (length r) (at + length s) (a ++ d)) ∙ ap (drop (length r)) (drop_at a d (at + length s) front) ∙ drop-drop (length r) (at + length s) out ∙ ap (λ n. drop n out) l in
      rw (split, e, g, append_assoc (take at out) s (r ++ drop (at + length (s ++ r)) out), append_assoc s r (drop (at + length (s ++ r)) out))

pub placed-none : (out : List ℕ) (at : ℕ) → placed out at [] ≡ out
unfolding placed
placed-none out at = rw add-zero (take-append-drop at out)

-- s is put into `out` at `at`: where it ends, and the buffer then
abbrev pub Put : List ℕ → ℕ → List ℕ → ℕ → List ℕ → Type 0
Put out at s end now = (end ≡ at + length s) × (now ≡ placed out at s)

-- for code that puts s, and then r where the first call stopped
module _ (out s r : List ℕ) (at : ℕ) (fits : at + length (s ++ r) ≤ length out) where
  pub first_fits : at + length s ≤ length out
  first_fits = omega (arith, length-append s r)

  module _ (mid : List ℕ) (a : ℕ) (h : Put out at s a mid) where
    pub next_fits : a + length r ≤ length mid
    next_fits = rw (h.0, h.1, placed-length out s at first_fits) (omega (arith, length-append s r))

    pub both-put : (e : ℕ) (end : List ℕ) → Put mid a r e end → Put out at (s ++ r) e end
    both-put e end g =
        (omega (arith, g.0, h.0, length-append s r), g.1 ∙ ap (λ m. placed m a r) h.1 ∙ ap (λ k. placed (placed out at s) k r) h.0 ∙ placed-more out s at first_fits r)

-- what was put at the start of a buffer is a count of its bytes
pub put-counts : (out s z : List ℕ) (r : ℕ) → (r ≡ length s) × (z ≡ placed out 0 s) → IsPrefixLen r z
unfolding placed
put-counts out s z r h =
    let l : r ≤ length z = rw (h.0, h.1, length-append s (drop (0 + length s) out)) (omega arith) in
    (l, sym (length-take-le r z l))
