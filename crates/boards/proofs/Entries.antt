-- An entry written and read back, and the board of some standings with one of them changed.
use Prim.Native.Nat.{ℕ, zero, suc, ◌+◌, ◌*◌, ◌<◌, ◌≤◌}
use mathlib.Core.Path.{◌≡◌, refl, sym, ◌∙◌, ap}
use mathlib.Core.Logic.{◌≢◌}
use mathlib.Core.List.{List, ◌++◌, append_assoc, append-nil}
use native.Mathlib.Omega.{arith}
use lib.Dec.{eqb, ltb}
use lib.ListN.{length, take, drop, length-append, length-drop, drop_of_length-le}
use lib.Seq.{take_at, drop_at, take-append-le, drop-append-le, take_all}
use borrow.Author.Tests.{eqb-true, eqb-false, lt-ltb, ltb-true}
use Rattle.lists.specs.Arranged.{replaced}
use Rattle.lists.specs.Lists.{changed}
use Rattle.lists.proofs.Cases.{cases}
use Rattle.lists.proofs.Changed.{changed-other, changed_same}
use Rattle.lists.proofs.Replaced.{next_row, replaced-length, replaced-here, replaced-other}
use Rattle.buffers.proofs.Widths.{number_word}
use Rattle.updates.specs.declared.standing.Standing.{Standing}
use Rattle.updates.specs.declared.standing.Standing.TheVariants.{Struck, At}
use Rattle.boards.specs.Board.{board_bytes, bibs, entries_to, entry_of, shown, standing_in, wrote}

pub shown-length : (s : Standing) → length (shown s) ≡ 5
unfolding shown
shown-length Struck = refl
shown-length (At v) = refl

-- an entry reads as the standing that it shows
pub reads-shown : (s : Standing) → standing_in (shown s) ≡ s
unfolding shown standing_in
reads-shown Struck = refl
reads-shown (At v) = ap At (number_word v)

-- an entry of any board written anew: there, and elsewhere
module _ (board : List ℕ) (bib : ℕ) (s : Standing) (h : length board ≡ board_bytes) (l : bib < bibs) where
  fits : 5 * bib + 5 ≤ length board
  fits = omega arith

  pub wrote-there : entry_of (wrote board bib s) bib ≡ shown s
  unfolding wrote
  wrote-there = rw (lt-ltb bib bibs l) (replaced-here board (shown s) (5 * bib) 5 fits (shown-length s))

  pub wrote-other : (b : ℕ) → b ≢ bib → entry_of (wrote board bib s) b ≡ entry_of board b
  unfolding wrote
  wrote-other b o = rw (lt-ltb bib bibs l) (replaced-other board (shown s) 5 bib b fits (shown-length s) o)

pub wrote-length : (board : List ℕ) (bib : ℕ) (s : Standing) → length board ≡ board_bytes → length (wrote board bib s) ≡ board_bytes
unfolding wrote
wrote-length board bib s h =
    cases (ltb bib bibs)
    (λ e. rw e (let l = ltb-true bib bibs e in replaced-length board (shown s) (5 * bib) 5 (omega arith) (shown-length s) ∙ h))
    (λ e. rw e h)

-- the board of some standings
pub entries-length : (s : ℕ → Standing) (n : ℕ) → length (entries_to s n) ≡ 5 * n
unfolding entries_to
entries-length s zero = refl
entries-length s (suc n) = let e = entries-length s n in let f = shown-length (s n) in rw length-append (omega arith)

pub entries_same : (s s' : ℕ → Standing) (n : ℕ) → ((b : ℕ) → b < n → s b ≡ s' b) → entries_to s n ≡ entries_to s' n
unfolding entries_to
entries_same s s' zero h = refl
entries_same s s' (suc n) h = rw (entries_same s s' n (λ b l. h b (omega arith)), h n (omega arith))

pub entry-of : (s : ℕ → Standing) (n b : ℕ) → b < n → entry_of (entries_to s n) b ≡ shown (s b)
unfolding entries_to
entry-of s zero b l = absurd (omega arith)
entry-of s (suc n) b l =
    let e = entries-length s n in
    cases (eqb b n)
    (λ q.
    let z = eqb-true b n q in
    rw (z, drop_at (entries_to s n) (shown (s n)) (5 * n) e) (take_all 5 (shown (s n)) (let f = shown-length (s n) in omega arith)))
    (λ q.
    let z = eqb-false b n q in
    let m : b < n = omega (arith, z) in
    let r = next_row 5 b n m in
    rw (drop-append-le (5 * b) (entries_to s n) (shown (s n)) (omega arith))
    (take-append-le 5 (drop (5 * b) (entries_to s n)) (shown (s n)) (rw length-drop (omega arith)) ∙ entry-of s n b m))

pub entries_put : (s : ℕ → Standing) (b : ℕ) (x : Standing) (n : ℕ) → b < n → replaced (entries_to s n) (5 * b) 5 (shown x) ≡ entries_to (changed s b x) n
unfolding entries_to
entries_put s b x zero l = absurd (omega arith)
entries_put s b x (suc n) l =
    let e = entries-length s n in
    let t = entries_to s n in
    let f = shown-length (s n) in
    cases (eqb b n)
    (λ q.
    let z = eqb-true b n q in
    let all : length (t ++ shown (s n)) ≤ 5 * b + 5 = rw length-append (omega arith) in
    rw (take_at t (shown (s n)) (5 * b) (omega arith), drop_of_length-le (t ++ shown (s n)) {i = 5 * b + 5} all)
    (ap (λ a. t ++ a) (append-nil (shown x))
    ∙ ap (λ a. a ++ shown x) (entries_same s (changed s b x) n (λ d h. sym (changed-other s b x d (λ w. omega arith))))
    ∙ ap (λ v. entries_to (changed s b x) n ++ shown v) (sym (ap (changed s b x) (sym z) ∙ changed_same s b x))))
    (λ q.
    let z = eqb-false b n q in
    let m : b < n = omega (arith, z) in
    let r = next_row 5 b n m in
    rw (take-append-le (5 * b) t (shown (s n)) (omega arith), drop-append-le (5 * b + 5) t (shown (s n)) (omega arith), changed-other s b x n (λ w. z (sym w)))
    (ap (λ a. take (5 * b) t ++ a) (sym (append_assoc (shown x) (drop (5 * b + 5) t) (shown (s n))))
    ∙ sym (append_assoc (take (5 * b) t) (shown x ++ drop (5 * b + 5) t) (shown (s n)))
    ∙ ap (λ a. a ++ shown (s n)) (entries_put s b x n m)))
