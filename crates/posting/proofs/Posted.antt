-- Entries posted one after the other.
use Prim.Native.Nat.{ℕ, ◌+◌, ◌<◌}
use mathlib.Core.Path.{◌≡◌, ◌∙◌, ap, refl, sym}
use mathlib.Core.List.{List, [], ◌∷◌}
use native.Mathlib.Numerals.{add-one}
use lib.ListN.{get_or, length, take}
use lib.Seq.{take-suc}
use Rattle.boards.specs.Board.{posted_all}
use Rattle.boards.proofs.Posted.{posted-append}
use Rattle.posting.specs.Brought.{bib_at, entries_posted, entry_posted, update_at}

pub none-posted : (t ns board : List ℕ) → board ≡ entries_posted t (take 0 ns) board
unfolding posted_all
none-posted t ns board = refl

pub one_more : (t ns board : List ℕ) (i : ℕ) → i < length ns → entry_posted t (get_or ns i 0) (entries_posted t (take i ns) board) ≡ entries_posted t (take (i + 1) ns) board
unfolding posted_all
one_more t ns board i h =
    sym (posted-append (bib_at t) (update_at t) (take i ns) (get_or ns i 0 ∷ []) board)
    ∙ ap (λ l. entries_posted t l board) (sym (ap (λ k. take k ns) (add-one i) ∙ take-suc ns i 0 h))
