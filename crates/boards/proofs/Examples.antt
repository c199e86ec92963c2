-- Entries of the board and updates applied to a board of two bibs, computed.
use Prim.Native.Nat.{ℕ, zero, suc}
use mathlib.Core.Bool.{true, false}
use mathlib.Core.Path.{◌≡◌, refl}
use mathlib.Core.List.{List, [], ◌∷◌}
use Rattle.buffers.specs.Numbers.{number}
use Rattle.updates.specs.Applied.{Update}
use Rattle.updates.specs.Effect.{effect, penalized}
use Rattle.updates.specs.declared.kind.Kind.{Kind}
use Rattle.updates.specs.declared.kind.Kind.TheVariants.{Time, Penalty, Strike}
use Rattle.updates.specs.declared.standing.Standing.TheVariants.{Struck, At}
use Rattle.boards.specs.Board.{is_wrong_board, posted, posted_all, shown, standing_in, wrote}

-- 65000 is 232 + 256 · 253
entries : shown Struck ∷ shown (At 65000) ∷ [] ≡ (1 ∷ 0 ∷ 0 ∷ 0 ∷ 0 ∷ []) ∷ (0 ∷ 232 ∷ 253 ∷ 0 ∷ 0 ∷ []) ∷ []
unfolding shown
entries = refl

-- a byte of 2 is not struck, and a struck entry has no value, whatever its other bytes
read_back : standing_in (2 ∷ 232 ∷ 253 ∷ 0 ∷ 0 ∷ []) ∷ standing_in (1 ∷ 232 ∷ 253 ∷ 0 ∷ 0 ∷ []) ∷ [] ≡ At 65000 ∷ Struck ∷ []
unfolding standing_in number
read_back = refl

wrong : is_wrong_board 4999 ∷ is_wrong_board 5000 ∷ is_wrong_board 5001 ∷ [] ≡ true ∷ false ∷ true ∷ []
wrong = refl

-- bib 0 is struck and its bytes hold 9; bib 1 stands at 7, and its first byte is 2
board : List ℕ
board = 1 ∷ 9 ∷ 0 ∷ 0 ∷ 0 ∷ 2 ∷ 7 ∷ 0 ∷ 0 ∷ 0 ∷ []

update : Kind → ℕ → Update
update kind v = record { kind = kind; v = v }

-- the entry is written anew: a struck one with value 0, the other with first byte 0; the other bib's bytes stay
one : posted board 0 (update Penalty 5) ∷ posted board 1 (update Penalty 5) ∷ [] ≡ (1 ∷ 0 ∷ 0 ∷ 0 ∷ 0 ∷ 2 ∷ 7 ∷ 0 ∷ 0 ∷ 0 ∷ []) ∷ (1 ∷ 9 ∷ 0 ∷ 0 ∷ 0 ∷ 0 ∷ 12 ∷ 0 ∷ 0 ∷ 0 ∷ []) ∷ []
unfolding board update wrote shown standing_in number effect penalized
one = refl

-- "in listed order": update 0 is a Time of 3, update 1 a Penalty of 5
updates : ℕ → Update
updates zero = update Time 3
updates (suc n) = update Penalty 5

in_order : posted_all (λ n. 1) updates (0 ∷ 1 ∷ []) board ∷ posted_all (λ n. 1) updates (1 ∷ 0 ∷ []) board ∷ []
    ≡ (1 ∷ 9 ∷ 0 ∷ 0 ∷ 0 ∷ 0 ∷ 8 ∷ 0 ∷ 0 ∷ 0 ∷ []) ∷ (1 ∷ 9 ∷ 0 ∷ 0 ∷ 0 ∷ 0 ∷ 3 ∷ 0 ∷ 0 ∷ 0 ∷ []) ∷ []
unfolding board update updates posted_all wrote shown standing_in number effect penalized
in_order = refl

-- a bib above 999 has no entry
none : posted board 1000 (update Strike 0) ≡ board
unfolding wrote
none = refl
