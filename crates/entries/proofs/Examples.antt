-- Entries at the ends of their ranges, and 01's example of bib 7, computed.
use Prim.Native.Nat.{ℕ}
use mathlib.Core.Path.{◌≡◌, refl}
use mathlib.Core.List.{List, [], ◌∷◌, ◌++◌}
use lib.ListN.{replicate}
use Rattle.updates.specs.Kinds.{kind_number}
use Rattle.updates.specs.Effect.{effect, penalized}
use Rattle.updates.specs.Applied.{applied}
use Rattle.updates.specs.declared.kind.Kind.TheVariants.{Time, Penalty, Strike}
use Rattle.updates.specs.declared.standing.Standing.TheVariants.{At}
use Rattle.entries.specs.Stored.{entry, stored, kind_after, decoded}
use Rattle.entries.specs.Entries.{entry_at, wrote}
use Rattle.entries.specs.Folded.{standing_of}

-- tablet 15 strikes bib 999; tablet 2 enters 61,000 for bib 7
largest : stored (entry Strike 15 999 4294967295) ≡ 231 ∷ 255 ∷ 255 ∷ 255 ∷ 255 ∷ 255 ∷ []
unfolding stored kind_number
largest = refl

time : stored (entry Time 2 7 61000) ≡ 7 ∷ 32 ∷ 72 ∷ 238 ∷ 0 ∷ 0 ∷ []
unfolding stored kind_number
time = refl

abbrev two : List ℕ
two = (7 ∷ 32 ∷ 72 ∷ 238 ∷ 0 ∷ 0 ∷ []) ++ (7 ∷ 24 ∷ 136 ∷ 19 ∷ 0 ∷ 0 ∷ [])

second : entry_at two 1 ≡ entry Penalty 1 7 5000
unfolding entry_at decoded kind_after
second = refl

first_replaced : wrote two 0 (entry Strike 15 999 4294967295) ≡ replicate 1 231 ++ (replicate 5 255 ++ (7 ∷ 24 ∷ 136 ∷ 19 ∷ 0 ∷ 0 ∷ []))
unfolding wrote stored kind_number
first_replaced = refl

-- 61,000 and a Penalty of 5,000; the other way round, the Time is last; no entry is of bib 8
in_order : standing_of (entry_at two) 7 (0 ∷ 1 ∷ []) ≡ At 66000
unfolding entry_at decoded kind_after applied effect penalized
in_order = refl

other-order : standing_of (entry_at two) 7 (1 ∷ 0 ∷ []) ≡ At 61000
unfolding entry_at decoded kind_after applied effect penalized
other-order = refl

other-bib : standing_of (entry_at two) 8 (0 ∷ 1 ∷ []) ≡ At 0
unfolding entry_at decoded kind_after applied effect penalized
other-bib = refl
