-- A line at the ends of its ranges, and a sheet of two lines with bytes left over, computed.
use mathlib.Core.Path.{◌≡◌, refl}
use mathlib.Core.List.{[], ◌∷◌, ◌++◌}
use lib.ListN.{replicate}
use Rattle.updates.specs.Kinds.{kind_number}
use Rattle.updates.specs.declared.kind.Kind.TheVariants.{Time, Strike}
use Rattle.entries.specs.Stored.{entry}
use Rattle.sheets.specs.Lines.{line}
use Rattle.sheets.specs.Sheet.{lines, sheet}

-- tablet 15 strikes bib 999 as the last update
largest : line (entry Strike 15 999 4294967295) 4095 ≡ 4 ∷ 15 ∷ 231 ∷ 3 ∷ 255 ∷ 255 ∷ 255 ∷ 255 ∷ 255 ∷ 15 ∷ 0 ∷ 0 ∷ []
unfolding line kind_number
largest = refl

-- tablet 2 entered 61,000 for bib 7 each time; the numbers are shown in the order given
two : sheet (λ n. entry Time 2 7 61000) (258 ∷ 1 ∷ []) (replicate 26 9)
    ≡ (1 ∷ 2 ∷ 7 ∷ 0 ∷ 72 ∷ 238 ∷ 0 ∷ 0 ∷ 2 ∷ 1 ∷ 0 ∷ 0 ∷ []) ++ ((1 ∷ 2 ∷ 7 ∷ 0 ∷ 72 ∷ 238 ∷ 0 ∷ 0 ∷ 1 ∷ 0 ∷ 0 ∷ 0 ∷ []) ++ (9 ∷ 9 ∷ []))
unfolding sheet lines line kind_number
two = refl
