-- Headers at the edges of what is good, and records of 01's example day, computed.
use Prim.Native.Nat.{ℕ}
use mathlib.Core.Path.{◌≡◌, refl}
use mathlib.Core.List.{List, [], ◌∷◌, ◌++◌}
use lib.ListN.{replicate}
use Rattle.std.proofs.Common.{Some, None}
use Rattle.buffers.specs.Numbers.{number}
use Rattle.dayfile.specs.File.{file_check}
use Rattle.dayfile.specs.Record.{step_at, step_of}
use Rattle.dayfile.specs.declared.step.Step.TheVariants.{Update, Query, Yield, Join, Unknown}

bytes_of_61000 : number (72 ∷ 238 ∷ 0 ∷ 0 ∷ []) ≡ 61000
unfolding number
bytes_of_61000 = refl

abbrev header : ℕ → ℕ → List ℕ
header n offset = n ∷ 0 ∷ 0 ∷ 0 ∷ offset ∷ 0 ∷ 0 ∷ 0 ∷ []

-- "A file with n = 0"
no_steps : file_check (header 0 8) ≡ Some 0
unfolding file_check number
no_steps = refl

-- bytes between header and records
a_gap : file_check (header 0 10 ++ (7 ∷ 7 ∷ [])) ≡ Some 0
unfolding file_check number
a_gap = refl

too_short : file_check (0 ∷ 0 ∷ 0 ∷ 0 ∷ 7 ∷ 0 ∷ 0 ∷ []) ≡ None
unfolding file_check number
too_short = refl

offset_7 : file_check (header 0 7) ≡ None
unfolding file_check number
offset_7 = refl

-- 12 times a count of 2 ^ 30 is 0 modulo 2 ^ 32
no_wrap : file_check (0 ∷ 0 ∷ 0 ∷ 64 ∷ 8 ∷ 0 ∷ 0 ∷ 0 ∷ []) ≡ None
unfolding file_check number
no_wrap = refl

-- update 1/1 Penalty bib 7 5000, as the second of two records
abbrev penalty : List ℕ
penalty = 1 ∷ 1 ∷ 1 ∷ 0 ∷ 7 ∷ 0 ∷ 3 ∷ 0 ∷ 136 ∷ 19 ∷ 0 ∷ 0 ∷ []

two : List ℕ
two = header 2 8 ++ (3 ∷ replicate 11 200) ++ penalty

yield_200 : step_at two 0 ≡ Yield 200
unfolding two step_at step_of number
yield_200 = refl

the_penalty : step_at two 1 ≡ Update 1 1 3 7 5000
unfolding two step_at step_of number
the_penalty = refl

no_third : step_at two 2 ≡ Unknown
unfolding two step_at number
no_third = refl

-- join 0 with 1; bib 999 of a query; step 6
join_0-1 : step_of (5 ∷ 0 ∷ 0 ∷ 1 ∷ replicate 8 0) ≡ Join 0 1
unfolding step_of
join_0-1 = refl

query_999 : step_of (2 ∷ 1 ∷ 0 ∷ 0 ∷ 231 ∷ 3 ∷ replicate 6 0) ≡ Query 1 0 999
unfolding step_of number
query_999 = refl

step_6 : step_of (6 ∷ replicate 11 0) ≡ Unknown
unfolding step_of
step_6 = refl
