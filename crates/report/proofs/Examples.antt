-- Short files and what they print as, computed.
use Prim.Native.Nat.{ℕ}
use mathlib.Core.Path.{◌≡◌, refl}
use mathlib.Core.List.{List, [], ◌∷◌, ◌++◌}
use lib.ListN.{replicate}
use Rattle.updates.specs.declared.standing.State.TheVariants.{Timed, Struck}
use Rattle.text.specs.Placed.{ascii}
use Rattle.text.specs.Decimal.{places, decimal}
use Rattle.buffers.specs.Numbers.{number}
use Rattle.dayfile.specs.File.{file_check}
use Rattle.dayfile.specs.Record.{step_at, step_of}
use Rattle.report.specs.Printed.{line, lines, value_text, day, printed}

abbrev header : ℕ → ℕ → List ℕ
header n offset = n ∷ 0 ∷ 0 ∷ 0 ∷ offset ∷ 0 ∷ 0 ∷ 0 ∷ []

-- index 10 of 01's example
tenth : line 10 0 Timed 65000 ≡ ascii "10 0 65000\n"
unfolding line value_text decimal places
tenth = refl

-- 02, U2
struck : line 10 0 Struck 0 ≡ ascii "10 0 struck\n"
unfolding line value_text decimal places
struck = refl

bad : printed (header 0 7) ≡ ascii "bad file\n"
unfolding printed file_check number
bad = refl

-- "A file with n = 0 prints `steps 0`."
no_steps : printed (header 0 8) ≡ ascii "steps 0\n"
unfolding printed file_check number day lines decimal places
no_steps = refl

-- steps 6 and 0 are unknown, and the day goes on
unknown_steps : printed (header 2 8 ++ (6 ∷ replicate 11 0) ++ replicate 12 0) ≡ ascii "steps 2\n0 13 0\n1 13 0\n"
unfolding printed file_check number day lines line value_text step_at step_of decimal places
unknown_steps = refl
