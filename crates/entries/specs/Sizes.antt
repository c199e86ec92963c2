-- No claim rests on this file: it serves the code.
-- How many entries there are, and the ranges of their fields: 01, "Sizes of a day". No range depends on the day.
use Rattle.std.specs.Prelude.{ℕ}

-- update numbers are 0 to 4,095
abbrev pub updates : ℕ
updates = 4096

-- the bytes of the table that keep the entries, six each
abbrev pub entry_bytes : ℕ
entry_bytes = 24576

-- client numbers are 0 to 15 ("tablets 0 to 15")
abbrev pub clients : ℕ
clients = 16

-- what a bib's ten bits hold; "bibs 0 to 999" are in it
abbrev pub bib_range : ℕ
bib_range = 1024
