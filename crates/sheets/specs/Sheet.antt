-- No claim rests on this file: it serves the code. The lines of a listing in the bytes of a sheet.
use Rattle.std.specs.Prelude.{ℕ, ◌*◌, List, [], ◌∷◌, ◌++◌, length, drop}
use Rattle.entries.specs.declared.entry.Entry.{Entry}
use Rattle.sheets.specs.Lines.{line}

-- the lines of some numbers, in their order
unfoldable pub lines : (ℕ → Entry) → List ℕ → List ℕ
lines entries [] = []
lines entries (n ∷ ns) = line (entries n) n ++ lines entries ns

-- "The sheet receives n entries of 12 bytes" and "Bytes from 12 n on stay."
unfoldable pub sheet : (ℕ → Entry) → List ℕ → List ℕ → List ℕ
sheet entries ns old = lines entries ns ++ drop (12 * length ns) old
