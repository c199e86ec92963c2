-- No claim rests on this file: it serves the code.
-- The entries in a row, six bytes each: entry n read, and entry n replaced.
use Rattle.std.specs.Prelude.{ℕ, ◌*◌, List, take, drop}
use Rattle.lists.specs.Arranged.{replaced}
use Rattle.entries.specs.declared.entry.Entry.{Entry}
use Rattle.entries.specs.Stored.{stored, decoded}

-- past the last byte there is nothing but zeros to decode: the entry of a fresh day
unfoldable pub entry_at : List ℕ → ℕ → Entry
entry_at t n = decoded (take 6 (drop (6 * n) t))

unfoldable pub wrote : List ℕ → ℕ → Entry → List ℕ
wrote t n e = replaced t (6 * n) 6 (stored e)
