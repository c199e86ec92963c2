-- No claim rests on this file: it serves the code. 02, U4: ".. then as a lent list of entries": the entries as records in room for 64, and how many entries
-- there are.
use Rattle.std.specs.Prelude.{ℕ, ◌*◌, ◌-◌, ◌/◌, cond, List, [], ◌∷◌, ◌++◌, ltb, length, map, replicate, take}
use Rattle.std.specs.Simd.{first_chunks}
use Rattle.lists.specs.Arranged.{replaced}
use Rattle.bundles.specs.Records.{entry_in, laid}
use Rattle.bundles.specs.declared.entry.Entry.{Entry}
use Rattle.bundles.specs.declared.pack.Packed.{Packed}

-- the records that bytes are, each with its twelve, and the entries that they hold: `rows-entries`, proofs/First.antt, has the entries of the bytes in them
abbrev pub rows : List ℕ → List (List ℕ)
rows b = first_chunks 12 (length b / 12) b

abbrev pub held : List (List ℕ) → List Entry
held = map entry_in

-- an entry as a record: what is not looked at is 0
unfoldable pub record_of : Entry → List ℕ
record_of e = laid e.kind 0 e.bib e.v 0

unfoldable pub records_of : List Entry → List ℕ
records_of [] = []
records_of (e ∷ es) = record_of e ++ records_of es

-- record i is the entry's, and the other bytes stay
abbrev pub with_record : List ℕ → ℕ → Entry → List ℕ
with_record b i e = replaced b (12 * i) 12 (record_of e)

-- no more than 64 entries as records, and zeros behind them
unfoldable pub filled : List Entry → List ℕ
filled es = records_of es ++ replicate (768 - 12 * length es) 0

-- of more than 64 entries the count alone decides: the bundle is wrong
unfoldable pub packed_of : List Entry → Packed
packed_of es = record { bytes = filled (take 64 es); count = length es }

-- how many of so many entries are passed on. Above 64 none are: a bundle of none is wrong as one of more than 64 is, 14
abbrev pub among : ℕ → ℕ
among n = cond (ltb 64 n) 0 n

-- the bytes that are passed on: the records of all entries
unfoldable pub records_in : Packed → List ℕ
records_in p = take (12 * among p.count) p.bytes
