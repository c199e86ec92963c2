-- Of the claims those about any buffer rest on this file: `StaysTable`, `FreshMakesTable` (crate consistency), `OnesExactly`, `OnceAllMade` and
-- `BundlesOneByOne` (crate courses). Else it serves the code.
-- Code 1, "a cell is out of its range": docs/CELLS.md, "Ranges". Fixed numbers; rows, links, flags and names have every byte in range.
use Rattle.std.specs.Prelude.{ℕ, Bool, ◌&&◌, List, [], ◌∷◌, eqb, ltb}
use Rattle.cells.specs.Sizes.{revisions, clients}
use Rattle.cells.specs.Tables.{every}
use Rattle.cells.specs.Parts.{Parts, split, state_part, used_part, last_part, first_part, count_part, base_part, layout_part}
use Rattle.cells.specs.Parts.{queue_part, opened_part, counters_part, single_part, settled_part, signature_part}
use Rattle.cells.specs.Words.{byte, word}

-- n bytes, or words, each below a limit
abbrev pub bytes_below : ℕ → ℕ → List ℕ → Bool
bytes_below n limit t = every (λ i. ltb (byte t i) limit) n

abbrev pub words_below : ℕ → ℕ → List ℕ → Bool
words_below n limit t = every (λ i. ltb (word t i) limit) n

-- the bytes of `SILTTONG`: this layout of the cells, and no other file
unfoldable pub signature : List ℕ
signature = 83 ∷ 73 ∷ 76 ∷ 84 ∷ 84 ∷ 79 ∷ 78 ∷ 71 ∷ []

abbrev pub signed : List ℕ → Bool
signed t = every (λ i. eqb (byte t i) (byte signature i)) 8

-- updates taken 0 to 4,096; revisions out 1 to 64; numbers given out 1 to 64
abbrev pub counters_in : List ℕ → Bool
counters_in t = ltb (word t 0) 4097 && (ltb 0 (byte t 2) && (ltb (byte t 2) 65 && (ltb 0 (byte t 3) && ltb (byte t 3) 65)))

-- the cells of each revision's record
abbrev pub records_in : Parts → Bool
records_in p =
    bytes_below revisions 4 (p state_part)
    && (bytes_below revisions 2 (p used_part)
    && (words_below revisions 4096 (p last_part)
    && (words_below revisions 4096 (p first_part) && (words_below revisions 4097 (p count_part) && words_below revisions 4097 (p base_part)))))

-- numbers that may be handed in: 1 to 63
abbrev pub queue_in : List ℕ → Bool
queue_in t = every (λ i. ltb 0 (byte t i) && ltb (byte t i) 64) revisions

-- the layout, the queue and open transactions
abbrev pub places_in : Parts → Bool
places_in p = bytes_below revisions 64 (p layout_part) && (queue_in (p queue_part) && bytes_below clients 65 (p opened_part))

-- cells that are one for the whole table: counters, single 0 to 1, settled 0 to 4,096, and the signature
abbrev pub singles_in : Parts → Bool
singles_in p = counters_in (p counters_part) && (bytes_below 1 2 (p single_part) && (words_below 1 4097 (p settled_part) && signed (p signature_part)))

abbrev pub parts_in : Parts → Bool
parts_in p = records_in p && (places_in p && singles_in p)

unfoldable pub in_range : List ℕ → Bool
in_range d = parts_in (split d)
