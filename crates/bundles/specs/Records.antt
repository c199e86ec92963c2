-- 02, U4: "Accept 1 to 64 updates .., first as 12-byte records, then as a lent list of entries."
use Rattle.std.specs.Prelude.{ℕ, zero, suc, ◌*◌, ◌/◌, ◌%◌, Bool, not, ◌||◌, List, [], ◌∷◌, ◌++◌, eqb, ltb, length, take, drop, get_or}
use Rattle.buffers.specs.Numbers.{number_at, word}
use Rattle.bundles.specs.declared.entry.Entry.{Entry}

-- "kind (1 byte), tablet (1), bib (2), v (4), update's number (4), least significant byte first"
abbrev pub laid : ℕ → ℕ → ℕ → ℕ → ℕ → List ℕ
laid kind client bib v number = kind ∷ client ∷ bib % 256 ∷ bib / 256 ∷ (word v ++ word number)

-- "Records are laid out as in the listing; their tablet and number aren't looked at"
abbrev pub entry_in : List ℕ → Entry
entry_in p = record { kind = get_or p 0 0; bib = number_at p 2 2; v = number_at p 4 4 }

-- the entry of record i
abbrev pub entry_at : List ℕ → ℕ → Entry
entry_at b i = entry_in (take 12 (drop (12 * i) b))

-- the entries of n records from record i on
unfoldable pub entries_from : List ℕ → ℕ → ℕ → List Entry
entries_from b i zero = []
entries_from b i (suc n) = entry_at b i ∷ entries_from b (suc i) n

unfoldable pub entries_in : List ℕ → List Entry
entries_in b = entries_from b 0 (length b / 12)

-- 14 "wrong bundle, if the count is 0 or above 64 or the bytes aren't a multiple of 12"
unfoldable pub is_wrong : List ℕ → Bool
is_wrong b = not (eqb (length b % 12) 0) || (eqb (length b / 12) 0 || ltb 64 (length b / 12))
