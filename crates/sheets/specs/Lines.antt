-- 01, "Listing a box": the entries of a sheet.
use Rattle.std.specs.Prelude.{ℕ, List}
use Rattle.bundles.specs.Records.{laid}
use Rattle.updates.specs.Kinds.{kind_number}
use Rattle.entries.specs.declared.entry.Entry.{Entry}

-- "kind (1 byte), tablet (1), bib (2), v (4), update's number (4), least significant byte first"
unfoldable pub line : Entry → ℕ → List ℕ
line e n = laid (kind_number e.kind) e.client e.bib e.v n
