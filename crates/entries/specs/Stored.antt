-- No claim rests on this file: it serves the code.
-- An entry as six bytes: bib's low 8 bits; client, kind and bib's high 2 bits in one byte; v, the low byte first.
use Rattle.std.specs.Prelude.{cond, ℕ, ◌+◌, ◌*◌, ◌-◌, ◌/◌, ◌%◌, List, [], ◌∷◌, eqb, get_or}
use Rattle.updates.specs.Kinds.{kind_number}
use Rattle.updates.specs.declared.kind.Kind.{Kind}
use Rattle.updates.specs.declared.kind.Kind.TheVariants.{Time, Earliest, Penalty, Strike}
use Rattle.entries.specs.declared.entry.Entry.{Entry}

abbrev pub entry : Kind → ℕ → ℕ → ℕ → Entry
entry kind client bib v = record { kind = kind; client = client; bib = bib; v = v }

-- the client's 4 bits, the kind's 2, and the high 2 of the bib
abbrev pub mixed : Entry → ℕ
mixed e = e.client * 16 + (kind_number e.kind - 1) * 4 + e.bib / 256

unfoldable pub stored : Entry → List ℕ
stored e = e.bib % 256 ∷ mixed e ∷ e.v % 256 ∷ e.v / 256 % 256 ∷ e.v / 65536 % 256 ∷ e.v / 16777216 ∷ []

-- the kind whose number is one more than n, for n below 4
unfoldable pub kind_after : ℕ → Kind
kind_after n = cond (eqb n 0) Time (cond (eqb n 1) Earliest (cond (eqb n 2) Penalty Strike))

abbrev pub byte : List ℕ → ℕ → ℕ
byte p i = get_or p i 0

-- every six bytes are some entry
unfoldable pub decoded : List ℕ → Entry
decoded p =
    entry (kind_after (byte p 1 / 4 % 4)) (byte p 1 / 16) (byte p 0 + 256 * (byte p 1 % 4))
    (byte p 2 + 256 * byte p 3 + 65536 * byte p 4 + 16777216 * byte p 5)
