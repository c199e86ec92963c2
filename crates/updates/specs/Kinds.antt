-- The numbers of the four kinds of update, 01, "Updates (each total)"; and code 5, "bib above 999, or update kind not 1 to 4".
use Rattle.std.specs.Prelude.{ℕ, Bool, true, false, cond, not, ◌==◌, nat_lt, Result, Ok, Err}
use Rattle.updates.specs.declared.kind.Kind.{Kind}
use Rattle.updates.specs.declared.kind.Kind.TheVariants.{Time, Earliest, Penalty, Strike}
use Rattle.updates.specs.declared.kind.UnknownKind.{UnknownKind}

-- "1. Time", "2. Earliest", "3. Penalty", "4. Strike"
unfoldable pub kind_number : Kind → ℕ
kind_number Time = 1
kind_number Earliest = 2
kind_number Penalty = 3
kind_number Strike = 4

abbrev pub unknown : UnknownKind
unknown = record {}

-- the kind whose number the byte is, if there is one
unfoldable pub kind_check : ℕ → Result Kind UnknownKind
kind_check n =
    cond (n == 1) (Ok Time)
    (cond (n == 2) (Ok Earliest) (cond (n == 3) (Ok Penalty) (cond (n == 4) (Ok Strike) (Err unknown))))

-- "bib above 999"
abbrev pub bad_bib : ℕ → Bool
bad_bib bib = not (nat_lt bib 1000)

-- "update kind not 1 to 4"; and the kind that a byte names, which no call asks where it names none
abbrev pub is_unknown : Result Kind UnknownKind → Bool
is_unknown (Err e) = true
is_unknown (Ok kind) = false

abbrev pub bad_kind : ℕ → Bool
bad_kind k = is_unknown (kind_check k)

abbrev pub kind_in : Result Kind UnknownKind → Kind
kind_in (Err e) = Time
kind_in (Ok kind) = kind

abbrev pub kind_of : ℕ → Kind
kind_of k = kind_in (kind_check k)
