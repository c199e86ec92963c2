-- The standing of one bib: the updates of the bib among some numbers, "applied to the fresh values", in their order.
use Rattle.std.specs.Prelude.{ℕ, List}
use Rattle.updates.specs.Applied as Applied
use Rattle.updates.specs.Applied.{Update, applied, fresh_standing}
use Rattle.updates.specs.declared.standing.Standing.{Standing}
use Rattle.entries.specs.declared.entry.Entry.{Entry}

abbrev pub of_bib : (ℕ → Entry) → ℕ → List ℕ → List Update
of_bib entries bib ns = Applied.of_bib (λ n. (entries n).bib) (λ n. record { kind = (entries n).kind; v = (entries n).v }) bib ns

abbrev pub standing_of : (ℕ → Entry) → ℕ → List ℕ → Standing
standing_of entries bib ns = applied (of_bib entries bib ns) fresh_standing
