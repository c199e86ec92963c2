-- Of the claims only `VerdictsFit` (crate consistency, a verify on any buffer) rests on this file; else it serves the code.
-- What the parts, and so the bytes, mean as cells. Every function is 0 or false outside its range.
use Rattle.std.specs.Prelude.{ℕ, zero, suc, Bool, false, List, eqb}
use Rattle.cells.specs.Sizes.{revisions, clients}
use Rattle.cells.specs.Parts.{Parts, split, rows_part, low_part, high_part, seen_part, caught_part, state_part, used_part, last_part, first_part}
use Rattle.cells.specs.Parts.{count_part, base_part, layout_part, queue_part, opened_part, counters_part, names_part, single_part, settled_part, started_part}
use Rattle.cells.specs.Words.{byte, word, link_in, name_in}
use Rattle.cells.specs.Flags.{flag_in}
use Rattle.cells.specs.Cells.{Cells}

-- 63 rows of 512 bytes, for revisions 1 to 63
abbrev pub row_of : List ℕ → ℕ → ℕ → Bool
row_of t zero u = false
row_of t (suc r) u = flag_in 512 63 t r u

abbrev pub decode : Parts → Cells
decode p = record {
  state = byte (p state_part);
  used = λ r. eqb (byte (p used_part) r) 1;
  last = word (p last_part);
  first = word (p first_part);
  count = word (p count_part);
  base = word (p base_part);
  row = row_of (p rows_part);
  link = link_in (p low_part) (p high_part);
  seen = flag_in 8 revisions (p seen_part);
  caught = flag_in 8 clients (p caught_part);
  layout = p layout_part;
  out = byte (p counters_part) 2;
  queue = p queue_part;
  opened = byte (p opened_part);
  updates = word (p counters_part) 0;
  given = byte (p counters_part) 3;
  name = name_in (p names_part);
  single = eqb (byte (p single_part) 0) 1;
  settled = word (p settled_part) 0;
  started = word (p started_part) 0;
}

-- the cells of the bytes
unfoldable pub cells : List ℕ → Cells
cells d = decode (split d)
