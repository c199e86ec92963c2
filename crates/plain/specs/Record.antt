-- The day kept on paper: 01, "The plain day and its line-up". The day of revisions, with what each update was.
use Rattle.std.specs.Prelude.{ℕ, Bool, true, List}
use Rattle.lists.specs.Lists.{changed, mapped}
use Rattle.updates.specs.declared.kind.Kind.{Kind}
use Rattle.updates.specs.declared.kind.Kind.TheVariants.{Time}
use Rattle.updates.specs.declared.standing.Standing.{Standing}
use Rattle.entries.specs.declared.entry.Entry.{Entry}
use Rattle.entries.specs.Folded.{standing_of}
use Rattle.diagram.specs.Views.{view}
use Rattle.diagram.specs.Day as Day
use Rattle.diagram.specs.Day.{Day}
use Rattle.diagram.specs.Steps.{Event, after}

-- a line of the listing: "kind (1 byte), tablet (1), bib (2), v (4), update's number (4)"
pub record Line : Type 0 where
  pub entry : Entry
  pub number : ℕ

-- "It keeps the diagram, .. the updates taken, numbered from 0, .."; and "whatever a request's rules go by, such as .. a choice given to fresh, joins
-- the record": 02, U8, whether it is a single-main day; U14, "each box ever started, the main box included"
pub record PlainDay : Type 0 where
  pub single : Bool
  pub day : Day
  pub entries : ℕ → Entry
  pub started : ℕ

-- "It begins with box 0 out, at the root": no update has been taken yet. "Fresh gains a choice of such a day."
abbrev pub fresh_day : Bool → PlainDay
fresh_day single = record { single = single; day = Day.fresh; entries = λ n. record { kind = Time; client = 0; bib = 0; v = 0 }; started = 1 }

-- 002, Definition 9: the path-result of a vertex, for one bib. 01: "A query's answer is the effects along its path from the
-- root that uses no join edge, applied to the fresh values."
abbrev pub path_result : PlainDay → ℕ → ℕ → Standing
path_result p x bib = standing_of p.entries bib (view p.day.diagram x)

-- the lines of some numbers, in their order
abbrev pub lines_of : (ℕ → Entry) → List ℕ → List Line
lines_of entries ns = mapped (λ n. record { entry = entries n; number = n }) ns

-- an update taken: its vertex, and what it was
abbrev pub noted : PlainDay → ℕ → ℕ → Kind → ℕ → ℕ → PlainDay
noted p c r kind bib v = record {
  single = p.single;
  day = after p.day (Event c r true);
  entries = changed p.entries p.day.updates (record { kind = kind; client = c; bib = bib; v = v });
  started = p.started;
}
