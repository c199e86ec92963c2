-- The plain day of revisions: what 01, "The plain day and its line-up", keeps on paper. No bibs, no times, no bytes.
use Rattle.std.specs.Prelude.{ℕ, ◌<◌, Bool, true, false, cond, ◌≡◌, List, [], ◌∷◌, eqb}
use Rattle.std.proofs.Math.Option.{Option, none, some}
use Rattle.lists.specs.Sums.{any_below, last_below, sum_below}
use Rattle.lists.specs.Names.{Name}
use Rattle.diagram.specs.Diagram.{root, Diagram}
use Rattle.diagram.specs.Views.{view}
use Rattle.diagram.specs.Numbering.{Numbering, fresh_numbering, next}
use Rattle.diagram.specs.Names.{is_name}

-- 01, "Words": "A tablet's events between yields form one transaction", in the order entered. `closed` says how many
-- vertices there were at its yield; a transaction is open until then.
pub record Transaction : Type 0 where
  pub client : ℕ
  pub revision : ℕ
  pub events : List ℕ
  pub closed : Option ℕ

-- "It keeps the diagram, which boxes are handed in, the updates taken, numbered from 0, and each tablet's last event and
-- open transaction, if any." Revisions (01: boxes) and transactions are numbered by creation, without bound.
pub record Day : Type 0 where
  pub diagram : Diagram
  -- how many revisions have been started; the start vertex, fork vertex and terminal (01: line end) of each
  pub revisions : ℕ
  pub start_of : ℕ → ℕ
  pub fork_of : ℕ → ℕ
  pub terminal : ℕ → ℕ
  -- 01: handed in; 02, U9: or dropped
  pub joined : ℕ → Bool
  -- 02, U7: the numbers that they bear; U9: the names of the marks that are out
  pub numbering : Numbering
  pub mark : ℕ → Option Name
  -- how many updates have been taken
  pub updates : ℕ
  -- of each client (01: tablet): its last event and its open transaction
  pub last_event : ℕ → Option ℕ
  pub open_by : ℕ → Option ℕ
  -- how many transactions there are, and each of them
  pub transactions : ℕ
  pub transaction : ℕ → Transaction

-- "It begins with box 0 out, at the root."
abbrev pub fresh : Day
fresh = record {
  diagram = root ∷ [];
  revisions = 1;
  start_of = λ r. 0;
  fork_of = λ r. 0;
  terminal = λ r. 0;
  joined = λ r. false;
  numbering = fresh_numbering;
  mark = λ r. none;
  updates = 0;
  last_event = λ c. none;
  open_by = λ c. none;
  transactions = 0;
  transaction = λ t. record { client = 0; revision = 0; events = []; closed = none };
}

-- 3 "box number not yet given out": whether a revision got the number at its start
unfoldable pub is_given : Day → ℕ → Bool
is_given y n = any_below y.revisions (λ r. eqb (y.numbering.of r) n)

-- 02, U7: "A number means the latest box that bore it". Of a number that is not given out no call asks further.
unfoldable pub meant : Day → ℕ → ℕ
meant y n = last_below y.revisions (λ r. eqb (y.numbering.of r) n)

-- number n means revision r
abbrev pub Means : Day → ℕ → ℕ → Type 0
Means y n r = (is_given y n ≡ true) × (meant y n ≡ r)

-- the number that the next fork gives
unfoldable pub next_number : Day → ℕ
next_number y = next y.numbering

-- the number of a revision
abbrev pub number_of : Day → ℕ → ℕ
number_of y r = y.numbering.of r

-- 02, U9: whether a mark that is out bears a name; else 18 applies, "no such mark, for a drop"
unfoldable pub is_named : Day → Name → Bool
is_named y n = any_below y.revisions (λ r. is_name (y.mark r) n)

-- and which: the latest that does. Of a name that none bears no call asks further.
unfoldable pub mark_named : Day → Name → ℕ
mark_named y n = last_below y.revisions (λ r. is_name (y.mark r) n)

-- 01, "Words": "A box is out until it is handed in by a join"; a mark, until it is dropped
abbrev pub IsOut : Day → ℕ → Type 0
IsOut y r = (r < y.revisions) × (y.joined r ≡ false)

-- 01, "Words": "Busy: a box on which some tablet has an open transaction"
abbrev pub IsBusy : Day → ℕ → Type 0
IsBusy y r = (c : ℕ) × (t : ℕ) × (y.open_by c ≡ some t) × ((y.transaction t).revision ≡ r)

abbrev pub IsIdle : Day → ℕ → Type 0
IsIdle y r = IsBusy y r → ⊥

-- what a revision lists: 01, "the updates visible at the line end"
abbrev pub shown_at : Day → ℕ → List ℕ
shown_at y r = view y.diagram (y.terminal r)

-- how many are out
abbrev pub out_count : Day → ℕ
out_count y = sum_below y.revisions (λ r. cond (y.joined r) 0 1)
