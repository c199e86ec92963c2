-- The calls and what they answer with: 01, "Codes of the desk" and "Listing a box"; 02, U1, U2, U4, U6, U8, U9, U10, U13 and U14. On paper a sheet or a board
-- is told by its length, at a table it is bytes.
use Rattle.std.specs.Prelude.{ℕ, Bool, ◌||◌, List, eqb, ltb, length}
use Rattle.lists.specs.Lists.{mapped}
use Rattle.lists.specs.Names.{Name}
use Rattle.bundles.specs.declared.entry.Entry as Sent
use Rattle.bundles.specs.Records.{entries_in, is_wrong}
use Rattle.updates.specs.declared.standing.Standing.{Standing}
use Rattle.updates.specs.declared.standing.State.{State}
use Rattle.updates.specs.declared.standing.State.TheVariants.{Neither}
use Rattle.updates.specs.Effect.{state_of, value_in}

-- 02, U4: "first as 12-byte records, then as a lent list of entries"
pub data Batch : Type 0 where
  Records : List ℕ → Batch
  Entries : List Sent.Entry → Batch

-- the entries of a batch, and 14: "if the count is 0 or above 64 or the bytes aren't a multiple of 12"
abbrev pub entries_of : Batch → List Sent.Entry
entries_of (Records bytes) = entries_in bytes
entries_of (Entries es) = es

abbrev pub is_wrong_batch : Batch → Bool
is_wrong_batch (Records bytes) = is_wrong bytes
is_wrong_batch (Entries es) = eqb (length es) 0 || ltb 64 (length es)

-- arguments as they come, of any size. Calls that only look:
pub data Look (Sheet : Type 0) : Type 0 where
  -- 01: list
  Show : (revision : ℕ) (sheet : Sheet) → Look Sheet
  Fill : (revision : ℕ) → Look Sheet
  Preview : (joiner joinee bib : ℕ) → Look Sheet
  -- 02, U13: "Check a file against a table"
  Verify : (file : List ℕ) → Look Sheet
  -- 02, U14: "The bill comes from the table", for a club member or another
  Bill : (member : Bool) → Look Sheet

pub data Call (Sheet : Type 0) : Type 0 where
  Update : (client revision kind bib v : ℕ) → Call Sheet
  Query : (client revision bib : ℕ) → Call Sheet
  -- 02, U10: "Fresh, yield, bundle, join and sync take it, no other call", the board
  Yield : (client : ℕ) (board : Sheet) → Call Sheet
  Fork : (revision : ℕ) → Call Sheet
  Join : (joiner joinee : ℕ) (board : Sheet) → Call Sheet
  -- 02, U8: "names a box", the joinee
  Sync : (joinee : ℕ) (board : Sheet) → Call Sheet
  -- 02, U9: a mark "forks an idle box .. and gives the new box a name"; "Dropping a mark, by its name"
  Mark : (revision : ℕ) (name : Name) → Call Sheet
  Drop : (name : Name) → Call Sheet
  Bundle : (client revision : ℕ) (batch : Batch) (board : Sheet) → Call Sheet
  Looks : Look Sheet → Call Sheet

-- the same call with another sheet or board: "(of a sheet only the length)"
abbrev pub call_on : {S R : Type 0} → (S → R) → Call S → Call R
call_on f (Update c n k bib v) = Update c n k bib v
call_on f (Query c n bib) = Query c n bib
call_on f (Yield c board) = Yield c (f board)
call_on f (Fork n) = Fork n
call_on f (Join n m board) = Join n m (f board)
call_on f (Sync m board) = Sync m (f board)
call_on f (Mark n name) = Mark n name
call_on f (Drop name) = Drop name
call_on f (Bundle c n batch board) = Bundle c n batch (f board)
call_on f (Looks (Show n sheet)) = Looks (Show n (f sheet))
call_on f (Looks (Fill n)) = Looks (Fill n)
call_on f (Looks (Preview n m bib)) = Looks (Preview n m bib)
call_on f (Looks (Verify file)) = Looks (Verify file)
call_on f (Looks (Bill member)) = Looks (Bill member)

abbrev pub calls_on : {S R : Type 0} → (S → R) → List (Call S) → List (Call R)
calls_on f cs = mapped (call_on f) cs

-- "Each call's code and all that it answers with, and the entries a taken list writes"
pub record Answer (Sheet : Type 0) : Type 0 where
  pub code : ℕ
  -- 02, U2, of a query: "struck, timed or neither; a refused one neither"; U6, of a preview; of any other call neither
  pub state : State
  pub value : ℕ
  -- of a fill, besides its value: "the number taken by the whole table"
  pub total : ℕ
  -- 02, U6, of a preview, besides its state and value: "the gain"
  pub gain : ℕ
  pub sheet : Sheet

-- a code and a value, and nothing else: a refusal has value 0, and a call that is taken code 0
abbrev pub plainly : {S : Type 0} → ℕ → ℕ → S → Answer S
plainly code value sheet = record { code = code; state = Neither; value = value; total = 0; gain = 0; sheet = sheet }

-- "the state .. with the value, 0 if struck"
abbrev pub reading : {S : Type 0} → Standing → ℕ → S → Answer S
reading s gain sheet = record { code = 0; state = state_of s; value = value_in s; total = 0; gain = gain; sheet = sheet }

-- a fill's two numbers
abbrev pub level : {S : Type 0} → ℕ → ℕ → S → Answer S
level own total sheet = record { code = 0; state = Neither; value = own; total = total; gain = 0; sheet = sheet }

abbrev pub answer_on : {S R : Type 0} → (S → R) → Answer S → Answer R
answer_on f a = record { code = a.code; state = a.state; value = a.value; total = a.total; gain = a.gain; sheet = f a.sheet }
