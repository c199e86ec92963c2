-- What a caller has of a call at a table, by the definitions that the code is equal to; and what it lent.
use Rattle.std.specs.Prelude.{ℕ, List, [], length}
use Rattle.updates.specs.declared.standing.State.TheVariants.{Neither}
use Rattle.desk.specs.Calls.{Call, Update, Query, Yield, Fork, Join, Sync, Mark, Drop, Bundle, Looks, Look, Show, Fill, Preview, Verify, Bill, Records, Entries, Answer, plainly}
use Rattle.table.specs.Out as Table
use Rattle.table.specs.Out.{Level, Out, Prospect}
use Rattle.table.specs.Calls.{board_out, update_out, query_out, yield_out, fork_out, join_out, sync_out, mark_out, drop_out, list_out, fill_out, bundle_out, entries_out, preview_out, verify_out, bill_out}

-- what a caller has of a call: its answer, with the bytes of the sheet, if one was lent; the table; and the board, if one was lent
pub record Served : Type 0 where
  pub reply : Answer (List ℕ)
  pub table : List ℕ
  pub board : List ℕ

-- of a call that has bytes lent to be written
abbrev pub out_reply : Out → List ℕ → Answer (List ℕ)
out_reply u sheet = record { code = u.code; state = u.state; value = u.value; total = 0; gain = 0; sheet = sheet }

-- of a fill, of a preview, and of a verify or a bill
abbrev pub level_reply : Level → Answer (List ℕ)
level_reply f = record { code = f.code; state = Neither; value = f.own; total = f.total; gain = 0; sheet = [] }

abbrev pub prospect_reply : Prospect → Answer (List ℕ)
prospect_reply f = record { code = f.code; state = f.state; value = f.value; total = 0; gain = f.gain; sheet = [] }

abbrev pub plain_reply : Table.Answer → Answer (List ℕ)
plain_reply a = plainly a.code a.value []

-- calls that only look leave the table
abbrev pub looked : List ℕ → Look (List ℕ) → Answer (List ℕ)
looked t (Show n sheet) = let u = list_out t n sheet in out_reply u u.lent
looked t (Fill n) = level_reply (fill_out t n)
looked t (Preview n m bib) = prospect_reply (preview_out t n m bib)
looked t (Verify file) = plain_reply (verify_out t file)
looked t (Bill member) = plain_reply (bill_out t member)

abbrev pub on_table : Out → Served
on_table u = record { reply = out_reply u []; table = u.lent; board = [] }

-- 02, U10: of a call that a board is lent to, besides
abbrev pub on_board : List ℕ → List ℕ → Out → Served
on_board t board u = record { reply = out_reply u []; table = u.lent; board = board_out t u.lent board }

abbrev pub served : List ℕ → Call (List ℕ) → Served
served t (Update c n k bib v) = on_table (update_out t c n k bib v)
served t (Query c n bib) = on_table (query_out t c n bib)
served t (Yield c board) = on_board t board (yield_out t c (length board))
served t (Fork n) = on_table (fork_out t n)
served t (Join n m board) = on_board t board (join_out t n m (length board))
served t (Sync m board) = on_board t board (sync_out t m (length board))
served t (Mark n name) = on_table (mark_out t n name)
served t (Drop name) = on_table (drop_out t name)
served t (Bundle c n (Records bytes) board) = on_board t board (bundle_out t c n bytes (length board))
served t (Bundle c n (Entries es) board) = on_board t board (entries_out t c n es (length board))
served t (Looks l) = record { reply = looked t l; table = t; board = [] }

-- the sheet that a call is lent, if any
abbrev pub sheet_of : Call (List ℕ) → List ℕ
sheet_of (Update c n k bib v) = []
sheet_of (Query c n bib) = []
sheet_of (Yield c board) = []
sheet_of (Fork n) = []
sheet_of (Join n m board) = []
sheet_of (Sync m board) = []
sheet_of (Mark n name) = []
sheet_of (Drop name) = []
sheet_of (Bundle c n batch board) = []
sheet_of (Looks (Show n sheet)) = sheet
sheet_of (Looks (Fill n)) = []
sheet_of (Looks (Preview n m bib)) = []
sheet_of (Looks (Verify file)) = []
sheet_of (Looks (Bill member)) = []
