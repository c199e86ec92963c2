-- The printed day: 01, "Day file and printed day". Every line ends in a line feed.
use Rattle.std.specs.Prelude.{ℕ, zero, suc, cond, false, List, [], ◌++◌, Option, Some, None, ltb, length, replicate}
use Rattle.updates.specs.declared.standing.State.{State}
use Rattle.updates.specs.declared.standing.State.TheVariants.{Neither, Timed, Struck}
use Rattle.text.specs.Placed.{ascii}
use Rattle.text.specs.Decimal.{ended}
use Rattle.boards.specs.Board.{board_bytes}
use Rattle.dayfile.specs.File.{file_check}
use Rattle.table.specs.Out.{table_bytes}
use Rattle.table.specs.Calls.{fresh_out}
use Rattle.report.specs.Run.{out_at}

abbrev pub blank : ℕ
blank = 32

abbrev pub line_feed : ℕ
line_feed = 10

-- 02, U2: "the printed day has `struck` for the value"
unfoldable pub value_text : State → ℕ → List ℕ
value_text Struck value = ascii "struck\n"
value_text Neither value = ended value line_feed
value_text Timed value = ended value line_feed

-- "one line a record: index from 0, code, value"
unfoldable pub line : ℕ → ℕ → State → ℕ → List ℕ
line index code state value = ended index blank ++ ended code blank ++ value_text state value

-- the lines of the first n records
unfoldable pub lines : List ℕ → List ℕ → ℕ → List ℕ
lines t f zero = []
lines t f (suc i) = lines t f i ++ line i (out_at t f i).code (out_at t f i).state (out_at t f i).value

unfoldable pub fresh_table : List ℕ
fresh_table = (fresh_out (replicate table_bytes 0) false board_bytes).lent

-- "Otherwise it makes a table fresh and prints `steps n`, then one line a record"
unfoldable pub day : List ℕ → ℕ → List ℕ
day f n = ascii "steps " ++ ended n line_feed ++ lines fresh_table f n

-- "the program prints `bad file` alone"
abbrev pub printed_as : Option ℕ → List ℕ → List ℕ
printed_as None f = ascii "bad file\n"
printed_as (Some n) f = day f n

unfoldable pub printed : List ℕ → List ℕ
printed f = printed_as (file_check f) f

-- no day is longer: 11 bytes for `steps 5460`, and 5,460 lines of at most 20, a code counted with three digits
abbrev pub room : ℕ
room = 109211

-- what is put into a buffer: nothing, where it is shorter
unfoldable pub shown : List ℕ → List ℕ → List ℕ
shown f out = cond (ltb (length out) room) [] (printed f)
