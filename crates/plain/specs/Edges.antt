-- 01, "Edges of a race day": the starred edges E1 to E9 as one table of calls with what each gives; and 02, U1 to U4, U6 to U10, U13 and U14.
use Rattle.std.specs.Prelude.{ℕ, zero, suc, Bool, true, false, List, [], ◌∷◌, ◌++◌, replicate}
use Rattle.lists.specs.Names.{Name}
use Rattle.updates.specs.declared.standing.Standing.TheVariants.{At, Struck}
use Rattle.bundles.specs.declared.entry.Entry as Sent
use Rattle.orderfile.specs.File.{file_of}
use Rattle.boards.specs.Board.{board_bytes}
use Rattle.desk.specs.Calls.{Call, Update, Query, Yield, Fork, Join, Sync, Mark, Drop, Bundle, Looks, Show, Fill, Preview, Verify, Bill, Entries, Records, Answer, plainly, reading, level, answer_on}
use Rattle.plain.specs.Answers.{answers}

-- what a call gives, the sheet apart
abbrev pub Said : Type 0
Said = Answer (Unit {0})

pub record Edge : Type 0 where
  pub calls : List (Call ℕ)
  pub says : List Said

abbrev edge : List (Call ℕ) → List Said → Edge
edge calls says = record { calls = calls; says = says }

-- refused; a query that finds a bib timed, neither or struck; any other call that is taken
abbrev pub refusal : ℕ → Said
refusal code = plainly code 0 tt

abbrev pub timed : ℕ → Said
timed value = reading (At value) 0 tt

abbrev pub neither : Said
neither = reading (At 0) 0 tt

abbrev struck : Said
struck = reading Struck 0 tt

abbrev pub ok : ℕ → Said
ok value = plainly 0 value tt

-- a fill: a revision's own updates, and those of the whole table
abbrev pub filled : ℕ → ℕ → Said
filled own total = level own total tt

-- a preview, by how the bib stands there, and its gain
abbrev at : ℕ → ℕ → Said
at value gain = reading (At value) gain tt

abbrev off : ℕ → Said
off gain = reading Struck gain tt

-- the calls that only look
abbrev pub list : ℕ → ℕ → Call ℕ
list n room = Looks (Show n room)

abbrev pub fill : ℕ → Call ℕ
fill n = Looks (Fill n)

abbrev preview : ℕ → ℕ → ℕ → Call ℕ
preview n m bib = Looks (Preview n m bib)

abbrev verify : List ℕ → Call ℕ
verify numbers = Looks (Verify (file_of numbers))

abbrev bill : Bool → Call ℕ
bill member = Looks (Bill member)

-- the calls that a board is lent to, with one of the right length
abbrev pub yield : ℕ → Call ℕ
yield c = Yield c board_bytes

abbrev pub join : ℕ → ℕ → Call ℕ
join n m = Join n m board_bytes

abbrev sync : ℕ → Call ℕ
sync m = Sync m board_bytes

-- the numbers of the kinds
abbrev time : ℕ
time = 1

abbrev earliest : ℕ
earliest = 2

abbrev penalty : ℕ
penalty = 3

abbrev strike : ℕ
strike = 4

-- a record of a bundle, of small numbers, and one of bib 1,000. The client and the number in it are not looked at.
abbrev pub small : ℕ → ℕ → ℕ → List ℕ
small kind bib v = kind ∷ 99 ∷ bib ∷ 0 ∷ v ∷ 0 ∷ 0 ∷ 0 ∷ 7 ∷ 7 ∷ 7 ∷ 7 ∷ []

abbrev pub unknown_bib : List ℕ
unknown_bib = time ∷ 0 ∷ 232 ∷ 3 ∷ 5 ∷ 0 ∷ 0 ∷ 0 ∷ 0 ∷ 0 ∷ 0 ∷ 0 ∷ []

-- an entry of a lent list, and a bundle of records and of such entries
abbrev pub lent : ℕ → ℕ → ℕ → Sent.Entry
lent kind bib v = record { kind = kind; bib = bib; v = v }

abbrev pub sends : ℕ → ℕ → List ℕ → Call ℕ
sends c n bytes = Bundle c n (Records bytes) board_bytes

abbrev pub lends : ℕ → ℕ → List Sent.Entry → Call ℕ
lends c n es = Bundle c n (Entries es) board_bytes

abbrev pub edges : List Edge
edges =
    -- E1 "The day above: query at index 10 gives 65000, not 60000."
    edge
    (Update 0 0 time 7 61000 ∷ yield 0 ∷ Fork 0 ∷ Update 1 1 penalty 7 5000 ∷ Fork 1 ∷ yield 1 ∷ Update 0 0 time 7 60000
    ∷ yield 0 ∷ Query 0 1 7 ∷ join 0 1 ∷ Query 1 0 7 ∷ Update 0 1 strike 7 0 ∷ [])
    (ok 0 ∷ ok 0 ∷ ok 1 ∷ ok 1 ∷ refusal 7 ∷ ok 0 ∷ ok 2 ∷ ok 0 ∷ refusal 8 ∷ ok 1 ∷ timed 65000 ∷ refusal 4 ∷ [])
    -- E2 "Box 0 sends 1, 1 sends 2: join 0 with 2 gives 11, and so does join 2 with 1; after join 0 with 1, join 0 with 2
    -- is taken."
    ∷ edge
    (Fork 0 ∷ Fork 1 ∷ join 0 2 ∷ join 2 1 ∷ join 0 1 ∷ join 0 2 ∷ [])
    (ok 1 ∷ ok 2 ∷ refusal 11 ∷ refusal 11 ∷ ok 0 ∷ ok 0 ∷ [])
    -- E3 "Box 0 sends 1, then 2: join 1 with 2 gives 11, and after it join 2 with 1 is taken."
    ∷ edge (Fork 0 ∷ Fork 0 ∷ join 1 2 ∷ join 2 1 ∷ []) (ok 1 ∷ ok 2 ∷ refusal 11 ∷ ok 0 ∷ [])
    -- E4 "Join 0 with 0: 11, but 7 while box 0 is busy."
    ∷ edge (join 0 0 ∷ Query 3 0 7 ∷ join 0 0 ∷ []) (refusal 11 ∷ neither ∷ refusal 7 ∷ [])
    -- E5 "Penalty 4,294,967,295 on value 1 gives 0."
    ∷ edge (Update 0 0 time 7 1 ∷ Update 0 0 penalty 7 4294967295 ∷ Query 0 0 7 ∷ []) (ok 0 ∷ ok 1 ∷ neither ∷ [])
    -- E6 "Earliest: 0 and 9 give 9; 9 and 0 give 9; 9 and 9 give 9."
    ∷ edge
    (Update 0 0 earliest 1 9 ∷ Query 0 0 1 ∷ Update 0 0 earliest 1 0 ∷ Query 0 0 1 ∷ Update 0 0 earliest 1 9 ∷ Query 0 0 1 ∷ [])
    (ok 0 ∷ timed 9 ∷ ok 1 ∷ timed 9 ∷ ok 2 ∷ timed 9 ∷ [])
    -- E7 "Two yields in a row: both taken."
    ∷ edge (Update 2 0 time 5 8 ∷ yield 2 ∷ yield 2 ∷ []) (ok 0 ∷ ok 0 ∷ ok 0 ∷ [])
    -- E8 "A join of a box without updates gains 0."
    ∷ edge (Update 0 0 time 5 8 ∷ yield 0 ∷ Fork 0 ∷ join 0 1 ∷ []) (ok 0 ∷ ok 0 ∷ ok 1 ∷ ok 0 ∷ [])
    -- E9 "Bib 999 is taken; 1,000 gives 5."
    ∷ edge (Update 0 0 time 999 8 ∷ Update 0 0 time 1000 8 ∷ Query 0 0 1000 ∷ []) (ok 0 ∷ refusal 5 ∷ refusal 5 ∷ [])
    -- 02, U2: Strike, then Earliest, Penalty, Time and Time 0
    ∷ edge (Update 0 0 strike 7 1 ∷ Query 0 0 7 ∷ Update 0 0 earliest 7 9 ∷ Query 0 0 7 ∷ []) (ok 0 ∷ struck ∷ ok 1 ∷ struck ∷ [])
    ∷ edge (Update 0 0 time 7 9 ∷ Update 0 0 strike 7 0 ∷ Update 0 0 penalty 7 9 ∷ Query 0 0 7 ∷ []) (ok 0 ∷ ok 1 ∷ ok 2 ∷ struck ∷ [])
    ∷ edge (Update 0 0 strike 7 0 ∷ Update 0 0 time 7 9 ∷ Query 0 0 7 ∷ []) (ok 0 ∷ ok 1 ∷ timed 9 ∷ [])
    ∷ edge (Update 0 0 strike 7 0 ∷ Update 0 0 time 7 0 ∷ Query 0 0 7 ∷ []) (ok 0 ∷ ok 1 ∷ neither ∷ [])
    -- U3: "Penalty 5000, then Earliest 60000, gives 60000, and after the Penalty alone the query gives 0"
    ∷ edge (Update 0 0 penalty 7 5000 ∷ Query 0 0 7 ∷ Update 0 0 earliest 7 60000 ∷ Query 0 0 7 ∷ []) (ok 0 ∷ neither ∷ ok 1 ∷ timed 60000 ∷ [])
    -- a refused query answers neither, also of a struck bib
    ∷ edge (Update 0 0 strike 7 0 ∷ Query 1 0 7 ∷ []) (ok 0 ∷ refusal 7 ∷ [])
    ∷ []

-- the codes, where several apply: the lowest one ends the call; and the updates of another bib, which do not count
abbrev pub codes : List Edge
codes =
    edge
    (Update 16 9 0 1000 0 ∷ Update 0 9 0 1000 0 ∷ Update 0 0 0 7 0 ∷ Update 0 0 5 7 0 ∷ Update 0 0 strike 999 1 ∷ [])
    (refusal 2 ∷ refusal 3 ∷ refusal 5 ∷ refusal 5 ∷ ok 0 ∷ [])
    ∷ edge
    (Fork 0 ∷ join 0 1 ∷ Update 0 1 0 1000 0 ∷ Query 0 1 1000 ∷ list 1 0 ∷ join 0 1 ∷ list 0 0 ∷ [])
    (ok 1 ∷ ok 0 ∷ refusal 4 ∷ refusal 4 ∷ refusal 4 ∷ refusal 4 ∷ ok 0 ∷ [])
    ∷ edge
    (Fork 0 ∷ Update 0 0 time 7 5 ∷ Update 1 1 time 7 6 ∷ Update 0 1 time 7 6 ∷ Update 2 1 time 7 6 ∷ list 1 0 ∷ Fork 1 ∷ join 0 1
    ∷ yield 0 ∷ yield 1 ∷ Update 0 1 time 7 6 ∷ list 1 11 ∷ list 1 12 ∷ join 0 1 ∷ [])
    (ok 1 ∷ ok 0 ∷ ok 1 ∷ refusal 6 ∷ refusal 7 ∷ refusal 7 ∷ refusal 7 ∷ refusal 7 ∷ ok 0 ∷ ok 0 ∷ refusal 8 ∷ refusal 12 ∷ ok 1 ∷ ok 1 ∷ [])
    -- the calls other than update: 2, 3 and 4; a joinee that was never sent before a joiner that is handed in, and 4 before 11
    ∷ edge
    (Query 16 1 1000 ∷ Query 0 1 1000 ∷ yield 16 ∷ yield 15 ∷ Fork 1 ∷ join 1 0 ∷ join 0 1 ∷ list 1 0 ∷ Fork 0 ∷ join 0 1 ∷ Fork 1 ∷ join 1 2
    ∷ join 1 0 ∷ [])
    (refusal 2 ∷ refusal 3 ∷ refusal 2 ∷ ok 0 ∷ refusal 3 ∷ refusal 3 ∷ refusal 3 ∷ refusal 3 ∷ ok 1 ∷ ok 0 ∷ refusal 4 ∷ refusal 3 ∷ refusal 4 ∷ [])
    -- join: 7 of either box; query: 6, 7 and 8, each before the next
    ∷ edge
    (Fork 0 ∷ Query 0 0 7 ∷ join 0 1 ∷ join 1 0 ∷ Query 1 0 7 ∷ Query 1 1 7 ∷ Query 0 1 1000 ∷ Query 0 1 7 ∷ yield 0 ∷ Query 0 1 7 ∷ yield 1 ∷ Query 0 1 7 ∷ [])
    (ok 1 ∷ neither ∷ refusal 7 ∷ refusal 7 ∷ refusal 7 ∷ neither ∷ refusal 5 ∷ refusal 6 ∷ ok 0 ∷ refusal 7 ∷ ok 0 ∷ refusal 8 ∷ [])
    -- fill (02, U1): 3 and 4; what was inherited does not count, what was joined in does, through others too, and a busy box is told
    ∷ edge
    (Update 0 0 time 7 5 ∷ yield 0 ∷ Fork 0 ∷ Fork 1 ∷ Update 1 1 time 7 6 ∷ Update 2 2 time 7 7 ∷ fill 0 ∷ fill 1 ∷ fill 2 ∷ fill 3
    ∷ yield 1 ∷ yield 2 ∷ join 1 2 ∷ fill 1 ∷ fill 2 ∷ join 0 1 ∷ fill 0 ∷ fill 1 ∷ [])
    (ok 0 ∷ ok 0 ∷ ok 1 ∷ ok 2 ∷ ok 1 ∷ ok 2 ∷ filled 1 3 ∷ filled 1 3 ∷ filled 1 3 ∷ refusal 3
    ∷ ok 0 ∷ ok 0 ∷ ok 1 ∷ filled 2 3 ∷ refusal 4 ∷ ok 2 ∷ filled 3 3 ∷ refusal 4 ∷ [])
    -- bundle (02, U4): an open transaction is continued and closed; the value is the first entry's number
    ∷ edge
    (Update 0 0 time 8 9 ∷ sends 0 0 (small time 7 50 ++ small earliest 7 40 ++ small strike 8 1) ∷ Fork 0 ∷ Query 1 0 7 ∷ Query 1 0 8 ∷ fill 0 ∷ sends 0 1 (small time 7 1) ∷ [])
    (ok 0 ∷ ok 1 ∷ ok 1 ∷ timed 40 ∷ struck ∷ filled 4 4 ∷ ok 4 ∷ [])
    -- 14 before 2; then all checks of the first entry, 5 of it before 7, then of the next; the earliest refusal is given and nothing is taken
    ∷ edge
    (sends 16 9 [] ∷ sends 16 9 (1 ∷ small time 7 5) ∷ sends 16 9 (small time 7 5) ∷ sends 0 9 unknown_bib ∷ sends 0 0 (small time 7 5 ++ small 5 7 5 ++ small time 7 5)
    ∷ sends 0 0 (small time 7 5 ++ unknown_bib) ∷ fill 0 ∷ Query 1 0 7 ∷ sends 0 0 (unknown_bib ++ small time 7 5) ∷ sends 0 0 (small time 7 5 ++ unknown_bib) ∷ sends 1 0 (small time 7 5) ∷ sends 0 0 (small time 7 6) ∷ [])
    (refusal 14 ∷ refusal 14 ∷ refusal 2 ∷ refusal 3 ∷ refusal 5
    ∷ refusal 5 ∷ filled 0 0 ∷ neither ∷ refusal 5 ∷ refusal 7 ∷ ok 0 ∷ ok 1 ∷ [])
    -- the same as a lent list of entries: of 14 only the count can apply
    ∷ edge
    (lends 16 9 ([]) ∷ lends 16 0 ((lent time 7 5 ∷ [])) ∷ lends 0 0 ((lent time 7 5 ∷ lent time 1000 5 ∷ [])) ∷ fill 0 ∷ Update 0 0 time 8 9
    ∷ lends 0 0 ((lent time 7 50 ∷ lent earliest 7 40 ∷ lent strike 8 1 ∷ [])) ∷ Query 1 0 7 ∷ Query 1 0 8 ∷ fill 0 ∷ [])
    (refusal 14 ∷ refusal 2 ∷ refusal 5 ∷ filled 0 0 ∷ ok 0
    ∷ ok 1 ∷ timed 40 ∷ struck ∷ filled 4 4 ∷ [])
    ∷ edge (Update 0 0 time 7 5 ∷ Update 0 0 time 8 6 ∷ Query 0 0 7 ∷ Query 0 0 8 ∷ Query 0 0 9 ∷ []) (ok 0 ∷ ok 1 ∷ timed 5 ∷ timed 6 ∷ neither ∷ [])
    -- preview (02, U6) on the day of E1: 7 of either box; then, before the join, what the query after it gives, with the join's gain;
    -- of another bib neither, with the same gain; nothing is moved by it
    ∷ edge
    (Update 0 0 time 7 61000 ∷ yield 0 ∷ Fork 0 ∷ Update 1 1 penalty 7 5000 ∷ preview 0 1 7 ∷ yield 1 ∷ Update 0 0 time 7 60000 ∷ preview 0 1 7
    ∷ yield 0 ∷ preview 0 1 7 ∷ preview 0 1 8 ∷ Query 0 0 7 ∷ yield 0 ∷ preview 0 1 7 ∷ join 0 1 ∷ Query 1 0 7 ∷ [])
    (ok 0 ∷ ok 0 ∷ ok 1 ∷ ok 1 ∷ refusal 7 ∷ ok 0 ∷ ok 2 ∷ refusal 7
    ∷ ok 0 ∷ at 65000 1 ∷ at 0 1 ∷ timed 60000 ∷ ok 0 ∷ at 65000 1 ∷ ok 1 ∷ timed 65000 ∷ [])
    -- its refusals are those of the join, in the join's order, and 5 comes last
    ∷ edge
    (Fork 0 ∷ preview 0 2 1000 ∷ preview 2 0 7 ∷ preview 1 0 1000 ∷ preview 0 0 7 ∷ preview 0 1 1000 ∷ preview 0 1 999 ∷ Query 3 0 7 ∷ preview 0 0 1000 ∷ yield 3
    ∷ join 0 1 ∷ preview 0 1 1000 ∷ preview 1 0 7 ∷ preview 1 2 1000 ∷ [])
    (ok 1 ∷ refusal 3 ∷ refusal 3 ∷ refusal 11 ∷ refusal 11 ∷ refusal 5 ∷ neither ∷ neither ∷ refusal 7 ∷ ok 0
    ∷ ok 0 ∷ refusal 4 ∷ refusal 4 ∷ refusal 3 ∷ [])
    -- it finds a bib struck; what the joinee inherited is not applied again, and what was joined into it is
    ∷ edge
    (Update 0 0 time 7 100 ∷ Update 0 0 penalty 7 10 ∷ yield 0 ∷ Fork 0 ∷ Fork 1 ∷ Update 0 0 penalty 7 5 ∷ yield 0 ∷ Update 1 1 penalty 7 1 ∷ yield 1
    ∷ Update 2 2 strike 8 0 ∷ yield 2 ∷ preview 0 1 7 ∷ preview 0 1 8 ∷ preview 1 2 8 ∷ join 1 2 ∷ preview 0 1 7 ∷ preview 0 1 8 ∷ [])
    (ok 0 ∷ ok 1 ∷ ok 0 ∷ ok 1 ∷ ok 2 ∷ ok 2 ∷ ok 0 ∷ ok 3 ∷ ok 0
    ∷ ok 4 ∷ ok 0 ∷ at 116 1 ∷ at 0 1 ∷ off 1 ∷ ok 1 ∷ at 116 2 ∷ off 2 ∷ [])
    ∷ []

-- forks of box 0 and what they give: the numbers from one on
abbrev forks : ℕ → List (Call ℕ)
forks n = replicate n (Fork 0)

abbrev up_from : ℕ → ℕ → List Said
up_from first zero = []
up_from first (suc n) = ok first ∷ up_from (suc first) n

-- 02, U7: numbers used again
abbrev pub reused : List Edge
reused =
    -- 64 boxes are out: 10, of any box, after 3 and 7, until one is handed in
    edge
    (forks 63 ++ (Fork 0 ∷ Fork 63 ∷ Fork 64 ∷ Query 0 0 7 ∷ Fork 0 ∷ yield 0 ∷ join 0 40 ∷ Fork 0 ∷ Fork 0 ∷ []))
    (up_from 1 63 ++ (refusal 10 ∷ refusal 10 ∷ refusal 3 ∷ neither ∷ refusal 7 ∷ ok 0 ∷ ok 0 ∷ ok 40 ∷ refusal 10 ∷ []))
    -- "a never-used number while there is one", although others were handed in
    ∷ edge
    (Fork 0 ∷ Fork 0 ∷ join 0 1 ∷ Fork 0 ∷ join 0 2 ∷ Fork 0 ∷ Fork 1 ∷ Fork 2 ∷ Fork 5 ∷ [])
    (ok 1 ∷ ok 2 ∷ ok 0 ∷ ok 3 ∷ ok 0 ∷ ok 4 ∷ refusal 4 ∷ refusal 4 ∷ refusal 3 ∷ [])
    -- the last of them, and then the one that waits
    ∷ edge (forks 62 ++ (join 0 9 ∷ Fork 0 ∷ Fork 0 ∷ Fork 0 ∷ [])) (up_from 1 62 ++ (ok 0 ∷ ok 63 ∷ ok 9 ∷ refusal 10 ∷ []))
    -- "else the number handed in longest ago": in the order of the hand-ins and not of the numbers, also when one is handed in again
    ∷ edge
    (forks 63 ++ (join 0 5 ∷ join 0 3 ∷ join 0 8 ∷ Fork 0 ∷ join 0 5 ∷ Fork 0 ∷ Fork 3 ∷ Fork 0 ∷ Fork 0 ∷ []))
    (up_from 1 63 ++ (ok 0 ∷ ok 0 ∷ ok 0 ∷ ok 5 ∷ ok 0 ∷ ok 3 ∷ ok 8 ∷ ok 5 ∷ refusal 10 ∷ []))
    -- a number handed in: 4. Used again, it means the new box, which shows what that one sees and not what the earlier bearer did; a client whose last
    -- event is there may go on only where that event is seen
    ∷ edge
    (forks 63 ++ (Update 1 5 time 7 50 ∷ yield 1 ∷ fill 5 ∷ join 0 5 ∷ Query 1 5 7 ∷ list 5 0 ∷ fill 5 ∷ Fork 5 ∷ join 0 5 ∷ join 5 4 ∷ preview 0 5 7
    ∷ Fork 63 ∷ Query 1 5 7 ∷ Query 2 5 7 ∷ yield 2 ∷ list 5 0 ∷ fill 5 ∷ Query 1 0 7 ∷ yield 1 ∷ join 0 5 ∷ join 0 63 ∷ join 0 5 ∷ [])
    )
    (up_from 1 63 ++ (ok 0 ∷ ok 0 ∷ filled 1 1 ∷ ok 1 ∷ refusal 4 ∷ refusal 4 ∷ refusal 4 ∷ refusal 4 ∷ refusal 4 ∷ refusal 4 ∷ refusal 4
    ∷ ok 5 ∷ refusal 8 ∷ neither ∷ ok 0 ∷ ok 0 ∷ filled 0 1 ∷ timed 50 ∷ ok 0 ∷ refusal 11 ∷ ok 0 ∷ ok 0 ∷ []))
    -- the same with a new bearer that sees the event: the client goes on there, and what it enters is the new box's own
    ∷ edge
    (forks 63 ++ (Update 1 5 time 7 50 ∷ yield 1 ∷ join 0 5 ∷ Fork 0 ∷ Query 1 5 7 ∷ Update 1 5 penalty 7 5 ∷ Query 1 5 7 ∷ yield 1 ∷ fill 5 ∷ list 5 24 ∷ Query 1 0 7 ∷ join 0 5 ∷ Query 1 0 7 ∷ []))
    (up_from 1 63 ++ (ok 0 ∷ ok 0 ∷ ok 1 ∷ ok 5 ∷ timed 50 ∷ ok 1 ∷ timed 55 ∷ ok 0 ∷ filled 1 2 ∷ ok 2 ∷ refusal 8 ∷ ok 1 ∷ timed 55 ∷ []))
    -- 02, U8: a sync "on any day", of a box that another sent; no box is off the line
    ∷ edge (Fork 0 ∷ Fork 1 ∷ sync 2 ∷ sync 1 ∷ sync 2 ∷ []) (ok 1 ∷ ok 2 ∷ refusal 11 ∷ ok 3 ∷ ok 4 ∷ [])
    ∷ []

-- names: `PAST`, `PASU`, and some that are none: `PAS`, `PASTS`, `PaST`
abbrev pub past : Name
past = 80 ∷ 65 ∷ 83 ∷ 84 ∷ []

abbrev pasu : Name
pasu = 80 ∷ 65 ∷ 83 ∷ 85 ∷ []

abbrev short : Name
short = 80 ∷ 65 ∷ 83 ∷ []

abbrev long : Name
long = 80 ∷ 65 ∷ 83 ∷ 84 ∷ 83 ∷ []

abbrev lower : Name
lower = 80 ∷ 97 ∷ 83 ∷ 84 ∷ []

-- 02, U9: marked states
abbrev pub marks : List Edge
marks =
    -- "before the protest": the mark lists and fills, is forked and marked again, and is not written, queried or joined in either role: 16, before 5, 7
    -- and 11. What comes of it shows what the marked box showed, and box 0 never takes it over
    edge
    (Update 0 0 time 7 50 ∷ yield 0 ∷ Fork 0 ∷ Mark 0 past ∷ Update 0 0 penalty 7 5 ∷ yield 0 ∷ Update 0 2 time 1000 1 ∷ Query 1 2 1000 ∷ join 0 2 ∷ join 2 1 ∷ preview 0 2 1000 ∷ sync 2
    ∷ sends 0 2 (small time 7 1) ∷ list 2 12 ∷ fill 2 ∷ Fork 2 ∷ Mark 2 pasu ∷ Query 1 3 7 ∷ Update 1 3 penalty 7 1 ∷ yield 1 ∷ join 0 3 ∷ Query 2 0 7 ∷ [])
    (ok 0 ∷ ok 0 ∷ ok 1 ∷ ok 2 ∷ ok 1 ∷ ok 0 ∷ refusal 16 ∷ refusal 16 ∷ refusal 16 ∷ refusal 16 ∷ refusal 16 ∷ refusal 16
    ∷ refusal 16 ∷ ok 1 ∷ filled 0 2 ∷ ok 3 ∷ ok 4 ∷ timed 50 ∷ ok 2 ∷ ok 0 ∷ refusal 11 ∷ timed 55 ∷ [])
    -- 16 before 7, and 4 before it; 7 and 17 of a mark, 17 last; 18 of a drop, also for a name that is none. A dropped name is free again
    ∷ edge
    (Mark 0 short ∷ Mark 0 long ∷ Mark 0 lower ∷ Mark 0 [] ∷ Mark 1 short ∷ Mark 0 past ∷ Query 0 0 7 ∷ join 0 1 ∷ Mark 0 short ∷ yield 0 ∷ Mark 0 past ∷ Drop pasu ∷ Drop lower ∷ Drop past
    ∷ Drop past ∷ Query 0 1 7 ∷ list 1 0 ∷ Fork 1 ∷ Mark 1 past ∷ Mark 0 past ∷ Drop past ∷ Query 1 2 7 ∷ [])
    (refusal 17 ∷ refusal 17 ∷ refusal 17 ∷ refusal 17 ∷ refusal 3 ∷ ok 1 ∷ neither ∷ refusal 16 ∷ refusal 7 ∷ ok 0 ∷ refusal 17 ∷ refusal 18 ∷ refusal 18 ∷ ok 0
    ∷ refusal 18 ∷ refusal 4 ∷ refusal 4 ∷ refusal 4 ∷ refusal 4 ∷ ok 2 ∷ ok 0 ∷ refusal 4 ∷ [])
    -- "At most 64 boxes out, marked ones included": 10 before 17; drops and hand-ins wait in one order
    ∷ edge
    (forks 62 ++ (Mark 0 past ∷ Mark 0 short ∷ Fork 0 ∷ join 0 7 ∷ Drop past ∷ join 0 5 ∷ Fork 0 ∷ Mark 0 past ∷ Fork 0 ∷ Drop past ∷ Fork 0 ∷ []))
    (up_from 1 62 ++ (ok 63 ∷ refusal 10 ∷ refusal 10 ∷ ok 0 ∷ ok 0 ∷ ok 0 ∷ ok 7 ∷ ok 63 ∷ ok 5 ∷ ok 0 ∷ ok 63 ∷ []))
    ∷ []

-- 02, U8, on a single-main day
abbrev pub on_line : List Edge
on_line =
    -- 15 "for a fork of another box than 0 or a join into one", and for a preview of such a join: after 3 and 4, before 7 and 11. What was yielded on a
    -- box is there in the box that its sync sends; "join's refusals for joiner 0"
    edge
    (Fork 0 ∷ Fork 1 ∷ Fork 5 ∷ Update 0 1 time 7 50 ∷ Fork 1 ∷ join 1 0 ∷ preview 1 0 7 ∷ join 0 1 ∷ sync 1 ∷ yield 0 ∷ sync 1
    ∷ join 1 2 ∷ Fork 1 ∷ Query 1 2 7 ∷ sync 2 ∷ yield 1 ∷ sync 0 ∷ join 0 0 ∷ sync 9 ∷ sync 1 ∷ sync 2 ∷ [])
    (ok 1 ∷ refusal 15 ∷ refusal 3 ∷ ok 0 ∷ refusal 15 ∷ refusal 15 ∷ refusal 15 ∷ refusal 7 ∷ refusal 7 ∷ ok 0 ∷ ok 2
    ∷ refusal 4 ∷ refusal 4 ∷ timed 50 ∷ refusal 7 ∷ ok 0 ∷ refusal 11 ∷ refusal 11 ∷ refusal 3 ∷ refusal 4 ∷ ok 3 ∷ [])
    -- 02, U9: "Single-main days have no marks: mark gives 15", after 3 and 4 and before 7 and 17, and so every drop gives 18
    ∷ edge
    (Mark 1 past ∷ Mark 0 past ∷ Fork 0 ∷ Query 0 1 7 ∷ Mark 1 short ∷ Drop past ∷ yield 0 ∷ sync 1 ∷ Mark 1 past ∷ [])
    (refusal 3 ∷ refusal 15 ∷ ok 1 ∷ neither ∷ refusal 15 ∷ refusal 18 ∷ ok 0 ∷ ok 2 ∷ refusal 4 ∷ [])
    -- "sync never meets 10": with 64 boxes out it answers the number that it was given
    ∷ edge (forks 63 ++ (Fork 0 ∷ sync 5 ∷ Fork 0 ∷ [])) (up_from 1 63 ++ (refusal 10 ∷ ok 5 ∷ refusal 10 ∷ []))
    ∷ []

-- 02, U13: orders from other makers
abbrev pub orders : List Edge
orders =
    -- no update was taken: the empty list is right. Then box 0 lists 0, 2 and box 1 lists 0, 1, both with a transaction open: 1 and 2 may stand either way
    edge
    (verify [] ∷ Update 0 0 time 7 61000 ∷ verify [] ∷ yield 0 ∷ Fork 0 ∷ Update 1 1 penalty 7 5000 ∷ Update 0 0 time 7 60000
    ∷ verify (0 ∷ 1 ∷ 2 ∷ []) ∷ verify (0 ∷ 2 ∷ 1 ∷ []) ∷ verify (1 ∷ 0 ∷ 2 ∷ []) ∷ verify (2 ∷ 0 ∷ 1 ∷ [])
    -- a number twice and another missing; one missing; one too high, also in place of another
    ∷ verify (0 ∷ 1 ∷ 1 ∷ []) ∷ verify (0 ∷ 1 ∷ []) ∷ verify (0 ∷ 1 ∷ 2 ∷ 3 ∷ []) ∷ verify (0 ∷ 1 ∷ 3 ∷ [])
    -- after the join box 0 lists 0, 2, 1, and box 1 is handed in
    ∷ yield 0 ∷ yield 1 ∷ join 0 1 ∷ verify (0 ∷ 1 ∷ 2 ∷ []) ∷ verify (0 ∷ 2 ∷ 1 ∷ []) ∷ [])
    (ok 1 ∷ ok 0 ∷ ok 0 ∷ ok 0 ∷ ok 1 ∷ ok 1 ∷ ok 2
    ∷ ok 1 ∷ ok 1 ∷ ok 0 ∷ ok 0
    ∷ ok 0 ∷ ok 0 ∷ ok 0 ∷ ok 0
    ∷ ok 0 ∷ ok 0 ∷ ok 1 ∷ ok 0 ∷ ok 1 ∷ [])
    -- 21: too short, an offset under 8, a length that does not fit; a gap is not looked at
    ∷ edge
    (Looks (Verify []) ∷ Looks (Verify (replicate 8 0)) ∷ Looks (Verify (file_of [] ++ (0 ∷ []))) ∷ Looks (Verify (0 ∷ 0 ∷ 0 ∷ 0 ∷ 9 ∷ 0 ∷ 0 ∷ 0 ∷ 7 ∷ [])) ∷ [])
    (refusal 21 ∷ refusal 21 ∷ refusal 21 ∷ ok 1 ∷ [])
    -- a marked box is out, and lists 0
    ∷ edge
    (Update 0 0 time 7 50 ∷ yield 0 ∷ Mark 0 past ∷ Update 0 0 penalty 7 5 ∷ verify (0 ∷ 1 ∷ []) ∷ verify (1 ∷ 0 ∷ []) ∷ Drop past ∷ verify (0 ∷ 1 ∷ []) ∷ [])
    (ok 0 ∷ ok 0 ∷ ok 1 ∷ ok 1 ∷ ok 1 ∷ ok 0 ∷ ok 0 ∷ ok 1 ∷ [])
    ∷ []

-- 02, U10: 19 "length other than 5,000", after 14 and before 2, 3, 4, 7 and 11; a call that is refused so changes nothing
abbrev pub boards : List Edge
boards =
    edge
    (Yield 16 4999 ∷ yield 16 ∷ Yield 0 0 ∷ Join 0 9 5001 ∷ join 0 9 ∷ Sync 9 0 ∷ sync 9 ∷ Join 0 0 4999 ∷ join 0 0 ∷ Bundle 16 9 (Records []) 0 ∷ Bundle 16 9 (Records (small time 7 5)) 4999
    ∷ Bundle 16 9 (Entries (lent time 7 5 ∷ [])) 5001 ∷ sends 16 9 (small time 7 5) ∷ [])
    (refusal 19 ∷ refusal 2 ∷ refusal 19 ∷ refusal 19 ∷ refusal 3 ∷ refusal 19 ∷ refusal 3 ∷ refusal 19 ∷ refusal 11 ∷ refusal 14 ∷ refusal 19
    ∷ refusal 19 ∷ refusal 2 ∷ [])
    ∷ edge
    (Fork 0 ∷ Update 0 1 time 7 50 ∷ Yield 0 5001 ∷ Join 0 1 5001 ∷ join 0 1 ∷ yield 0 ∷ Sync 1 4999 ∷ Join 0 1 0 ∷ fill 1 ∷ sync 1 ∷ Join 0 1 0 ∷ join 0 1 ∷ [])
    (ok 1 ∷ ok 0 ∷ refusal 19 ∷ refusal 19 ∷ refusal 7 ∷ ok 0 ∷ refusal 19 ∷ refusal 19 ∷ filled 1 1 ∷ ok 2 ∷ refusal 19 ∷ refusal 4 ∷ [])
    ∷ []

-- bundles on box 0, some of 64 updates and one of a few more
abbrev batches : ℕ → ℕ → List (Call ℕ)
batches n few = replicate n (lends 0 0 (replicate 64 (lent time 7 5))) ++ (lends 0 0 (replicate few (lent time 7 5)) ∷ [])

-- 02, U14: the rental bill
abbrev pub bills : List Edge
bills =
    -- "Eight boxes and 1,201 updates cost a member 2,878 cents; three boxes and 250 updates cost 2,000."
    edge
    (forks 7 ++ (batches 18 49 ++ (bill true ∷ bill false ∷ [])))
    (up_from 1 7 ++ (ok 0 ∷ ok 64 ∷ ok 128 ∷ ok 192 ∷ ok 256 ∷ ok 320 ∷ ok 384 ∷ ok 448 ∷ ok 512 ∷ ok 576 ∷ ok 640 ∷ ok 704 ∷ ok 768 ∷ ok 832 ∷ ok 896 ∷ ok 960
    ∷ ok 1024 ∷ ok 1088 ∷ ok 1152 ∷ ok 2878 ∷ ok 3385 ∷ []))
    ∷ edge (forks 2 ++ (batches 3 58 ++ (bill false ∷ bill true ∷ []))) (up_from 1 2 ++ (ok 0 ∷ ok 64 ∷ ok 128 ∷ ok 192 ∷ ok 2000 ∷ ok 2000 ∷ []))
    -- never below 2,000; of six boxes 2,100, with 100 updates one hundred more, with 101 two, and the discount comes before the least
    ∷ edge
    (bill false ∷ bill true ∷ forks 5 ++ (bill false ∷ batches 1 36 ++ (bill false ∷ Update 0 0 time 7 5 ∷ bill false ∷ bill true ∷ [])))
    (ok 2000 ∷ ok 2000 ∷ up_from 1 5 ++ (ok 2100 ∷ ok 0 ∷ ok 64 ∷ ok 2145 ∷ ok 100 ∷ ok 2190 ∷ ok 2000 ∷ []))
    -- of seven boxes 2,450, and a member's discount of 367.50 rounded down; a mark and a refused fork start no box, a fork of the mark and a sync do; a
    -- box handed in has been started
    ∷ edge
    (forks 6 ++ (bill false ∷ bill true ∷ Mark 0 past ∷ bill false ∷ Fork 9 ∷ bill false ∷ Fork 7 ∷ bill false ∷ sync 1 ∷ bill false ∷ sync 1 ∷ join 0 2 ∷ Drop past ∷ bill false ∷ bill true ∷ []))
    (up_from 1 6 ++ (ok 2450 ∷ ok 2083 ∷ ok 7 ∷ ok 2450 ∷ refusal 3 ∷ ok 2450 ∷ ok 8 ∷ ok 2800 ∷ ok 9 ∷ ok 3150 ∷ refusal 4 ∷ ok 0 ∷ ok 0 ∷ ok 3150 ∷ ok 2678 ∷ []))
    ∷ []

abbrev pub said : {S : Type 0} → List (Answer S) → List Said
said [] = []
said (a ∷ more) = answer_on (λ s. tt) a ∷ said more

abbrev pub expected : List Edge → List (List Said)
expected [] = []
expected (e ∷ es) = e.says ∷ expected es

-- on days of either choice
abbrev pub computed : Bool → List Edge → List (List Said)
computed single [] = []
computed single (e ∷ es) = said (answers single e.calls) ∷ computed single es
