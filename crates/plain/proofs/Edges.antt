-- Every row of the tables of edges, codes and reused numbers holds, by computing the plain day; so do a full log, all boxes
-- sent, the lines of a list, and fills.
use Prim.Native.Nat.{ℕ}
use mathlib.Core.Bool.{false, true}
use mathlib.Core.Path.{◌≡◌, refl}
use mathlib.Core.List.{List, [], ◌∷◌, ◌++◌}
use lib.ListN.{replicate}
use Rattle.lists.specs.Sums.{any_below}
use Rattle.lists.specs.Names.{four_letters}
use Rattle.updates.specs.declared.kind.Kind.TheVariants.{Time, Penalty, Strike}
use Rattle.updates.specs.Kinds.{kind_check}
use Rattle.updates.specs.Effect.{earliest, penalized, effect, state_of, value_in}
use Rattle.updates.specs.Applied.{applied}
use Rattle.buffers.specs.Numbers.{number}
use Rattle.bundles.specs.Records.{entries_in, entries_from, is_wrong}
use Rattle.bills.specs.Bill.{bill}
use Rattle.orderfile.specs.File.{is_bad_list, numbers_of, numbers_in, file_of}
use Rattle.orderfile.specs.Test.{no_other, none_twice, is_complete, place_from, rises, in_order, fits}
use Rattle.diagram.specs.Sizes.{revision_limit, client_limit, update_limit}
use Rattle.diagram.specs.Leads.{leads}
use Rattle.diagram.specs.Effects.{tabulate}
use Rattle.diagram.specs.Day.{next_number, is_given, is_named, mark_named, meant}
use Rattle.diagram.specs.Checks.{unknown_client, marked, bad_name, open_elsewhere, busy_by_other, busy, stale, log_full, none_left, not_joinable}
use Rattle.diagram.specs.Steps.{after}
use Rattle.diagram.specs.Examples.{with_counts}
use Rattle.desk.specs.Calls.{Call, Update, Query, Fork, level}
use Rattle.entries.specs.declared.entry.Entry.{Entry}
use Rattle.plain.specs.Record.{Line, PlainDay, fresh_day}
use Rattle.plain.specs.Answers.{called, sent, day_from, day_after, answers_from, answers}
use Rattle.plain.specs.Edges.{edges, codes, reused, marks, on_line, orders, boards, bills, said, expected, computed, ok, refusal, neither, filled, list, fill, yield, join, lent, sends, lends, small, unknown_bib}

pub edges_hold : computed false edges ≡ expected edges
unfolding called answers_from answers after leads tabulate is_given meant is_named mark_named next_number four_letters unknown_client marked bad_name open_elsewhere busy_by_other busy any_below stale log_full none_left not_joinable revision_limit client_limit update_limit kind_check effect earliest penalized state_of value_in applied sent entries_in entries_from is_wrong number
edges_hold = refl

pub codes_hold : computed false codes ≡ expected codes
unfolding called answers_from answers after leads tabulate is_given meant is_named mark_named next_number four_letters unknown_client marked bad_name open_elsewhere busy_by_other busy any_below stale log_full none_left not_joinable revision_limit client_limit update_limit kind_check effect earliest penalized state_of value_in applied sent entries_in entries_from is_wrong number
codes_hold = refl

pub reused_hold : computed false reused ≡ expected reused
unfolding called answers_from answers after leads tabulate is_given meant is_named mark_named next_number four_letters unknown_client marked bad_name open_elsewhere busy_by_other busy any_below stale log_full none_left not_joinable revision_limit client_limit update_limit kind_check effect earliest penalized state_of value_in applied sent entries_in entries_from is_wrong number
reused_hold = refl

pub marks_hold : computed false marks ≡ expected marks
unfolding called answers_from answers after leads tabulate is_given meant is_named mark_named next_number four_letters unknown_client marked bad_name open_elsewhere busy_by_other busy any_below stale log_full none_left not_joinable revision_limit client_limit update_limit kind_check effect earliest penalized state_of value_in applied sent entries_in entries_from is_wrong number
marks_hold = refl

pub on_line_hold : computed true on_line ≡ expected on_line
unfolding called answers_from answers after leads tabulate is_given meant is_named mark_named next_number four_letters unknown_client marked bad_name open_elsewhere busy_by_other busy any_below stale log_full none_left not_joinable revision_limit client_limit update_limit kind_check effect earliest penalized state_of value_in applied sent entries_in entries_from is_wrong number
on_line_hold = refl

pub orders_hold : computed false orders ≡ expected orders
unfolding called answers_from answers after leads tabulate is_given meant is_named mark_named next_number four_letters unknown_client marked bad_name open_elsewhere busy_by_other busy any_below stale log_full none_left not_joinable revision_limit client_limit update_limit kind_check effect earliest penalized state_of value_in applied sent entries_in entries_from is_wrong number
    fits is_complete no_other none_twice in_order rises place_from is_bad_list numbers_in numbers_of file_of
orders_hold = refl

pub boards_hold : computed false boards ≡ expected boards
unfolding called answers_from answers after leads tabulate is_given meant is_named mark_named next_number four_letters unknown_client marked bad_name open_elsewhere busy_by_other busy any_below stale log_full none_left not_joinable revision_limit client_limit update_limit kind_check effect earliest penalized state_of value_in applied sent entries_in entries_from is_wrong number
boards_hold = refl

pub bills_hold : computed false bills ≡ expected bills
unfolding called answers_from answers after leads tabulate is_given meant is_named mark_named next_number four_letters unknown_client marked bad_name open_elsewhere busy_by_other busy any_below stale log_full none_left not_joinable revision_limit client_limit update_limit kind_check effect earliest penalized state_of value_in applied sent entries_in entries_from is_wrong number bill
bills_hold = refl

-- the fresh day, but with this many updates taken and boxes sent
abbrev counted : ℕ → ℕ → PlainDay
counted updates revisions = record { single = false; day = with_counts updates revisions; entries = (fresh_day false).entries; started = revisions }

-- 9 once 4,096 updates are taken, after 8; and not before
log-full : said (answers_from (counted 4095 1) (Fork 0 ∷ Update 0 0 1 7 5 ∷ yield 0 ∷ Update 0 1 1 7 5 ∷ Update 0 0 1 7 5 ∷ Query 0 0 8 ∷ []))
    ≡ ok 1 ∷ ok 4095 ∷ ok 0 ∷ refusal 8 ∷ refusal 9 ∷ neither ∷ []
unfolding called answers_from answers after leads tabulate is_given meant is_named mark_named next_number four_letters unknown_client marked bad_name open_elsewhere busy_by_other busy any_below stale log_full none_left not_joinable revision_limit client_limit update_limit kind_check effect earliest penalized state_of value_in applied sent entries_in entries_from is_wrong number
log-full = refl

-- 10 once 64 boxes are started, after 3 and 7; and not before
none_left_lem : said (answers_from (counted 0 63) (Fork 0 ∷ Fork 64 ∷ Query 0 0 7 ∷ Fork 0 ∷ yield 0 ∷ Fork 0 ∷ []))
    ≡ ok 63 ∷ refusal 3 ∷ neither ∷ refusal 7 ∷ ok 0 ∷ refusal 10 ∷ []
unfolding called answers_from answers after leads tabulate is_given meant is_named mark_named next_number four_letters unknown_client marked bad_name open_elsewhere busy_by_other busy any_below stale log_full none_left not_joinable revision_limit client_limit update_limit kind_check effect earliest penalized state_of value_in applied sent entries_in entries_from is_wrong number
none_left_lem = refl

-- the joinee's update 1 is listed behind the joiner's update 2, each with its number and as it was entered
abbrev apart : List (Call ℕ)
apart = Update 2 0 1 7 61000 ∷ yield 2 ∷ Fork 0 ∷ Update 1 1 3 999 5 ∷ yield 1 ∷ Update 3 0 4 8 6 ∷ yield 3 ∷ []

abbrev joining : List (Call ℕ)
joining = apart ++ (join 0 1 ∷ [])

abbrev entered : Entry → ℕ → Line
entered e n = record { entry = e; number = n }

lines-listed : (called (day_after false joining) (list 0 36)).answer.sheet
    ≡ entered (record { kind = Time; client = 2; bib = 7; v = 61000 }) 0
    ∷ entered (record { kind = Strike; client = 3; bib = 8; v = 6 }) 2
    ∷ entered (record { kind = Penalty; client = 1; bib = 999; v = 5 }) 1
    ∷ []
unfolding called answers_from answers after leads tabulate is_given meant is_named mark_named next_number four_letters unknown_client marked bad_name open_elsewhere busy_by_other busy any_below stale log_full none_left not_joinable revision_limit client_limit update_limit kind_check effect earliest penalized state_of value_in applied day_from day_after
lines-listed = refl

-- before that join: each box's own updates, and those of the whole table
fills_told : ((called (day_after false apart) (fill 0)).answer ≡ level 2 3 [])
    × ((called (day_after false apart) (fill 1)).answer ≡ level 1 3 [])
unfolding called answers_from answers after leads tabulate is_given meant is_named mark_named next_number four_letters unknown_client marked bad_name open_elsewhere busy_by_other busy any_below stale log_full none_left not_joinable revision_limit client_limit update_limit kind_check effect earliest penalized state_of value_in applied day_from day_after
fills_told = (refl, refl)

-- a bundle on a log that has room for one more: 9 of its second entry, before 5 of its third, after 5 of the second itself
bundle_fills_log : said (answers_from (counted 4095 1) (sends 0 0 (small 1 7 5 ++ small 1 7 5 ++ unknown_bib) ∷ sends 0 0 (small 1 7 5 ++ unknown_bib) ∷ sends 0 0 (small 1 7 5) ∷ sends 0 0 (small 1 7 5) ∷ []))
    ≡ refusal 9 ∷ refusal 5 ∷ ok 4095 ∷ refusal 9 ∷ []
unfolding called answers_from answers after leads tabulate is_given meant is_named mark_named next_number four_letters unknown_client marked bad_name open_elsewhere busy_by_other busy any_below stale log_full none_left not_joinable revision_limit client_limit update_limit kind_check effect earliest penalized state_of value_in applied sent entries_in entries_from is_wrong number
bundle_fills_log = refl

-- 64 records are taken, 65 are 14, and so are bytes that are not a multiple of 12
most_records : said (answers_from (fresh_day false) (sends 0 0 (replicate 780 1) ∷ sends 0 0 (replicate 767 1) ∷ sends 0 0 (replicate 768 1) ∷ fill 0 ∷ []))
    ≡ refusal 14 ∷ refusal 14 ∷ ok 0 ∷ filled 64 64 ∷ []
unfolding called answers_from answers after leads tabulate is_given meant is_named mark_named next_number four_letters unknown_client marked bad_name open_elsewhere busy_by_other busy any_below stale log_full none_left not_joinable revision_limit client_limit update_limit kind_check effect earliest penalized state_of value_in applied sent entries_in entries_from is_wrong number
most_records = refl

-- and so are 65 entries of a lent list
most-entries : said (answers_from (fresh_day false) (lends 0 0 ((replicate 65 (lent 1 7 5))) ∷ lends 0 0 ((replicate 64 (lent 1 7 5))) ∷ fill 0 ∷ []))
    ≡ refusal 14 ∷ ok 0 ∷ filled 64 64 ∷ []
unfolding called answers_from answers after leads tabulate is_given meant is_named mark_named next_number four_letters unknown_client marked bad_name open_elsewhere busy_by_other busy any_below stale log_full none_left not_joinable revision_limit client_limit update_limit kind_check effect earliest penalized state_of value_in applied sent entries_in entries_from is_wrong number
most-entries = refl
