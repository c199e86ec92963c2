-- `report::output::put_day` meets its contract: `steps n`, and the lines of a fresh table. Assumes nothing.
use Prim.Native.Nat.{ℕ, ◌+◌, ◌≤◌}
use mathlib.Core.Path.{◌≡◌, sym, ◌∙◌, ap, subst}
use mathlib.Core.List.{List, ◌++◌}
use native.Mathlib.Omega.{arith}
use lib.ListN.{length, length-append}
use borrow.Author.Rules.{rules}
use Rattle.text.specs.Placed.{ascii}
use Rattle.text.specs.Decimal.{ended}
use Rattle.text.proofs.Digits.{ended-length}
use Rattle.text.proofs.Places.{Put, both-put}
use Rattle.table.specs.Out.{Out}
use Rattle.report.specs.Printed.{day, fresh_table, line_feed, lines, room}
use Rattle.report.proofs.Fresh.{fresh-table}
use Rattle.report.proofs.output.put_day.Goals as goal

-- the number of steps has at most 4 digits
short : (n : ℕ) → n ≤ 5460 → length (ended n line_feed) ≤ 5
short n h = ended-length n 4 line_feed (omega arith) (omega arith) (omega arith)

abbrev head : ℕ → List ℕ
head n = ascii "steps " ++ ended n line_feed

head_fits : (out : List ℕ) (n : ℕ) → n ≤ 5460 → room ≤ length out → 0 + length (head n) ≤ length out
head_fits out n h r = omega (arith, length-append (ascii "steps ") (ended n line_feed), short n h)

pub number-b-requires : goal.number-b-requires
number-b-requires c = rw c.from.ensures (omega (arith, c.put-a.ensures.0, c.put-a.auto.out, short c.args.n c.requires.0, c.requires.1))

pub lines-requires : goal.lines-requires
lines-requires c =
    let b = c.number-b.ensures.0 in
    let e = rw c.from.ensures at b in
    (c.requires.0, omega (arith, e, c.put-a.ensures.0, c.number-b.auto.out, c.put-a.auto.out, short c.args.n c.requires.0), search rules)

pub returns : goal.returns
unfolding day
returns c =
    let f = c.args.f.now in
    let n = c.args.n in
    let out = c.args.out.now in
    let body = lines fresh_table f n in
    let end = c.lines.new.out in
    let fresh : c.fresh.new.t ≡ fresh_table = ap (λ (o : Out). o.lent) c.fresh.ensures.0 ∙ fresh-table c.large_buffer-t.result _ (sym c.large_buffer-t.ensures) (search rules) in
    let number = c.number-b.ensures in
    let told = rw c.from.ensures at number in
    let two = both-put out (ascii "steps ") (ended n line_feed) 0 (head_fits out n c.requires.0 c.requires.1) c.put-a.new.out c.put-a.result c.put-a.ensures
    c.number-b.result c.number-b.new.out told in
    let put : Put c.number-b.new.out c.number-b.result body c.lines.result end =
    subst (λ t. Put c.number-b.new.out c.number-b.result (lines t f n) c.lines.result end) fresh (c.lines.ensures.1, c.lines.ensures.2) in
    let fits : 0 + length (head n ++ body) ≤ length out =
    omega (arith, length-append (head n) body, two.0, put.0, c.lines.ensures.0, length-append (ascii "steps ") (ended n line_feed), short n c.requires.0, c.requires.0, c.requires.1) in
    let all = both-put out (head n) body 0 fits c.number-b.new.out c.number-b.result two c.lines.result end put in
    (omega (arith, all.0), all.1)
