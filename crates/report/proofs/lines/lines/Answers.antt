-- `report::lines::lines` meets its contract: the lines of the first i records are in place, and the table is as they leave it. Assumes nothing.
use Prim.Native.Nat.{◌+◌, ◌*◌, ◌≤◌}
use mathlib.Core.Path.{◌≡◌, refl, sym, ◌∙◌, ap, subst}
use mathlib.Core.List.{◌++◌}
use native.Mathlib.Omega.{arith}
use lib.ListN.{length, length-append}
use Rattle.text.specs.Placed.{placed}
use Rattle.text.proofs.Places.{Put, placed-none, both-put}
use Rattle.report.proofs.Grown.{table_none, lines_none, table_more, lines_more}
use Rattle.dayfile.specs.Record.{step_at}
use Rattle.table.specs.Told.{code_told, reading_told, left_read}
use Rattle.report.specs.Run.{out_at, step_out}
use Rattle.report.specs.Printed.{line as line_of, lines as lines_of}
use Rattle.report.proofs.lines.lines.Goals as goal

pub loop-i-init : goal.loop-i-init
loop-i-init c =
    let s = c.args in
    let t = c.args.t.now in
    let f = c.args.f.now in
    let none = lines_none t f in
    (omega arith, refl, refl, sym (table_none t f), rw none (omega arith), rw none (sym (placed-none s.out.now s.at)), refl)

pub run-requires : goal.run-requires
run-requires c =
    c.loop-i.invariant.6 ∙ c.requires.2

pub answer_line-end-requires : goal.answer_line-end-requires
answer_line-end-requires c =
    let inv = c.loop-i.invariant in
    (omega (arith, c.requires.0), omega (arith, c.requires.1, inv.0, inv.2))

pub loop-i-preserved : goal.loop-i-preserved
loop-i-preserved c =
    let t = c.args.t.now in
    let f = c.args.f.now in
    let out = c.args.out.now in
    let at = c.args.at in
    let l = c.loop-i in
    let ran = c.run in
    let put = c.answer_line-end in
    let made : left_read ran.result ran.new.t ≡ out_at t f l.i =
    ran.ensures ∙ ap (step_out l.t) c.step_at.ensures ∙ ap (λ b. step_out b (step_at f l.i)) l.invariant.3 in
    let done = lines_of t f l.i in
    let a = ran.result in
    let line = line_of l.i (code_told a) (reading_told a).state (reading_told a).value in
    let grown = lines_more t f l.i ran.result ran.new.t made in
    let fits : at + length (done ++ line) ≤ length out = omega (arith, length-append done line, put.ensures.0, put.ensures.1, l.invariant.0, l.invariant.4, c.requires.1) in
    let both = both-put out done line at fits l.out l.end (l.invariant.4, l.invariant.5) put.result put.new.out (put.ensures.1, put.ensures.2) in
    let both' = subst (λ x. Put out at x put.result put.new.out) grown both in (
      omega (arith, put.ensures.0, l.invariant.0),
      omega (arith, ran.auto.t, l.invariant.1),
      omega (arith, put.auto.out, l.invariant.2),
      table_more t f l.i ran.result ran.new.t made,
      both'.0,
      both'.1,
      ran.auto.board ∙ l.invariant.6,
    )

pub returns : goal.returns
returns c =
    let s = c.args in
    let l = c.loop-i in
    let e : l.i ≡ s.n = omega arith in
    let text = lines_of s.t.now s.f.now in
    subst (λ n. (l.end ≤ s.at + 20 * n) × (l.end ≡ s.at + length (text n)) × (l.out ≡ placed s.out.now s.at (text n))) e (l.invariant.0, l.invariant.4, l.invariant.5)
