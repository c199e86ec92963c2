-- `report::output::report` meets its contract: nothing, `bad file` or the day. Assumes nothing.
use Prim.Native.Nat.{ℕ}
use mathlib.Core.Path.{sym, ◌∙◌, ap}
use native.Mathlib.Omega.{arith}
use lib.ListN.{length}
use Rattle.text.specs.Placed.{placed}
use Rattle.text.proofs.Places.{placed-none}
use Rattle.dayfile.proofs.Good.{count-bound}
use Rattle.report.proofs.Shown.{shown-none, shown-bad, shown-good}
use Rattle.report.proofs.output.report.Goals as goal

pub returns-then-out-lt-BYTES : goal.returns-then-out-lt-BYTES
returns-then-out-lt-BYTES c =
    let s = c.args in
    let e = sym (shown-none s.f.now s.out.now (omega (arith, c.if-out-lt-BYTES.true))) in
    (ap (length {A = ℕ}) e, sym (placed-none s.out.now 0) ∙ ap (placed s.out.now 0) e)

pub returns-in_default : goal.returns-in_default
returns-in_default c =
    let s = c.args in
    let e = sym (shown-bad s.f.now s.out.now c.if-out-lt-BYTES.false (sym c.check_file.ensures ∙ c.in_default.is)) in
    (c.put.ensures.0 ∙ ap (length {A = ℕ}) e, c.put.ensures.1 ∙ ap (placed s.out.now 0) e)

pub put_day-requires : goal.put_day-requires
put_day-requires c =
    let s = c.args in
    (count-bound s.f.now c.in-Some.n (sym c.check_file.ensures ∙ c.in-Some.is), c.if-out-lt-BYTES.false)

pub returns : goal.returns
returns c =
    let s = c.args in
    let e = sym (shown-good s.f.now s.out.now c.if-out-lt-BYTES.false c.in-Some.n (sym c.check_file.ensures ∙ c.in-Some.is)) in
    (c.put_day.ensures.0 ∙ ap (length {A = ℕ}) e, c.put_day.ensures.1 ∙ ap (placed s.out.now 0) e)
