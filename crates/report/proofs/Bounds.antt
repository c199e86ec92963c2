-- How long the parts of the printed day are at most.
use Prim.Native.Nat.{ℕ, ◌≤◌, ◌<◌}
use mathlib.Core.List.{◌++◌}
use native.Mathlib.Omega.{arith}
use lib.ListN.{length, length-append}
use Rattle.text.specs.Decimal.{ended}
use Rattle.text.proofs.Digits.{ended-length}
use Rattle.updates.specs.declared.standing.State.{State}
use Rattle.updates.specs.declared.standing.State.TheVariants.{Neither, Timed, Struck}
use Rattle.report.specs.Printed.{blank, line_feed, line, value_text}

pub value_length : (state : State) (value : ℕ) → value < 4294967296 → length (value_text state value) ≤ 11
unfolding value_text
value_length Struck value h = omega arith
value_length Neither value h = ended-length value 10 line_feed (omega arith) (omega arith) (omega arith)
value_length Timed value h = ended-length value 10 line_feed (omega arith) (omega arith) (omega arith)

-- 4 digits of an index, 3 of a code's byte, 10 of a value's 32 bits, and 3 marks
pub line-length : (i code : ℕ) (state : State) (value : ℕ) → i < 10000 → code < 256 → value < 4294967296 → length (line i code state value) ≤ 20
unfolding line
line-length i code state value a b c =
    let x = ended-length i 4 blank (omega arith) a (omega arith) in
    let y = ended-length code 3 blank (omega arith) (omega arith) (omega arith) in
    let z = value_length state value c in
    rw (length-append (ended i blank ++ ended code blank) (value_text state value), length-append (ended i blank) (ended code blank)) (omega arith)
