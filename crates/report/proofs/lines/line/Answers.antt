-- `report::lines::line` meets its contract: two numbers and the value, one behind the other. Assumes nothing.
use Prim.Native.Nat.{ℕ, ◌+◌, ◌<◌, ◌≤◌}
use mathlib.Core.List.{List, ◌++◌}
use mathlib.Core.Path.{sym}
use native.Mathlib.Omega.{arith}
use lib.ListN.{length}
use Rattle.text.specs.Decimal.{ended}
use Rattle.text.proofs.Places.{Put, first_fits, next_fits, both-put}
use Rattle.updates.specs.declared.standing.State.{State}
use Rattle.report.specs.Printed.{blank, line, value_text}
use Rattle.report.proofs.Bounds.{line-length}
use Rattle.report.proofs.lines.line.Goals as goal

-- the three texts: they fit, the first two are one, and so are all
module _ (out : List ℕ) (at index code : ℕ) (state : State) (value : ℕ) (few : index < 10000) (byte : code < 256) (word : value < 4294967296) (room : at + 20 ≤ length out) where
  abbrev first : List ℕ
  first = ended index blank

  abbrev second : List ℕ
  second = ended code blank

  abbrev third : List ℕ
  third = value_text state value

  short : length (line index code state value) ≤ 20
  short = line-length index code state value few byte word

  all_fit : at + length (first ++ second ++ third) ≤ length out
  unfolding line
  all_fit = omega (arith, short)

  two_fit : at + length (first ++ second) ≤ length out
  two_fit = first_fits out (first ++ second) third at all_fit

  first_fit : at + length first ≤ length out
  first_fit = first_fits out first second at two_fit

  module _ (a : ℕ) (mid : List ℕ) (h : Put out at first a mid) where
    second_fits : a + length second ≤ length mid
    second_fits = next_fits out first second at two_fit mid a h

    module _ (b : ℕ) (end : List ℕ) (g : Put mid a second b end) where
      two_put : Put out at (first ++ second) b end
      two_put = both-put out first second at two_fit mid a h b end g

      third_fits : b + length third ≤ length end
      third_fits = next_fits out (first ++ second) third at all_fit end b two_put

      all_put : (e : ℕ) (last : List ℕ) → Put end b third e last → (e ≤ at + 20) × Put out at (line index code state value) e last
      unfolding line
      all_put e last k =
          let all = both-put out (first ++ second) third at all_fit end b two_put e last k in
          (omega (arith, all.0, short), all)

pub number-a-requires : goal.number-a-requires
number-a-requires c =
    let s = c.args in
    rw c.from.ensures (first_fit s.out.now s.at s.index s.code s.state s.value c.requires.0 (omega arith) (omega arith) c.requires.1)

pub number-b-requires : goal.number-b-requires
number-b-requires c =
    let s = c.args in
    let few : c.from.result < 10000 = omega (arith, c.from.ensures, c.requires.0) in
    let byte : c.from-2.result < 256 = omega (arith, c.from-2.ensures) in
    second_fits s.out.now s.at c.from.result c.from-2.result s.state s.value few byte (omega arith) c.requires.1 _ _ c.number-a.ensures

pub value_text-requires : goal.value_text-requires
value_text-requires c =
    let s = c.args in
    let few : c.from.result < 10000 = omega (arith, c.from.ensures, c.requires.0) in
    let byte : c.from-2.result < 256 = omega (arith, c.from-2.ensures) in
    third_fits s.out.now s.at c.from.result c.from-2.result s.state s.value few byte (omega arith) c.requires.1 _ _ c.number-a.ensures _ _ c.number-b.ensures

pub returns : goal.returns
returns c =
    let s = c.args in
    let few : c.from.result < 10000 = omega (arith, c.from.ensures, c.requires.0) in
    let byte : c.from-2.result < 256 = omega (arith, c.from-2.ensures) in
    let all = all_put s.out.now s.at c.from.result c.from-2.result s.state s.value few byte (omega arith) c.requires.1 _ _ c.number-a.ensures _ _ c.number-b.ensures _ _ c.value_text.ensures in
    rw (sym c.from.ensures, sym c.from-2.ensures) (all.0, all.1.0, all.1.1)
