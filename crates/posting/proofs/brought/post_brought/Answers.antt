-- `posting::brought::post_brought` meets its contract: nothing was brought, or the end of the main revision's own list. Assumes nothing.
use Prim.Native.Nat.{ℕ, ◌-◌, ◌≤◌}
use mathlib.Core.Bool.{true}
use mathlib.Core.Path.{◌≡◌, ◌∙◌, ap, sym}
use mathlib.Core.List.{List}
use native.Mathlib.Omega.{arith}
use Rattle.boards.specs.Board.{posted_all}
use Rattle.cells.specs.Sizes.{main, updates}
use Rattle.cells.specs.Cells.{Settles, chain, settled_since}
use Rattle.cells.specs.Decode.{cells}
use Rattle.cells.specs.Range.{in_range}
use Rattle.cells.proofs.Range.{ranges}
use Rattle.cells.proofs.Settled.{since_chain, since_none}
use Rattle.posting.specs.Brought.{entries_posted}
use Rattle.posting.proofs.brought.post_brought.Goals as goal

-- the larger room has room for all
fits : (d : List ℕ) (before settled n : ℕ) → in_range d ≡ true → settled ≡ (cells d).settled → n ≡ updates → settled - before ≤ n
fits d before settled n h e l = let few = (ranges d h).settled in omega arith

-- the end of the own list, as many as were brought
brought-now : (d t board : List ℕ) (before settled : ℕ) → settled ≡ (cells d).settled → Settles before (cells d)
    → entries_posted t (chain (cells d).link ((cells d).last main) (settled - before)) board ≡ entries_posted t (settled_since before (cells d)) board
brought-now d t board before settled e h =
    ap (λ v. entries_posted t (chain (cells d).link ((cells d).last main) (v - before)) board) e
    ∙ ap (λ l. entries_posted t l board) (sym (since_chain before (cells d) h))

pub returns-then-settled-before : goal.returns-then-settled-before
unfolding posted_all
returns-then-settled-before c =
    let s = c.args in
    rw (since_none s.before (cells s.d.now) (let e = c.settled-settled.ensures.0 in let t = c.if-settled-before.true in omega arith))

pub returns-then-n-le-FEW : goal.returns-then-n-le-FEW
returns-then-n-le-FEW c =
    let s = c.args in
    c.post_last.ensures ∙ brought-now s.d.now s.t.now s.board.now s.before c.settled-settled.result c.settled-settled.ensures.0 c.requires.2

pub post_last-requires-2 : goal.post_last-requires-2
post_last-requires-2 c =
    let s = c.args in
    (c.requires.0, c.requires.1, c.requires.3, fits s.d.now s.before c.settled-settled.result _ c.requires.1 c.settled-settled.ensures.0 c.room-room.ensures, c.requires.4)

pub returns : goal.returns
returns c =
    let s = c.args in
    c.post_last-2.ensures ∙ brought-now s.d.now s.t.now s.board.now s.before c.settled-settled.result c.settled-settled.ensures.0 c.requires.2
