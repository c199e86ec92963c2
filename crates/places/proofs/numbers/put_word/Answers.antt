-- `places::numbers::put_word` meets its contract: two bytes are lent and come back as the word's. Assumes nothing.
use Prim.Native.Nat.{◌*◌, ◌/◌, ◌%◌}
use mathlib.Core.Path.{◌≡◌, ◌∙◌}
use native.Mathlib.Omega.{arith}
use Rattle.lists.proofs.Replaced.{lent-replaced}
use Rattle.places.proofs.Lent.{word_put}
use Rattle.places.proofs.numbers.put_word.Goals as goal

pub returns : goal.returns
returns c =
    let s = c.args in
    let high : s.v / 256 % 256 ≡ s.v / 256 = omega arith in
    lent-replaced s.t.now _ _ (2 * s.r) 2 c.copy_from_slice.ensures.after ∙ word_put s.t.now s.r s.v c.to_le_bytes.result (omega arith) (c.to_le_bytes.ensures ∙ rw high)
