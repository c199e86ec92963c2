-- `text::number::number` meets its contract: the fewest digits, and then the mark. Assumes nothing.
use mathlib.Core.Path.{◌≡◌, ◌∙◌, subst}
use mathlib.Core.List.{List, [], ◌∷◌}
use native.Mathlib.Omega.{arith}
use Rattle.std.proofs.Common.{ℕ, ◌<◌, ◌^◌}
use Rattle.io.specs.Digits.{last_digits, IsDigitCount}
use Rattle.text.specs.Decimal.{decimal}
use Rattle.text.proofs.Places.{Put, first_fits, next_fits, both-put}
use Rattle.text.proofs.Digits.{fewest_decimal}
use Rattle.text.proofs.number.number.Goals as goal

-- the digits that `io` put are those of `decimal`, and so what is put is their text
module _ (n k : ℕ) (d : List ℕ) (h : n < 2 ^ 64) (few : IsDigitCount 10 1 n k) (e : d ≡ last_digits 10 k n) where
  digits_are : d ≡ decimal n
  digits_are = e ∙ fewest_decimal n k h few

  put_digits : (out : List ℕ) (at end : ℕ) (mid : List ℕ) → Put out at d end mid → Put out at (decimal n) end mid
  put_digits out at end mid p = subst (λ t. Put out at t end mid) digits_are p

pub put-end-requires : goal.put-end-requires
put-end-requires c =
    let s = c.args in
    rw (digits_are s.n _ _ (omega arith) c.decimal-k.ensures.len c.decimal-k.ensures.digits) (first_fits s.out.now (decimal s.n) (s.mark ∷ []) s.at c.requires)

pub put-requires : goal.put-requires
put-requires c =
    let s = c.args in
    let p = put_digits s.n _ _ (omega arith) c.decimal-k.ensures.len c.decimal-k.ensures.digits s.out.now s.at _ _ c.put-end.ensures in
    next_fits s.out.now (decimal s.n) (s.mark ∷ []) s.at c.requires _ _ p

pub returns : goal.returns
returns c =
    let s = c.args in
    let p = put_digits s.n _ _ (omega arith) c.decimal-k.ensures.len c.decimal-k.ensures.digits s.out.now s.at _ _ c.put-end.ensures in
    both-put s.out.now (decimal s.n) (s.mark ∷ []) s.at c.requires _ _ p _ _ c.put.ensures
