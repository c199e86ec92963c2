-- The lines and the table, one record further.
use Prim.Native.Nat.{ℕ, ◌+◌}
use mathlib.Core.Path.{◌≡◌, refl, ap}
use mathlib.Core.List.{List, [], ◌++◌}
use native.Mathlib.Numerals.{add-one}
use Rattle.table.specs.declared.answer.Reading.{Reading}
use Rattle.std.specs.declared.result.Result.{Result}
use Rattle.table.specs.declared.refusal.Refusal.{Refusal}
use Rattle.table.specs.Told.{code_told, reading_told, left_read}
use Rattle.table.specs.Out.{Out}
use Rattle.report.specs.Run.{table_after, out_at}
use Rattle.report.specs.Printed.{line, lines}

module _ (t f : List ℕ) where
  pub table_none : table_after t f 0 ≡ t
  unfolding table_after
  table_none = refl

  pub lines_none : lines t f 0 ≡ []
  unfolding lines
  lines_none = refl

  module _ (i : ℕ) (a : Result Reading Refusal) (after : List ℕ) (h : left_read a after ≡ out_at t f i) where
    pub table_more : after ≡ table_after t f (i + 1)
    unfolding table_after
    table_more = rw add-one (ap (λ (o : Out). o.lent) h)

    pub lines_more : lines t f i ++ line i (code_told a) (reading_told a).state (reading_told a).value ≡ lines t f (i + 1)
    unfolding lines
    lines_more = rw add-one (ap (λ (o : Out). lines t f i ++ line i o.code o.state o.value) h)
