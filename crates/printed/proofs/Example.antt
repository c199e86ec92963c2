-- 01's example day prints as 01 says: computed on paper, and so what the report prints.
use Prim.Native.Nat.{ℕ, zero, suc}
use mathlib.Core.Path.{◌≡◌, refl, ◌∙◌}
use mathlib.Core.List.{List, [], ◌∷◌, ◌++◌}
use Rattle.lists.specs.Sums.{any_below}
use Rattle.updates.specs.Kinds.{kind_check}
use Rattle.updates.specs.Effect.{earliest, effect, penalized, state_of, value_in}
use Rattle.updates.specs.Applied.{applied}
use Rattle.diagram.specs.Sizes.{revision_limit, client_limit, update_limit}
use Rattle.diagram.specs.Leads.{leads}
use Rattle.diagram.specs.Effects.{tabulate}
use Rattle.diagram.specs.Day.{is_given, meant, next_number}
use Rattle.diagram.specs.Checks.{unknown_client, marked, open_elsewhere, busy_by_other, busy, stale, log_full, none_left, not_joinable}
use Rattle.diagram.specs.Steps.{after}
use Rattle.plain.specs.Answers.{called}
use Rattle.text.specs.Decimal.{places, decimal}
use Rattle.buffers.specs.Numbers.{number}
use Rattle.dayfile.specs.File.{file_check}
use Rattle.dayfile.specs.Record.{step_at, step_of}
use Rattle.dayfile.specs.declared.step.Step.{Step}
use Rattle.dayfile.specs.declared.step.Step.TheVariants.{Update, Query, Yield, Fork, Join}
use Rattle.report.specs.Printed.{line, printed, value_text}
use Rattle.printed.specs.Paper.{paper_after, paper_lines, paper}
use Rattle.printed.specs.Example.{crossing, given}
use Rattle.printed.proofs.Agree.{printed_is_paper}

-- the first n records as steps
abbrev recorded : List ℕ → ℕ → List Step
recorded f zero = []
recorded f (suc i) = recorded f i ++ (step_at f i ∷ [])

-- the file has the steps that 01 names, in its order
as_named : recorded crossing 12
    ≡ Update 0 0 1 7 61000 ∷ Yield 0 ∷ Fork 0 ∷ Update 1 1 3 7 5000 ∷ Fork 1 ∷ Yield 1 ∷ Update 0 0 1 7 60000 ∷ Yield 0 ∷ Query 0 1 7
    ∷ Join 0 1 ∷ Query 1 0 7 ∷ Update 0 1 4 7 0 ∷ []
unfolding crossing number step_at step_of
as_named = refl

on-paper : paper crossing ≡ given
unfolding crossing given paper paper_lines paper_after file_check number step_at step_of line value_text decimal places called after leads tabulate is_given
    meant next_number unknown_client marked open_elsewhere busy_by_other busy any_below stale log_full none_left not_joinable revision_limit client_limit update_limit kind_check effect earliest penalized state_of value_in applied
on-paper = refl

pub example-printed : printed crossing ≡ given
example-printed = printed_is_paper crossing ∙ on-paper
