-- `report::step::run` meets its contract: each step is its call. Assumes nothing.
use mathlib.Core.Path.{◌∙◌, ap}
use Rattle.table.specs.Calls.{join_out, yield_out}
use Rattle.report.proofs.step.run.Goals as goal

pub returns-in-Update : goal.returns-in-Update
returns-in-Update c = rw c.in-Update.is (c.without_state.ensures _ ∙ c.update.ensures)

pub returns-in-Query : goal.returns-in-Query
returns-in-Query c = rw c.in-Query.is c.query.ensures

pub returns-in-Yield : goal.returns-in-Yield
returns-in-Yield c =
    rw c.in-Yield.is (c.without_state-in-Yield.ensures _ ∙ c.yields.ensures.0 ∙ ap (yield_out _ _) c.requires)

pub returns-in-Fork : goal.returns-in-Fork
returns-in-Fork c = rw c.in-Fork.is (c.without_state-in-Fork.ensures _ ∙ c.fork.ensures)

pub returns-in-Join : goal.returns-in-Join
returns-in-Join c =
    rw c.in-Join.is (c.without_state-in-Join.ensures _ ∙ c.join.ensures.0 ∙ ap (join_out _ _ _) c.requires)

pub returns-in-Unknown : goal.returns-in-Unknown
returns-in-Unknown c = rw c.in-Unknown.is
