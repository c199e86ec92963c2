-- `joining::sync::sync_sound` meets its contract: the join's checks, the join, and the fork of what it left. Assumes nothing.
use Rattle.std.proofs.lemmas.Result.{err_from_is_err_and}
use mathlib.Core.Path.{◌∙◌, ap, sym}
use Rattle.table.specs.Halves.{low}
use Rattle.table.specs.Answers.{taken}
use Rattle.table.specs.Found.{on_ok}
use Rattle.table.proofs.Halves.{low-length}
use Rattle.joining.proofs.Syncs.{joined-lower, next-in, sync_by, sync-done}
use Rattle.joining.proofs.sync.sync_sound.Goals as goal

pub check_join-requires : goal.check_join-requires
check_join-requires c = low-length c.args.t.now c.requires.1

pub returns-in_err-a : goal.returns-in_err-a
unfolding low on_ok
returns-in_err-a c =
    let s = c.args in
    let p = err_from_is_err_and c.from_residual.result c.from_residual.ensures.1 in
    rw (p.1, p.2) (sync_by s.t.now c.requires.0 s.joinee _ (sym c.check_join.ensures.0 ∙ c.in_err-a.was))

pub join_lower-requires : goal.join_lower-requires
join_lower-requires c =
    let i = rw c.in_ok-a.was at c.check_join.ensures.1 in
    (c.requires.1, c.requires.2, i.0, i.1)

pub start-requires : goal.start-requires
unfolding low
start-requires c =
    let s = c.args in
    let i = rw c.in_ok-a.was at c.check_join.ensures.1 in
    let e = sym c.check_join.ensures.0 ∙ c.in_ok-a.was in
    let l = joined-lower s.t.now c.requires.0 s.joinee _ _ e i.1 i.2 _ c.join_lower.ensures.1 in
    let n = next-in s.t.now c.requires.0 s.joinee _ _ e i.1 i.2 _ c.join_lower.ensures.1 _ c.next-c.ensures in
    (l.0, l.1, i.0, n.0, n.1)

pub returns : goal.returns
unfolding low
returns c =
    let s = c.args in
    let i = rw c.in_ok-a.was at c.check_join.ensures.1 in
    let e = sym c.check_join.ensures.0 ∙ c.in_ok-a.was in
    ap (taken c.start.new.t) c.from.ensures ∙ sync-done s.t.now c.requires.0 s.joinee _ _ e i.1 i.2 _ c.join_lower.ensures.1 _ _ c.next-c.ensures c.start.ensures
