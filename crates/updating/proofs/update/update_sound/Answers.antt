-- `updating::update::update_sound` meets its contract: the checks, 20 last, then the work. Assumes nothing.
use Rattle.std.proofs.lemmas.Result.{err_from_is_err_and}
use Rattle.table.specs.Shared.{above}
use Rattle.updating.proofs.Calls.{update-full, update-refused, update-taken}
use Rattle.updating.proofs.Checks.{room_gone, room-left}
use Rattle.updating.proofs.update.update_sound.Goals as goal

pub returns-in_err-c : goal.returns-in_err-c
returns-in_err-c c =
    let s = c.args in
    let p = err_from_is_err_and c.from_residual.result c.from_residual.ensures.1 in
    rw (p.1, p.2) (update-refused s.t.now c.requires.0 (above s.most) s.client s.revision s.kind s.bib s.v c.check_update.result c.check_update.ensures.0 _ c.in_err-c.was)

pub returns-in_default : goal.returns-in_default
returns-in_default c =
    let s = c.args in
    update-full s.t.now c.requires.0 (above s.most) s.client s.revision s.kind s.bib s.v c.check_update.result c.check_update.ensures.0
    c.in_ok-c.c c.in_ok-c.r c.in_ok-c.k c.in_ok-c.was
    (room_gone _ _ _ c.taken-taken.ensures.0 _ c.check_room.ensures c.in_default.is)

pub put-value-requires : goal.put-value-requires
put-value-requires c =
    let i = rw c.in_ok-c.was at c.check_update.ensures.1 in
    (c.requires.1, c.requires.2, i.0, i.1, i.2, i.3)

pub returns : goal.returns
returns c =
    let s = c.args in
    update-taken s.t.now c.requires.0 (above s.most) s.client s.revision s.kind s.bib s.v c.check_update.result c.check_update.ensures.0
    c.in_ok-c.c c.in_ok-c.r c.in_ok-c.k c.in_ok-c.was
    (room-left _ _ _ c.taken-taken.ensures.0 _ c.check_room.ensures c.in-Room.is)
    c.put-value.ensures.1 c.put-value.ensures.0
