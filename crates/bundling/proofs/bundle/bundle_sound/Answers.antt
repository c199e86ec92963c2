-- `bundling::bundle::bundle_sound` meets its contract: the first update's checks, then the rest. Assumes nothing.
use mathlib.Core.Path.{◌∙◌}
use Rattle.bundles.specs.Packed.{held}
use Rattle.table.specs.Shared.{above}
use Rattle.std.proofs.lemmas.Result.{err_from_is_err_and}
use Rattle.bundling.proofs.Bundles.{bundle-going, bundle-refused, bundle_sent}
use Rattle.bundling.proofs.bundle.bundle_sound.Goals as goal

pub returns-in_err-c : goal.returns-in_err-c
returns-in_err-c c =
    let s = c.args in
    let p = err_from_is_err_and c.from_residual.result c.from_residual.ensures.1 in
    rw (p.1, p.2) (bundle-refused (above s.most) s.t.now c.requires.0 s.client s.revision s.records.now c.requires.3 _ c.check_first.result c.check_first.ensures _ c.in_err-c.was)

pub send-requires : goal.send-requires
send-requires c =
    let s = c.args in
    let first = c.check_first in
    let going = bundle-going (above s.most) s.t.now c.requires.0 s.client s.revision s.records.now c.requires.3 _ first.result first.ensures in
    (going c.in_ok-c.c c.in_ok-c.r _ c.in_ok-c.was, c.requires.1, c.requires.4)

pub returns : goal.returns
returns c =
    let s = c.args in
    let first = c.check_first in
    let sent = bundle_sent (above s.most) s.t.now c.requires.0 s.client s.revision s.records.now c.requires.3 _ first.result first.ensures in
    c.send.ensures ∙ sent c.in_ok-c.c c.in_ok-c.r _ c.in_ok-c.was (held s.records.now)
