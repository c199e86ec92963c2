-- `announcing::bundle::bundle_within` meets its contract: 1, 14, 19, then the entries. Assumes nothing.
use Prim.Native.Nat.{◌<◌, ◌≤◌}
use mathlib.Core.Path.{◌∙◌, subst, sym}
use lib.ListN.{length}
use Rattle.std.proofs.lemmas.Option.{MatchOption-at_none, MatchOption-at_some}
use Rattle.bundles.proofs.First.{counted}
use Rattle.bundles.specs.Packed.{held}
use Rattle.table.specs.Shared.{above}
use Rattle.table.proofs.Brings.{brings-nothing, brought-out, can-bring}
use Rattle.table.proofs.Buffer.{board-long, board-wrong, is-table, no_table}
use Rattle.announcing.proofs.Sends.{bundle-shows, no-bundle, right-bundle, uncounted-bundle, wrong-bundle}
use Rattle.announcing.proofs.bundle.bundle_within.Goals as goal

pub returns-in_default : goal.returns-in_default
returns-in_default c = (no-bundle _ _ _ _ _ _ (no_table _ (sym c.check_table.ensures ∙ c.in_default.is)), sym (brings-nothing _ _))

pub returns-in_default-check_bundle : goal.returns-in_default-check_bundle
returns-in_default-check_bundle c =
    let h = (is-table _ (sym c.check_table.ensures ∙ c.in-Sound.is)).0 in
    (uncounted-bundle _ _ _ _ _ _ h (MatchOption-at_none _ _ c.in_default-check_bundle.is c.check_bundle.ensures), sym (brings-nothing _ _))

pub returns-in_default-check_board : goal.returns-in_default-check_board
returns-in_default-check_board c =
    let h = (is-table _ (sym c.check_table.ensures ∙ c.in-Sound.is)).0 in
    let r = MatchOption-at_some _ _ _ c.in-Some.is c.check_bundle.ensures in
    (wrong-bundle _ _ _ _ _ _ h r.0 (board-wrong _ (sym c.check_board.ensures ∙ c.in_default-check_board.is)), sym (brings-nothing _ _))

pub bundle_sound-answer-requires : goal.bundle_sound-answer-requires
bundle_sound-answer-requires c =
    let s = c.args in
    let h = is-table _ (sym c.check_table.ensures ∙ c.in-Sound.is) in
    let r = MatchOption-at_some _ _ _ c.in-Some.is c.check_bundle.ensures in
    let n = counted s.records.now r.0 in
    (h.0, h.1, h.2, subst (λ rs. 0 < length rs) (sym r.1) n.some, subst (λ rs. length rs ≤ 64) (sym r.1) n.most)

pub bring-requires : goal.bring-requires
bring-requires c =
    let s = c.args in
    let h = is-table _ (sym c.check_table.ensures ∙ c.in-Sound.is) in
    let shows = bundle-shows (above s.most) s.t.now h.0 s.client s.revision (held c.in-Some.sent.now) in
    let b = can-bring s.t.now _ _ c.settled-before.ensures c.bundle_sound-answer.result _ c.bundle_sound-answer.ensures shows in
    (b.0, b.1, b.2, board-long _ (sym c.check_board.ensures ∙ c.in-Sound-check_board.is))

pub returns : goal.returns
returns c =
    let s = c.args in
    let h = (is-table _ (sym c.check_table.ensures ∙ c.in-Sound.is)).0 in
    let r = MatchOption-at_some _ _ _ c.in-Some.is c.check_bundle.ensures in
    let long = board-long _ (sym c.check_board.ensures ∙ c.in-Sound-check_board.is) in
    (c.bundle_sound-answer.ensures ∙ right-bundle _ _ _ _ _ _ h r.0 long _ r.1, brought-out s.t.now _ _ c.settled-before.ensures s.board.now _ c.bring.ensures)
