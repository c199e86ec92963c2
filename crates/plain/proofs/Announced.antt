-- The right boards of two small days: an update of an open transaction is not on the board, and after the yield it is (02, U10).
use Prim.Native.Nat.{ℕ}
use mathlib.Core.Bool.{false}
use mathlib.Core.Path.{◌∙◌, ◌≡◌, ap, refl}
use mathlib.Core.Option.{none}
use mathlib.Core.List.Memᴰ
use mathlib.Core.List.{List, [], ◌++◌, ◌∷◌}
use native.Mathlib.Omega.{arith}
use lib.Dec.{eqb}
use lib.ListN.{replicate}
use Rattle.lists.specs.Lists.{drops, ends, keeps}
use Rattle.lists.specs.Sums.{any_below}
use Rattle.lists.proofs.Cases.{cases}
use Rattle.updates.specs.Applied.{applied}
use Rattle.updates.specs.Effect.{effect}
use Rattle.updates.specs.Kinds.{kind_check}
use Rattle.buffers.specs.Numbers.{number}
use Rattle.boards.specs.Board.{board_bytes, posted_all, shown, standing_in, wrote}
use Rattle.boards.proofs.Posted.{fresh_right, stays_right}
use Rattle.desk.specs.Calls.{Call, Update}
use Rattle.diagram.specs.Sizes.{client_limit, revision_limit, update_limit}
use Rattle.diagram.specs.Leads.{leads}
use Rattle.diagram.specs.Effects.{tabulate}
use Rattle.diagram.specs.Day.{is_given, meant}
use Rattle.diagram.specs.Checks.{busy_by_other, log_full, marked, open_elsewhere, stale, unknown_client}
use Rattle.diagram.specs.Steps.{after}
use Rattle.diagram.proofs.Days.Sound.{some≢none}
use Rattle.plain.specs.Answers.{called, day_after, day_from}
use Rattle.plain.specs.Boards.{Right, bib_of, update_of}
use Rattle.plain.specs.Edges.{yield}
use Rattle.plain.specs.Taken.{end_of}

-- Time 5 of bib 7, on box 0
abbrev entered : List (Call ℕ)
entered = Update 0 0 1 7 5 ∷ []

abbrev yielded : List (Call ℕ)
yielded = entered ++ (yield 0 ∷ [])

still_open : (t : ℕ) → ((end_of false entered).transaction t).closed ≡ none
unfolding called day_from day_after after leads tabulate is_given meant unknown_client marked open_elsewhere busy_by_other any_below stale log_full revision_limit client_limit update_limit kind_check
still_open t = cases (eqb t 0) (λ e. rw e) (λ e. rw e)

not_yet : Right (day_after false entered) (replicate board_bytes 0)
unfolding called day_from day_after after leads tabulate is_given meant unknown_client marked open_elsewhere busy_by_other any_below stale log_full revision_limit client_limit update_limit kind_check applied
not_yet = record { updates = []; shown = drops (λ O. some≢none _ O.closed (still_open O.transaction)) ends; is = fresh_right }

-- bib 7 has the entry from byte 35 on
now : Right (day_after false yielded) (replicate 35 0 ++ (0 ∷ 5 ∷ 0 ∷ 0 ∷ 0 ∷ replicate 4960 0))
unfolding called day_from day_after after leads tabulate is_given meant unknown_client marked open_elsewhere busy_by_other any_below stale log_full revision_limit client_limit update_limit kind_check applied effect posted_all wrote shown standing_in number
now = record {
  updates = 0 ∷ [];
  shown = keeps (record { transaction = 0; known = omega arith; at = _; closed = refl; event = 1; entered = Memᴰ.head refl; update = refl }) ends;
  is = ap (posted_all (bib_of (day_after false yielded)) (update_of (day_after false yielded)) (0 ∷ [])) fresh_right ∙ stays_right (bib_of (day_after false yielded)) (update_of (day_after false yielded)) (0 ∷ []) _;
}
