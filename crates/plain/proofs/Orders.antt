-- What a taken verify says, and that a line-up which explains the day gets a yes (02, U13).
use Prim.Native.Nat.{ℕ, ◌<◌}
use mathlib.Core.Bool.{Bool, true, cond, not}
use mathlib.Core.Path.{◌≡◌, refl, sym, ◌∙◌, ap}
use mathlib.Core.Logic.{◌↔◌}
use mathlib.Core.List.{List, []}
use borrow.Author.Tests.{not-true}
use Rattle.orderfile.specs.File.{numbers_in, file_of}
use Rattle.orderfile.specs.Fits.{Fits}
use Rattle.orderfile.proofs.Exactly.{else_none, fits-exactly, yes_exactly}
use Rattle.orderfile.proofs.Numbers.{written_good, written_back}
use Rattle.diagram.specs.Day.{Day, IsOut, shown_at}
use Rattle.diagram.specs.Arbitration.{Explains}
use Rattle.desk.specs.Calls.{Call, Looks, Verify, plainly}
use Rattle.desk.proofs.Checks as Rows
use Rattle.desk.proofs.Checks.{◌also◌}
use Rattle.plain.specs.Answers.{called, day_after, fits_day}
use Rattle.plain.specs.Taken.{end_of}
use Rattle.plain.specs.Orders.{GetsYes, Verified, updates_in}
use Rattle.plain.proofs.Ends.{was_taken}
use Rattle.plain.proofs.Exactly.{passed_is}

-- the test of a day is `Fits`, by the revisions that are out
module _ (y : Day) (ns : List ℕ) where
  abbrev boxes : (fits_day y ns ≡ true) ↔ Fits y.updates (λ r. (r < y.revisions) × (not (y.joined r) ≡ true)) (shown_at y) ns
  boxes = fits-exactly y.updates y.revisions (λ r. not (y.joined r)) (shown_at y) ns

  pub fits-day : (fits_day y ns ≡ true) ↔ Fits y.updates (IsOut y) (shown_at y) ns
  fits-day = (
    λ e. let f = boxes.0 e in record { every = f.every; once = f.once; no_other = f.no_other; in_order = λ r o. f.in_order r (o.0, rw o.1) },
    λ f. boxes.1 (record { every = f.every; once = f.once; no_other = f.no_other; in_order = λ r o. f.in_order r (o.0, not-true (y.joined r) o.1) }),
  )

module _ (single : Bool) where
  pub verified : (before : List (Call ℕ)) (file : List ℕ) → (called (day_after single before) (Looks (Verify file))).answer.code ≡ 0
      → Verified (end_of single before) file (called (day_after single before) (Looks (Verify file))).answer
  verified before file e =
      let is = ap (λ o. o.answer.value) (was_taken (day_after single before) (Looks (Verify file)) e).1 in
      let b = fits_day (end_of single before) (numbers_in file) in
      let d = fits-day (end_of single before) (numbers_in file) in
      record {
        agrees = (λ v. d.0 ((yes_exactly b).0 (sym is ∙ v)), λ f. is ∙ (yes_exactly b).1 (d.1 f));
        else_none = λ h. is ∙ else_none b (λ v. h (is ∙ v));
      }

  pub own_orders : (cs : List (Call ℕ)) (own : List ℕ) → Explains (end_of single cs) own → GetsYes single cs own
  own_orders cs own E =
      let y = end_of single cs in
      let ns = updates_in y own in
      let f : Fits y.updates (IsOut y) (shown_at y) ns = record { every = λ u. (E.updates_all u).1; once = E.updates_once; no_other = λ u. (E.updates_all u).0; in_order = E.in_order } in
      let fit : fits_day y (numbers_in (file_of ns)) ≡ true = ap (fits_day y) (written_back ns) ∙ (fits-day y ns).1 f in
      ap (λ o. o.answer) (passed_is (day_after single cs) (Looks (Verify (file_of ns))) (refl also written_good ns also Rows.none)) ∙ ap (λ b. plainly 0 (cond b 1 0) []) fit
