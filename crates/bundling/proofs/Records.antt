-- The records of a bundle from one on: their checks, and the table after them.
use Prim.Native.Nat.{ℕ, suc, ◌+◌, ◌<◌, ◌≤◌}
use mathlib.Core.Bool.{false}
use mathlib.Core.Path.{◌≡◌, refl, sym, ◌∙◌, ap}
use mathlib.Core.List.{List, [], ◌∷◌}
use native.Mathlib.Omega.{arith}
use lib.Dec.{ltb}
use lib.ListN.{drop, get_or, length}
use Rattle.std.proofs.lemmas.List.{drop_all, drop_more}
use borrow.Author.Tests.{ltb-true, not-false}
use Rattle.updates.specs.Kinds.{bad_bib}
use Rattle.bundles.specs.declared.entry.Entry.{Entry}
use Rattle.bundles.specs.Records.{entry_in}
use Rattle.bundles.specs.Packed.{held}
use Rattle.cells.specs.Sizes.{updates}
use Rattle.table.specs.Halves.{cells_of}
use Rattle.bundling.specs.Bundles.{Going, entered, entered_all, fit_check, on_fit, sent_check}
use Rattle.std.specs.Prelude.{Result, Ok, Err}
use Rattle.table.specs.declared.refusal.Refusal.{Refusal}
use Rattle.bundling.proofs.Fit.{fit_alone, on_fits}
use Rattle.bundling.proofs.Sent.{Onward, onward}

-- record i, the entry e that it holds, and the records behind it
module _ (rs : List (List ℕ)) (i : ℕ) (h : i < length rs) (d : List ℕ) (e : Entry) (is : e ≡ entry_in (get_or rs i d)) where
  pub behind : held (drop i rs) ≡ e ∷ held (drop (i + 1) rs)
  behind = ap held (drop_more rs i d h) ∙ ap (λ x. x ∷ held (drop (i + 1) rs)) (sym is)

  module _ (taken most : ℕ) where
    check_step : sent_check (held (drop i rs)) (taken + i) most ≡ on_fit (fit_check e.kind e.bib (taken + i) most) (sent_check (held (drop (i + 1) rs)) (taken + (i + 1)) most)
    unfolding sent_check
    check_step =
        let f : suc (taken + i) ≡ taken + (i + 1) = omega arith in
        ap (λ es. sent_check es (taken + i) most) behind ∙ rw f

    module _ (found : Result (Unit {0}) Refusal) (q : found ≡ fit_check e.kind e.bib (taken + i) most) where
      pub check-ends : (x : Refusal) → found ≡ Err x → found ≡ sent_check (held (drop i rs)) (taken + i) most
      check-ends x z = z ∙ sym (check_step ∙ rw (sym q ∙ z))

      pub check_goes_on : found ≡ Ok tt → sent_check (held (drop i rs)) (taken + i) most ≡ sent_check (held (drop (i + 1) rs)) (taken + (i + 1)) most
      check_goes_on z = check_step ∙ rw (sym q ∙ z)

  module _ (t : List ℕ) (c n : ℕ) where
    pub fits_on : Going t c n → sent_check (held (drop i rs)) (cells_of t).updates updates ≡ Ok tt → Onward updates c n t e (held (drop (i + 1) rs))
    fits_on G f = onward updates c n t e (held (drop (i + 1) rs)) G (ap (λ es. sent_check es (cells_of t).updates updates) (sym behind) ∙ f)

    pub entered-next : entered_all t c n (held (drop i rs)) ≡ entered_all (entered t c n e) c n (held (drop (i + 1) rs))
    unfolding entered_all
    entered-next = ap (entered_all t c n) behind

-- behind the last record
module _ (rs : List (List ℕ)) (i : ℕ) (h : length rs ≤ i) where
  none : held (drop i rs) ≡ []
  none = ap held (drop_all i rs h)

  pub check_last : (taken most : ℕ) → sent_check (held (drop i rs)) taken most ≡ Ok tt
  unfolding sent_check
  check_last taken most = ap (λ es. sent_check es taken most) none

  pub entered_none : (t : List ℕ) (c n : ℕ) → entered_all t c n (held (drop i rs)) ≡ t
  unfolding entered_all
  entered_none t c n = ap (entered_all t c n) none

pub bib-below : (bib : ℕ) → bad_bib bib ≡ false → bib < 1000
bib-below bib h = ltb-true bib 1000 (not-false (ltb bib 1000) h)

-- the check, with the count as it was read
pub same_check : (es : List Entry) (most : ℕ) (f : Result (Unit {0}) Refusal) (a u : ℕ) → a ≡ u → f ≡ sent_check es a most → f ≡ sent_check es u most
same_check es most f a u e h = h ∙ ap (λ k. sent_check es k most) e

-- what fits beside other courses fits alone
pub fits-alone : (es : List Entry) (taken most : ℕ) → sent_check es taken most ≡ Ok tt → sent_check es taken updates ≡ Ok tt
unfolding sent_check
fits-alone [] taken most h = refl
fits-alone (e ∷ es) taken most h =
    let p = on_fits (fit_check e.kind e.bib taken most) _ h in
    rw (fit_alone e.kind e.bib taken most p.0) (fits-alone es (suc taken) most p.1)
