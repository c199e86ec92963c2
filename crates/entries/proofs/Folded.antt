-- The standing of a bib, entry by entry.
use Prim.Native.Nat.{ℕ, ◌+◌, ◌<◌}
use mathlib.Core.Path.{◌≡◌, refl, sym, ◌∙◌, ap}
use mathlib.Core.List.{List, [], ◌∷◌, ◌++◌}
use native.Mathlib.Numerals.{add-one}
use lib.Dec.{eqb}
use lib.ListN.{length, take, get_or}
use lib.Seq.{take-suc}
use Rattle.lists.proofs.Cases.{cases}
use Rattle.updates.specs.Applied.{applied, fresh_standing}
use Rattle.updates.specs.declared.standing.Standing.{Standing}
use Rattle.updates.proofs.Laws.{applied-append}
use Rattle.entries.specs.declared.entry.Entry.{Entry}
use Rattle.entries.specs.Folded.{of_bib, standing_of}

pub of_bib-append : (entries : ℕ → Entry) (bib : ℕ) (ns ms : List ℕ)
    → of_bib entries bib (ns ++ ms) ≡ of_bib entries bib ns ++ of_bib entries bib ms
of_bib-append entries bib [] ms = refl
of_bib-append entries bib (n ∷ ns) ms =
    cases (eqb (entries n).bib bib)
    (λ e. rw (e, of_bib-append entries bib ns ms))
    (λ e. rw (e, of_bib-append entries bib ns ms))

-- the updates of some numbers, then those of others
pub applied_both : (entries : ℕ → Entry) (bib : ℕ) (ns ms : List ℕ) (s : Standing)
    → applied (of_bib entries bib (ns ++ ms)) s ≡ applied (of_bib entries bib ms) (applied (of_bib entries bib ns) s)
applied_both entries bib ns ms s =
    ap (λ us. applied us s) (of_bib-append entries bib ns ms) ∙ applied-append (of_bib entries bib ns) (of_bib entries bib ms) s

-- one number more is its entry applied to what the numbers before it give
pub applied-more : (entries : ℕ → Entry) (bib : ℕ) (ns : List ℕ) (i : ℕ) (s : Standing) → i < length ns
    → applied (of_bib entries bib (take (i + 1) ns)) s ≡ applied (of_bib entries bib (get_or ns i 0 ∷ [])) (applied (of_bib entries bib (take i ns)) s)
applied-more entries bib ns i s h =
    ap (λ ms. applied (of_bib entries bib ms) s) (ap (λ k. take k ns) (add-one i) ∙ take-suc ns i 0 h)
    ∙ applied_both entries bib (take i ns) (get_or ns i 0 ∷ []) s

-- the same from a fresh day on, of numbers that are not yet all there
pub standing_more : (entries : ℕ → Entry) (bib : ℕ) (ns : List ℕ) (n : ℕ) {s : Standing}
    → s ≡ standing_of entries bib ns → applied (of_bib entries bib (n ∷ [])) s ≡ standing_of entries bib (ns ++ (n ∷ []))
standing_more entries bib ns n e =
    ap (applied (of_bib entries bib (n ∷ []))) e ∙ sym (applied_both entries bib ns (n ∷ []) fresh_standing)
