-- A walk back along an own list, one update more; along the lists of several revisions; and along an order.
use Prim.Native.Nat.{ℕ, ◌+◌, ◌-◌, ◌<◌, ◌≤◌}
use mathlib.Core.Bool.{Bool, false, true, false≢true, not}
use mathlib.Core.Path.{◌≡◌, ◌∙◌, subst, sym}
use mathlib.Core.List.{List, [], ◌++◌}
use native.Mathlib.Omega.{arith}
use lib.Dec.{ltb}
use lib.ListN.{drop, length, length-drop, take}
use lib.Seq.{take_all}
use borrow.Author.Tests.{ltb-false}
use Rattle.std.specs.declared.ops.ControlFlow.{ControlFlow}
use Rattle.lists.specs.Arranged.{behind, flat_back}
use Rattle.lists.proofs.Cases.{cases}
use Rattle.cells.specs.Sizes.{lower_bytes, updates}
use Rattle.cells.specs.Words.{byte}
use Rattle.cells.specs.Cells.{Cells, flagged, outs, own}
use Rattle.cells.specs.Decode.{cells}
use Rattle.cells.specs.Order.{base_in, inherited, order, picks}
use Rattle.cells.specs.Range.{in_range}
use Rattle.order.specs.Added.{offered}
use Rattle.order.specs.Counts.{counts}
use Rattle.order.proofs.Behind.{from_place}
use Rattle.order.proofs.Counts.{whole}
use Rattle.order.proofs.Laws.{picks_all, picks_last, picks-none}
use Rattle.entries.specs.Entries.{entry_at}
use Rattle.entries.specs.declared.entry.Entry.{Entry}
use Rattle.entries.specs.Walked.{StandsFor, Walked, is_done, kept_from}
use Rattle.entries.proofs.Walked.{stands-more}
use Rattle.querying.specs.Left.{left}

module _ (d h : List ℕ) (r base bib : ℕ) where
  pub left-more : (u i p : ℕ) (out after all : List ℕ) (k : ControlFlow ℕ ℕ) → 0 < i → StandsFor (entry_at h) bib false (left d r base u i) (drop p out) all
      → Walked (entry_at h) bib 1 (offered base (flagged (cells d) r) (i - 1) u) out p after k
      → StandsFor (entry_at h) bib (is_done k) (left d r base ((cells d).link u) (i - 1)) (drop (kept_from k) after) all
  left-more u i p out after all k g a w =
      stands-more (entry_at h) bib (left d r base ((cells d).link u) (i - 1)) (offered base (flagged (cells d) r) (i - 1) u)
      (subst (λ l. StandsFor (entry_at h) bib false l (drop p out) all) (picks_last base (flagged (cells d) r) (cells d).link u i g) a)
      w.stands

  -- an own list at its first update, and as a whole
  pub left-none : (u n : ℕ) {ks all : List ℕ} → n ≡ 0 → StandsFor (entry_at h) bib false (left d r base u n) ks all → StandsFor (entry_at h) bib false [] ks all
  left-none u n {ks} {all} e a = subst (λ l. StandsFor (entry_at h) bib false l ks all) (picks-none base (flagged (cells d) r) (cells d).link u n e) a

  pub left-own : (x u n : ℕ) (rest : List ℕ) {done : Bool} {ks : List ℕ} → u ≡ (cells d).last x → n ≡ (cells d).count x → StandsFor (entry_at h) bib done [] ks (left d r base u n ++ rest)
      → StandsFor (entry_at h) bib done [] ks (picks base (flagged (cells d) r) (own (cells d) x) ++ rest)
  left-own x u n rest e f a = rw (← e, ← f) a

-- a walk back along the lists of the revisions from a place on: one list more
module _ (d h : List ℕ) (r bib : ℕ) (long : length d ≡ lower_bytes) (ranged : in_range d ≡ true) where
  pub lists-more : (i x b p n : ℕ) (out after all : List ℕ) (k : ControlFlow ℕ ℕ) → i < (cells d).out → x ≡ byte (cells d).layout i → b ≡ base_in (cells d) r x
      → StandsFor (entry_at h) bib false (flat_back (inherited (cells d) r) (drop i (outs (cells d)))) (drop p out) all
      → Walked (entry_at h) bib n (picks b (flagged (cells d) r) (own (cells d) x)) out p after k
      → StandsFor (entry_at h) bib (is_done k) (flat_back (inherited (cells d) r) (drop (i + 1) (outs (cells d)))) (drop (kept_from k) after) all
  lists-more i x b p n out after all k g e f a w =
      stands-more (entry_at h) bib (flat_back (inherited (cells d) r) (drop (i + 1) (outs (cells d)))) (inherited (cells d) r x)
      (subst (λ l. StandsFor (entry_at h) bib false (flat_back (inherited (cells d) r) l) (drop p out) all) (from_place d long ranged i x g e) a)
      (rw (← f) w.stands)

-- of its own list a revision sees all
pub own_walked : (k : Cells) (e : ℕ → Entry) (bib r n m : ℕ) (before : List ℕ) (from : ℕ) (after : List ℕ) (w : ControlFlow ℕ ℕ) → n ≡ k.count r
    → Walked e bib m (picks n (flagged k r) (own k r)) before from after w → Walked e bib m (own k r) before from after w
own_walked k e bib r n m before from after w c a = subst (λ ns. Walked e bib m ns before from after w) (picks_all k r n (flagged k r) c) a

-- where all lists have room, the order is these lists
pub order_whole : (k : Cells) (r j : ℕ) → behind r (outs k) ≡ drop (j + 1) (outs k) → counts k (drop (j + 1) (outs k)) + k.count r ≤ updates
    → flat_back (inherited k r) (drop (j + 1) (outs k)) ++ own k r ≡ order k r
order_whole k r j e h = rw (← e) (sym (whole k r (rw e h)))

pub has_room : (w : Bool) (n : ℕ) → w ≡ not (ltb updates n) → w ≡ true → n ≤ updates
has_room w n e t = cases (ltb updates n) (λ q. absurd (false≢true (rw q at (sym e ∙ t)))) (λ q. ltb-false updates n q)

-- the numbers kept, lent as the end of their buffer
pub tail_lent : (out : List ℕ) (p n : ℕ) → length out ≤ p + n → take n (drop p out) ≡ drop p out
tail_lent out p n h = take_all n (drop p out) (rw length-drop (omega arith))
