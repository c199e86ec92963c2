-- What follows from `LineUp`, at the same list of calls or at another: of bundles, syncs, previews and fills.
use Prim.Native.Nat.{ℕ}
use mathlib.Core.Bool.{Bool, false}
use mathlib.Core.Path.{◌∙◌, ◌≡◌, ap, refl, subst, sym}
use mathlib.Core.List.{List, [], ◌++◌, ◌∷◌}
use Rattle.bundles.specs.declared.entry.Entry.{Entry}
use Rattle.boards.specs.Board.{board_bytes}
use Rattle.desk.specs.Calls.{Batch, Bundle, Call, Fill, Fork, Join, Looks, Preview, Sync, entries_of, is_wrong_batch}
use Rattle.desk.proofs.Checks.{◌also◌}
use Rattle.diagram.specs.Arbitration.{Numbered}
use Rattle.diagram.specs.Day.{meant}
use Rattle.diagram.specs.Reuse.{Takes}
use Rattle.plain.specs.Record.{PlainDay, fresh_day}
use Rattle.plain.specs.Answers.{called, day_after, day_from}
use Rattle.plain.specs.Taken.{Taken, end_of, steps_after}
use Rattle.plain.specs.Bundles.{parts}
use Rattle.plain.specs.Values.{Forked, Gained}
use Rattle.plain.proofs.Bundles.{head_of}
use Rattle.plain.proofs.Ends.{Passes, was_taken}
use Rattle.plain.proofs.LineUp.{lined-up}
use Rattle.plain.proofs.Steps.{day_both, day_is, next_is}

-- 02, U4: the day is the one of the calls with a bundle's parts in its place; and a bundle has a first entry
pub unbundled : (single : Bool) (cs before rest : List (Call ℕ)) (c n : ℕ) (batch : Batch) (room : ℕ) → Taken single cs before (Bundle c n batch room) rest
    → day_after single cs ≡ day_after single (before ++ (parts c n (entries_of batch) ++ rest))
unfolding day_from day_after
unbundled single cs before rest c n batch room T =
    day_is single cs before (Bundle c n batch room) rest T
    ∙ ap (λ p. day_from p rest) ((lined-up single cs).tells before rest (Bundle c n batch room) T).day
    ∙ sym (day_both before (parts c n (entries_of batch) ++ rest) (fresh_day single) ∙ day_both (parts c n (entries_of batch)) rest (day_after single before))

not-wrong : (p : PlainDay) (c n : ℕ) (batch : Batch) (room : ℕ) → Passes p (Bundle c n batch room) → is_wrong_batch batch ≡ false
not-wrong p c n batch room (e1 also e14 also e19 also P) = e14

pub has_first : (p : PlainDay) (c n : ℕ) (batch : Batch) (room : ℕ) → (called p (Bundle c n batch room)).answer.code ≡ 0 → (first : Entry) × (others : List Entry) × (entries_of batch ≡ first ∷ others)
has_first p c n batch room e = head_of batch (not-wrong p c n batch room (was_taken p (Bundle c n batch room) e).0)

-- 02, U8: the day is the one of the calls with a join and a fork in the place of a sync
pub unsynced : (single : Bool) (cs before rest : List (Call ℕ)) (m room : ℕ) → Taken single cs before (Sync m room) rest → day_after single cs ≡ day_after single (before ++ (Join 0 m room ∷ Fork 0 ∷ rest))
unfolding day_from day_after
unsynced single cs before rest m room T =
    day_is single cs before (Sync m room) rest T ∙ ap (λ o. day_from o.next rest) ((lined-up single cs).tells before rest (Sync m room) T).is
    ∙ sym (day_both before (Join 0 m room ∷ Fork 0 ∷ rest) (fresh_day single))

module _ (single : Bool) (before : List (Call ℕ)) where
  abbrev p : PlainDay
  p = day_after single before

  -- a call that is taken after `before`, as the last one of a list
  last : (c : Call ℕ) → (called p c).answer.code ≡ 0 → Taken single (before ++ (c ∷ [])) before c []
  last c e = record { place = refl; code = e }

-- what a sync's join gains, what number it takes, and what that number means from then on
pub sync_tells : (single : Bool) (before : List (Call ℕ)) (m room : ℕ) → (called (day_after single before) (Sync m room)).answer.code ≡ 0
    → Gained (end_of single before) (meant (end_of single before) 0) (meant (end_of single before) m) (called (day_after single before) (Join 0 m room))
    × Takes (steps_after single (before ++ (Join 0 m room ∷ []))) (called (day_after single before) (Sync m room)).answer.value
    × Forked (end_of single (before ++ (Join 0 m room ∷ []))) 0 (called (day_after single before) (Sync m room))
sync_tells single before m room e =
    let S = (lined-up single (before ++ (Sync m room ∷ []))).tells before [] (Sync m room) (last single before (Sync m room) e) in
    let between = before ++ (Join 0 m room ∷ []) in
    let is : called (day_after single between) (Fork 0) ≡ called (day_after single before) (Sync m room) = ap (λ q. called q (Fork 0)) (next_is single before (Join 0 m room)) ∙ sym S.is in
    let F = (lined-up single (between ++ (Fork 0 ∷ []))).tells between [] (Fork 0) (last single between (Fork 0) (ap (λ o. o.answer.code) is ∙ e)) in (
      (lined-up single between).tells before [] (Join 0 m room) (last single before (Join 0 m room) S.joins),
      subst (λ o. Takes (steps_after single between) o.answer.value) is F.0,
      subst (Forked (end_of single between) 0) is F.1,
    )

-- 02, U6: what the joiner would gain
pub preview_gains : (single : Bool) (before : List (Call ℕ)) (n m bib : ℕ) → (called (day_after single before) (Looks (Preview n m bib))).answer.code ≡ 0
    → Gained (end_of single before) (meant (end_of single before) n) (meant (end_of single before) m) (called (day_after single before) (Join n m board_bytes))
preview_gains single before n m bib e =
    let S = (lined-up single (before ++ (Looks (Preview n m bib) ∷ []))).tells before [] (Looks (Preview n m bib)) (last single before (Looks (Preview n m bib)) e) in
    (lined-up single (before ++ (Join n m board_bytes ∷ []))).tells before [] (Join n m board_bytes) (last single before (Join n m board_bytes) S.joins)

-- 02, U1: "the number taken by the whole table" is that of the updates in the diagram
pub filled_all : (single : Bool) (before : List (Call ℕ)) (n : ℕ) → (called (day_after single before) (Looks (Fill n))).answer.code ≡ 0
    → Numbered (end_of single before).diagram (called (day_after single before) (Looks (Fill n))).answer.total
filled_all single before n e =
    let S = (lined-up single (before ++ (Looks (Fill n) ∷ []))).tells before [] (Looks (Fill n)) (last single before (Looks (Fill n)) e) in
    subst (λ a. Numbered (end_of single before).diagram a.total) (sym S.is) (lined-up single before).explains.numbered
