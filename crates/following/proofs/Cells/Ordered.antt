-- The order that the cells give is what the machine shows, and nothing of it is cut off.
use Prim.Native.Nat.{◌<◌, ◌≤◌, ℕ}
use mathlib.Core.Bool.{Bool, true}
use mathlib.Core.Path.{◌∙◌, ◌≡◌, ap, sym}
use mathlib.Core.List.Memᴰ
use mathlib.Core.List.Nodup
use mathlib.Core.List.Sublistᴰ
use mathlib.Core.List.{List, Nodup, ◌++◌}
use native.Mathlib.Omega.{arith}
use lib.Dec.{eqb}
use lib.ListN.{drop, length, take, take-append-drop}
use lib.Seq.{take_all}
use borrow.Author.Tests.{eqb-false, eqb-true}
use Rattle.lists.specs.Lists.{◌∈◌, ◌⊑◌, keep}
use Rattle.lists.specs.Arranged.{Apart, behind, flat_back, member}
use Rattle.lists.proofs.Blocks.{flat_back-behind, flat_back_from, flat_back_nodup, flat_back-one, flat_back_same}
use Rattle.lists.proofs.Cases.{cases, or_left}
use Rattle.lists.proofs.Counts.{few_below}
use Rattle.lists.proofs.Keep.{in_member, keep-++, keep_all, keep-flat_back, keep_in, keep-⊑, member_in}
use Rattle.lists.proofs.Places.{behind_in}
use Rattle.lists.proofs.Renamed.{flat_back-mapped, mapped-behind}
use Rattle.lists.proofs.Sublists.{nodup_apart, ⊑-⊆}
use Rattle.diagram.specs.Day.{Day, number_of}
use Rattle.machine.specs.Machine.{Machine, shown}
use Rattle.cells.specs.Sizes.{main, updates}
use Rattle.cells.specs.Cells.{Cells, flagged}
use Rattle.cells.specs.Order.{inherited, order}
use Rattle.following.proofs.Cells.Laid.{Laid, apart, same_number}
use Rattle.following.proofs.Cells.Represents.{Represents}

module _ (y : Day) (m : Machine) (k : Cells) (h : Represents y m k) (L : Laid y m) (r : ℕ) (i : r ∈ m.layout) where
  abbrev n : ℕ
  n = number_of y r

  -- whether r inherited an update
  abbrev came : ℕ → Bool
  came u = member u (m.inherited r)

  abbrev front : List ℕ
  front = take (k.base n) (m.own main)

  abbrev back : List ℕ
  back = drop (k.base n) (m.own main)

  whole : front ++ back ≡ m.own main
  whole = take-append-drop (k.base n) (m.own main)

  -- what is not inherited by count is inherited if it is flagged
  outside : (l : List ℕ) → Apart front l → keep came l ≡ keep (flagged k n) l
  outside l a = keep_in came (flagged k n) l (λ u j. h.inherited_is r i u ∙ cases (member u front) (λ e. absurd (a u (member_in u front e) j)) (λ e. rw e))

  once : Nodup (front ++ back)
  once = rw whole (flat_back_nodup m.own main m.layout h.main_out L.once)

  by_count : (u : ℕ) → u ∈ front → came u ≡ true
  by_count u o = h.inherited_is r i u ∙ or_left (member u front) (flagged k n u) (in_member u front o)

  main-picked : keep came (m.own main) ≡ front ++ keep (flagged k n) back
  main-picked = ap (keep came) (sym whole) ∙ keep-++ came front back ∙ rw (keep_all came front by_count, outside back (nodup_apart front back once))

  -- of each own list the cells pick what r inherited
  picked : (d : ℕ) → d ∈ m.layout → inherited k n (number_of y d) ≡ keep came (m.own d)
  picked d j =
      rw main-test
      (cases (eqb d main)
      (λ e. rw (e, eqb-true d main e, h.own_is main h.main_out) (sym main-picked))
      (λ e. rw (e, h.own_is d j) (sym (outside (m.own d) (λ u a b.
      let o : u ∈ m.own main = rw whole at (Memᴰ.append_left back a) in
      eqb-false d main e (flat_back-one m.own m.layout L.once d main u j h.main_out b o))))))
    where
      main-test : eqb (number_of y d) main ≡ eqb d main
      main-test = ap (eqb (number_of y d)) (sym h.main_number) ∙ same_number y m L d main j h.main_out

  shown-in : shown m r ⊑ flat_back m.own m.layout
  shown-in = Sublistᴰ.trans (Sublistᴰ.append (keep-⊑ came (flat_back m.own (behind r m.layout))) (Sublistᴰ.refl (m.own r))) (flat_back-behind m.own r m.layout i)

  pub shown-few : length (shown m r) ≤ updates
  shown-few =
      let u = h.updates_is in
      let v = h.updates_few in
      let low : (u : ℕ) → u ∈ shown m r → u < m.updates = λ u j. let p = flat_back_from m.own u m.layout (⊑-⊆ shown-in u j) in L.own_low p.0 p.1 u p.2 in
      let n = few_below m.updates (shown m r) (Nodup.sublist ∣ shown-in ∣₁ L.once) low in
      omega arith

  pub order_is : order k n ≡ shown m r
  unfolding order
  order_is =
      rw (
        h.layout_is,
        mapped-behind (number_of y) r m.layout (λ x j. apart y m L x r j i),
        flat_back-mapped (inherited k n) (number_of y) (behind r m.layout),
        flat_back_same (λ d. inherited k n (number_of y d)) (λ d. keep came (m.own d)) (behind r m.layout) (λ d j. picked d (behind_in r m.layout d j)),
        ← (keep-flat_back came m.own (behind r m.layout)),
        h.own_is r i,
      )
      (take_all updates (shown m r) shown-few)
