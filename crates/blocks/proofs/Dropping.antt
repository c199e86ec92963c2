-- A revision without a block of its own leaves the row: every revision still sees its list in order, and what was seen once is held.
use Prim.Native.Nat.{ℕ}
use mathlib.Core.Bool.{Bool}
use mathlib.Core.Path.{◌∙◌, ◌≡◌, ap, refl, sym}
use mathlib.Core.Logic.{◌⊎◌, inl, inr}
use mathlib.Core.List.Memᴰ
use mathlib.Core.List.Nodup
use mathlib.Core.List.{List}
use mathlib.Core.List.Sublistᴰ
use mathlib.Core.List.{[], ◌++◌, ◌∷◌, append-nil, Nodup-cons}
use Rattle.blocks.proofs.Joining.{Any, untouched_any}
use Rattle.blocks.proofs.Transfer.{Transfer, blocks-append, carry-all, good_seen, good_tail}
use Rattle.blocks.specs.Blocks.{Contents, Good, Held, Inv, blocks, seen}
use Rattle.lists.proofs.Cases.{either}
use Rattle.lists.proofs.Sublists.{nodup_apart, skip_one, sub_both}
use Rattle.lists.specs.Lists.{◌∈◌, ◌⊑◌}
use Rattle.lists.specs.Arranged.{◌⊆◌}

-- b, with nothing of its own, stands right of some m
module _ (r : List ℕ) (b : ℕ) (l : List ℕ) (s : Contents) (J : ℕ → ℕ → Bool) (inv : Inv (r ++ (b ∷ l)) s J) (empty : (s b).own ≡ []) (m : ℕ) (m-in : m ∈ l) where
  g : Good s (b ∷ l)
  g = good_tail s r (b ∷ l) inv.good

  same_blocks : blocks s (b ∷ l) ≡ blocks s l
  same_blocks = ap (λ z. blocks s l ++ z) empty ∙ append-nil (blocks s l)

  drop-blocks : blocks s (r ++ (b ∷ l)) ≡ blocks s (r ++ l)
  drop-blocks = blocks-append s r (b ∷ l) ∙ ap (λ z. z ++ blocks s r) same_blocks ∙ sym (blocks-append s r l)

  b-seen : seen (s b) ≡ (s b).inherited
  b-seen = ap (λ z. (s b).inherited ++ z) empty ∙ append-nil (s b).inherited

  -- one left of b sees all that b sees
  b-covered : (h : ℕ) × (h ∈ l) × (seen (s b) ⊆ seen (s h))
  b-covered = pick g.0.forked
    where
      pick : ((s b).inherited ≡ []) ⊎ ((h : ℕ) × (h ∈ l) × ((s b).inherited ⊆ seen (s h))) → (h : ℕ) × (h ∈ l) × (seen (s b) ⊆ seen (s h))
      pick (inl e) = (m, m-in, λ n i. absurd (Memᴰ.not-nil (rw (b-seen, e) at i)))
      pick (inr h) = (h.0, h.1, λ n i. h.2 n (rw b-seen at i))

  over : Transfer s s Any (b ∷ l) l
  over = record {
    under = λ w sub q. rw same_blocks at sub;
    covered = λ h i. either (Memᴰ.cases_cons i) (λ e. rw e b-covered) (λ j. (h, j, λ n k. k));
    known = λ h i. tt;
  }

  drop-good : Good s (r ++ l)
  drop-good = (carry-all s s Any tt (λ u v h q. tt) r over inv.good g.1 (λ x i. untouched_any s s x refl)).0

  fewer : (r ++ l) ⊑ (r ++ (b ∷ l))
  fewer = Sublistᴰ.append (Sublistᴰ.refl r) (Sublistᴰ.cons (Sublistᴰ.refl l))

  was : (x : ℕ) → x ∈ (r ++ l) → x ∈ (r ++ (b ∷ l))
  was x i = either (Memᴰ.append_cases r i) (λ j. Memᴰ.append_left (b ∷ l) j) (λ j. Memᴰ.append_right r (Memᴰ.tail j))

  not-b : (x : ℕ) → x ∈ (r ++ l) → x ≡ b → ⊥
  not-b x i e =
      either (Memᴰ.append_cases r i)
      (λ j. nodup_apart r (b ∷ l) inv.distinct x j (Memᴰ.head e))
      (λ j. (Nodup-cons.0 (Nodup.of_append_right r inv.distinct)).0 ∣ Memᴰ.cast (sym e) j ∣₁)

  pub drop-inv : Inv (r ++ l) s J
  drop-inv = record {
    distinct = Nodup.sublist ∣ fewer ∣₁ inv.distinct;
    once = rw drop-blocks at inv.once;
    good = drop-good;
    joins = λ x z i k e.
        let h = inv.joins x z (was x i) (was z k) e in
        let other : b ∈ (z ∷ x ∷ []) → ⊥ = λ j. either (Memᴰ.cases_cons j) (λ q. not-b z k (sym q)) (λ t. not-b x i (sym (Memᴰ.eq_of_singleton t))) in
        (skip_one r b l h.0 other, h.1);
  }

  -- what b held, the one left of it holds in the same order
  pub held-drop : (w : List ℕ) → Held (r ++ (b ∷ l)) s w → Held (r ++ l) s w
  held-drop w h =
      either (Memᴰ.append_cases r h.1)
      (λ i. (h.0, Memᴰ.append_left l i, h.2))
      (λ i. either (Memᴰ.cases_cons i) (λ e. left (rw e at h.2)) (λ j. (h.0, Memᴰ.append_right r j, h.2)))
    where
      left : w ⊑ seen (s b) → Held (r ++ l) s w
      left sub =
          let c = b-covered in
          let in-l : c.0 ∈ (r ++ l) = Memᴰ.append_right r c.1 in
          let all = blocks s (r ++ l) in
          let at_b : seen (s b) ⊑ all = rw drop-blocks at (good_seen s (r ++ (b ∷ l)) inv.good b (Memᴰ.append_right r (Memᴰ.head refl))) in
          let at_c = good_seen s (r ++ l) drop-good c.0 in-l in
          (c.0, in-l, Sublistᴰ.trans sub (sub_both all (seen (s b)) (seen (s c.0)) drop-inv.once at_b at_c c.2))
