-- What was seen once stays in order.
use Prim.Native.Nat.{ℕ}
use mathlib.Core.Bool.{Bool}
use mathlib.Core.Path.{◌≡◌, refl}
use mathlib.Core.Logic.{◌⊎◌, inl, inr}
use mathlib.Core.List.Memᴰ
use mathlib.Core.List.{List}
use mathlib.Core.List.Sublistᴰ
use mathlib.Core.List.{◌++◌, ◌∷◌, append_assoc}
use lib.Dec.{eqb}
use borrow.Author.Tests.{eqb-true}
use Rattle.blocks.proofs.Invariant.{join-inv}
use Rattle.blocks.proofs.Joining.{good-b, covered-b, joined, over-b}
use Rattle.blocks.proofs.Transfer.{blocks-append, good_seen}
use Rattle.blocks.specs.Blocks.{Contents, Held, Inv, blocks, grow, seen}
use Rattle.lists.proofs.Cases.{cases}
use Rattle.lists.proofs.Sublists.{sub_both, ⊑-left}
use Rattle.lists.specs.Lists.{◌∈◌, ◌⊑◌}
use Rattle.lists.specs.Arranged.{◌⊆◌}

pub held-order : (layout : List ℕ) (s : Contents) (J : ℕ → ℕ → Bool) (w : List ℕ) → Inv layout s J → Held layout s w → w ⊑ blocks s layout
held-order layout s J w inv h = Sublistᴰ.trans h.2 (good_seen s layout inv.good h.0 h.1)

-- a revision that grows holds what it held
pub grow_sub : (s : Contents) (a : ℕ) (more : List ℕ) (x : ℕ) → seen (s x) ⊑ seen (grow s a more x)
grow_sub s a more x = cases (eqb x a) (λ e. rw (e, ← append_assoc, eqb-true x a e) (⊑-left (seen (s a)) more)) (λ e. rw e (Sublistᴰ.refl (seen (s x))))

pub held-grow : (layout : List ℕ) (s : Contents) (a : ℕ) (more w : List ℕ) → Held layout s w → Held layout (grow s a more) w
held-grow layout s a more w h = (h.0, h.1, Sublistᴰ.trans h.2 (grow_sub s a more h.0))

module _ (r : List ℕ) (b : ℕ) (m : List ℕ) (a : ℕ) (l : List ℕ) (s : Contents) (J : ℕ → ℕ → Bool) (inv : Inv (r ++ (b ∷ (m ++ (a ∷ l)))) s J) (above : (s b).inherited ⊆ seen (s a)) where
  -- what b saw, a sees after the join, in the same order
  pub seen_b : seen (s b) ⊑ seen (joined s r b m a l a)
  seen_b =
      let o = over-b s r b m a l inv.distinct inv.once inv.good above in
      let in_front = join-inv r b m a l s J inv above in
      let whole : blocks (joined s r b m a l) (m ++ (a ∷ l)) ⊑ blocks (joined s r b m a l) (r ++ (m ++ (a ∷ l))) = rw (blocks-append (joined s r b m a l) r (m ++ (a ∷ l))) (⊑-left _ _) in
      let at_b : seen (s b) ⊑ blocks s (b ∷ (m ++ (a ∷ l))) = good_seen s _ (good-b s r b m a l inv.distinct inv.once inv.good above) b (Memᴰ.head refl) in
      sub_both _ _ _ in_front.once (Sublistᴰ.trans (o.under (seen (s b)) at_b (o.known b (Memᴰ.head refl))) whole) (good_seen _ _ in_front.good a a_in) (covered-b s r b m a l inv.distinct inv.once inv.good above)
    where
      a_in : a ∈ (r ++ (m ++ (a ∷ l)))
      a_in = Memᴰ.append_right r (Memᴰ.append_right m (Memᴰ.head refl))

  pub held-join : (w : List ℕ) → Held (r ++ (b ∷ (m ++ (a ∷ l)))) s w → Held (r ++ (m ++ (a ∷ l))) (joined s r b m a l) w
  held-join w h = pick (Memᴰ.append_cases r h.1)
    where
      kept : h.0 ∈ (r ++ (m ++ (a ∷ l))) → Held (r ++ (m ++ (a ∷ l))) (joined s r b m a l) w
      kept i = (h.0, i, Sublistᴰ.trans h.2 (grow_sub s a (s b).own h.0))

      late : (h.0 ≡ b) ⊎ (h.0 ∈ (m ++ (a ∷ l))) → Held (r ++ (m ++ (a ∷ l))) (joined s r b m a l) w
      late (inl e) = (a, Memᴰ.append_right r (Memᴰ.append_right m (Memᴰ.head refl)), Sublistᴰ.trans (rw e at h.2) seen_b)
      late (inr i) = kept (Memᴰ.append_right r i)

      pick : (h.0 ∈ r) ⊎ (h.0 ∈ (b ∷ (m ++ (a ∷ l)))) → Held (r ++ (m ++ (a ∷ l))) (joined s r b m a l) w
      pick (inl i) = kept (Memᴰ.append_left (m ++ (a ∷ l)) i)
      pick (inr i) = late (Memᴰ.cases_cons i)
