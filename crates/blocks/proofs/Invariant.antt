-- The invariant of the layout, and that an event, a fork and a join keep it.
use Prim.Native.Nat.{ℕ}
use mathlib.Core.Bool.{Bool, false, true}
use mathlib.Core.Path.{◌≡◌, refl, sym}
use mathlib.Core.Logic.{◌⊎◌, inl, inr, ∥∥₁_elim}
use mathlib.Core.HLevel.{⊥_prop}
use mathlib.Core.List.Memᴰ
use mathlib.Core.List.{List}
use mathlib.Core.List.Nodup
use mathlib.Core.List.{Nodup, Perm}
use mathlib.Core.List.Perm
use mathlib.Core.List.Sublistᴰ
use mathlib.Core.List.{[], ◌++◌, ◌∷◌, append_assoc, append-nil, Nodup-cons}
use mathlib.Core.List.{perm_append_comm, perm_middle}
use lib.Dec.{eqb}
use borrow.Author.Tests.{eqb-false, eqb-true}
use Rattle.blocks.proofs.Joining.{Any, blocks_same, carry_grown, carry_left, grow_inh, grow-seen, covered-b, join-good, untouched_any}
use Rattle.blocks.proofs.Joining.{other-l, other-m, other-r, row}
use Rattle.blocks.proofs.Transfer.{Transfer, blocks-append, carry-all, good_seen, good_tail}
use Rattle.blocks.specs.Blocks.{Contents, Good, Inv, Ok, blocks, fork_contents, grow, seen}
use Rattle.lists.proofs.Cases.{cases, either, or_cases, split}
use Rattle.lists.proofs.Changed.{changed-other, changed_same}
use Rattle.lists.proofs.Places.{in_front}
use Rattle.lists.proofs.Sublists.{nodup_apart, skip_one, ∈-⊑, ⊑-right, ⊑-⊆}
use Rattle.lists.specs.Lists.{◌∈◌, ◌⊑◌}
use Rattle.lists.specs.Arranged.{◌⊆◌}
use Rattle.lists.specs.Pool.{fork_pool, join_pool}

-- an update
module _ (r : List ℕ) (b : ℕ) (l : List ℕ) (s : Contents) (J : ℕ → ℕ → Bool) (n : ℕ) (inv : Inv (r ++ (b ∷ l)) s J) (fresh : n ∈ blocks s (r ++ (b ∷ l)) → ⊥) where
  abbrev t : Contents
  t = grow s b (n ∷ [])

  same-r : (x : ℕ) → x ∈ r → t x ≡ s x
  same-r x i = changed-other s b _ x (λ e. nodup_apart r _ inv.distinct x i (Memᴰ.head e))

  same-l : (x : ℕ) → x ∈ l → t x ≡ s x
  same-l x i = changed-other s b _ x (λ e. (Nodup-cons.0 (Nodup.of_append_right r inv.distinct)).0 ∣ Memᴰ.cast (sym e) i ∣₁)

  update-blocks : blocks t (r ++ (b ∷ l)) ≡ blocks s (b ∷ l) ++ (n ∷ blocks s r)
  update-blocks = rw (blocks-append t r (b ∷ l), blocks_same s t r same-r, blocks_same s t l same-l, changed_same s b _) (simp append_assoc)

  update-once : Nodup (blocks t (r ++ (b ∷ l)))
  update-once =
      let e = blocks-append s r (b ∷ l) in
      rw update-blocks (Perm.nodup (Perm.symm (perm_middle (blocks s (b ∷ l)) (blocks s r))) (Nodup-cons.1 (λ i. ∥∥₁_elim i ⊥_prop (λ d. fresh (rw e d)), rw e at inv.once)))

  update-good : Good t (r ++ (b ∷ l))
  update-good =
      let g = good_tail s r (b ∷ l) inv.good in
      let f = carry_grown s t b l (n ∷ []) (changed_same s b _) g (carry_left s t l same-l g.1) in
      (carry-all s t Any tt (λ u v h q. tt) r f.1 inv.good f.0 (λ x i. untouched_any s t x (same-r x i))).0

  pub update-inv : Inv (r ++ (b ∷ l)) t J
  update-inv = record {
    distinct = inv.distinct;
    once = update-once;
    good = update-good;
    joins = λ x y i k e. let h = inv.joins x y i k e in (h.0, λ w j. grow-seen s b (n ∷ []) x w (h.1 w (rw (grow_inh s b (n ∷ []) y) at j)));
  }

-- a fork: c comes in right of p
module _ (r : List ℕ) (p : ℕ) (l : List ℕ) (s : Contents) (J : ℕ → ℕ → Bool) (c : ℕ) (inv : Inv (r ++ (p ∷ l)) s J) (fresh : c ∈ (r ++ (p ∷ l)) → ⊥) where
  abbrev ft : Contents
  ft = fork_contents s p c

  old-same : (x : ℕ) → x ∈ (r ++ (p ∷ l)) → ft x ≡ s x
  old-same x i = changed-other s c _ x (λ e. fresh (Memᴰ.cast (sym e) i))

  same_low : (x : ℕ) → x ∈ (p ∷ l) → ft x ≡ s x
  same_low x i = old-same x (Memᴰ.append_right r i)

  same-high : (x : ℕ) → x ∈ r → ft x ≡ s x
  same-high x i = old-same x (Memᴰ.append_left (p ∷ l) i)

  low-blocks : blocks ft (p ∷ l) ≡ blocks s (p ∷ l)
  low-blocks = blocks_same s ft (p ∷ l) same_low

  c-is : ft c ≡ record { inherited = seen (s p); own = [] }
  c-is = changed_same s c _

  fork-blocks : blocks ft (r ++ (c ∷ p ∷ l)) ≡ blocks s (r ++ (p ∷ l))
  fork-blocks = rw (blocks-append ft r (c ∷ p ∷ l), blocks_same s ft r same-high, c-is, append-nil (blocks ft (p ∷ l)), low-blocks) (sym (blocks-append s r (p ∷ l)))

  fork-good : Good ft (r ++ (c ∷ p ∷ l))
  fork-good =
      let g = good_tail s r (p ∷ l) inv.good in
      let f = carry_left s ft (p ∷ l) same_low g in
      let ok : Ok ft (p ∷ l) c = record { under = rw (c-is, low-blocks) (good_seen s (p ∷ l) g p (Memᴰ.head refl)); forked = inr (p, Memᴰ.head refl, rw (c-is, same_low p (Memᴰ.head refl)) (λ n i. i)) } in
      let over : Transfer s ft Any (p ∷ l) (c ∷ p ∷ l) = record { under = λ w sub q. rw (c-is, append-nil) (f.1.under w sub tt); covered = λ h i. let h' = f.1.covered h i in (h'.0, Memᴰ.tail h'.1, h'.2); known = λ h i. tt } in
      (carry-all s ft Any tt (λ u v h q. tt) r over inv.good (ok, f.0) (λ x i. untouched_any s ft x (same-high x i))).0

  grown : (r ++ (p ∷ l)) ⊑ (r ++ (c ∷ p ∷ l))
  grown = Sublistᴰ.append (Sublistᴰ.refl r) (Sublistᴰ.cons (Sublistᴰ.refl (p ∷ l)))

  -- who is out after the fork: c, or one that was
  out : (x : ℕ) → x ∈ (r ++ (c ∷ p ∷ l)) → (x ≡ c → ⊥) → x ∈ (r ++ (p ∷ l))
  out x i h = pick (Memᴰ.append_cases r i)
    where
      low : (x ≡ c) ⊎ (x ∈ (p ∷ l)) → x ∈ (r ++ (p ∷ l))
      low (inl e) = absurd (h e)
      low (inr j) = Memᴰ.append_right r j

      pick : (x ∈ r) ⊎ (x ∈ (c ∷ p ∷ l)) → x ∈ (r ++ (p ∷ l))
      pick (inl j) = Memᴰ.append_left (p ∷ l) j
      pick (inr j) = low (Memᴰ.cases_cons j)

  kept_pair : (x y : ℕ) → x ∈ (r ++ (p ∷ l)) → y ∈ (r ++ (p ∷ l)) → J x y ≡ true → ((y ∷ x ∷ []) ⊑ (r ++ (c ∷ p ∷ l))) × ((ft y).inherited ⊆ seen (ft x))
  kept_pair x y i k e = let h = inv.joins x y i k e in (Sublistᴰ.trans h.0 grown, rw (old-same x i, old-same y k) h.1)

  p-out : p ∈ (r ++ (p ∷ l))
  p-out = Memᴰ.append_right r (Memᴰ.head refl)

  -- c may join whom p may
  c-pair : (y : ℕ) → y ∈ (r ++ (p ∷ l)) → J p y ≡ true → ((y ∷ c ∷ []) ⊑ (r ++ (c ∷ p ∷ l))) × ((ft y).inherited ⊆ seen (ft c))
  c-pair y k e =
      let h = inv.joins p y p-out k e in
      (Sublistᴰ.append (∈-⊑ y r (in_front r l inv.distinct h.0)) (Sublistᴰ.cons-cons refl (Sublistᴰ.nil-sublist (p ∷ l))), rw (c-is, old-same y k, append-nil) h.1)

  -- p may join c
  new-pair : ((c ∷ p ∷ []) ⊑ (r ++ (c ∷ p ∷ l))) × ((ft c).inherited ⊆ seen (ft p))
  new-pair = (Sublistᴰ.trans (Sublistᴰ.cons-cons refl (Sublistᴰ.cons-cons refl (Sublistᴰ.nil-sublist l))) (⊑-right r (c ∷ p ∷ l)), rw (c-is, old-same p p-out) (λ n i. i))

  fork-joins : (x y : ℕ) → x ∈ (r ++ (c ∷ p ∷ l)) → y ∈ (r ++ (c ∷ p ∷ l)) → fork_pool J p c x y ≡ true → ((y ∷ x ∷ []) ⊑ (r ++ (c ∷ p ∷ l))) × ((ft y).inherited ⊆ seen (ft x))
  fork-joins x y i k e =
      cases (eqb y c)
      (λ q. rw (eqb-true y c q, eqb-true x p (rw q at e)) new-pair)
      (λ q.
      let j = out y k (eqb-false y c q) in
      cases (eqb x c) (λ h. rw (eqb-true x c h) (c-pair y j (rw (q, h) at e))) (λ h. kept_pair x y (out x i (eqb-false x c h)) j (rw (q, h) at e)))

  pub fork-inv : Inv (r ++ (c ∷ p ∷ l)) ft (fork_pool J p c)
  fork-inv = record {
    distinct = Perm.nodup (Perm.symm (perm_middle r (p ∷ l))) (Nodup-cons.1 (λ i. ∥∥₁_elim i ⊥_prop fresh, inv.distinct));
    once = rw fork-blocks inv.once;
    good = fork-good;
    joins = fork-joins;
  }

-- a join: b goes, and what was its own is a's
module _ (r : List ℕ) (b : ℕ) (m : List ℕ) (a : ℕ) (l : List ℕ) (s : Contents) (J : ℕ → ℕ → Bool) (inv : Inv (r ++ (b ∷ (m ++ (a ∷ l)))) s J) (above : (s b).inherited ⊆ seen (s a)) where
  abbrev jt : Contents
  jt = grow s a (s b).own

  fewer : (r ++ (m ++ (a ∷ l))) ⊑ (r ++ (b ∷ (m ++ (a ∷ l))))
  fewer = Sublistᴰ.append (Sublistᴰ.refl r) (Sublistᴰ.cons (Sublistᴰ.refl (m ++ (a ∷ l))))

  new_row : blocks jt (r ++ (m ++ (a ∷ l))) ≡ blocks s (a ∷ l) ++ (s b).own ++ blocks s m ++ blocks s r
  new_row =
      rw (
        blocks-append jt r (m ++ (a ∷ l)),
        blocks-append jt m (a ∷ l),
        blocks_same s jt r (other-r s r b m a l inv.distinct inv.once inv.good above),
        blocks_same s jt m (other-m s r b m a l inv.distinct inv.once inv.good above),
        blocks_same s jt l (other-l s r b m a l inv.distinct inv.once inv.good above),
        changed_same s a _,
      )
      (simp append_assoc)

  join-once : Nodup (blocks jt (r ++ (m ++ (a ∷ l))))
  join-once = rw new_row (Perm.nodup (Perm.append_right (blocks s r) swap) (rw (row s r b m a l) at inv.once))
    where
      swap : Perm (blocks s (a ∷ l) ++ blocks s m ++ (s b).own) (blocks s (a ∷ l) ++ (s b).own ++ blocks s m)
      swap = rw (append_assoc (blocks s (a ∷ l)) (blocks s m) (s b).own, append_assoc (blocks s (a ∷ l)) (s b).own (blocks s m)) (Perm.append_left (blocks s (a ∷ l)) (perm_append_comm (blocks s m) (s b).own))

  gone : b ∈ (r ++ (m ++ (a ∷ l))) → ⊥
  gone i = either (Memᴰ.append_cases r i) (λ j. nodup_apart r _ inv.distinct b j (Memᴰ.head refl)) (λ j. (Nodup-cons.0 (Nodup.of_append_right r inv.distinct)).0 ∣ j ∣₁)

  b-out : b ∈ (r ++ (b ∷ (m ++ (a ∷ l))))
  b-out = Memᴰ.append_right r (Memᴰ.head refl)

  join-joins : (x y : ℕ) → x ∈ (r ++ (m ++ (a ∷ l))) → y ∈ (r ++ (m ++ (a ∷ l))) → join_pool J a b x y ≡ true → ((y ∷ x ∷ []) ⊑ (r ++ (m ++ (a ∷ l)))) × ((jt y).inherited ⊆ seen (jt x))
  join-joins x y i k e = at_a (split (eqb x a))
    where
      kept : J x y ≡ true → ((y ∷ x ∷ []) ⊑ (r ++ (m ++ (a ∷ l)))) × ((jt y).inherited ⊆ seen (jt x))
      kept f =
          let h = inv.joins x y (⊑-⊆ fewer x i) (⊑-⊆ fewer y k) f in
          (skip_one r b (m ++ (a ∷ l)) h.0 (λ j. absent (Memᴰ.cases_cons j)), λ n j. grow-seen s a (s b).own x n (h.1 n (rw (grow_inh s a (s b).own y) at j)))
        where
          absent : (b ≡ y) ⊎ (b ∈ (x ∷ [])) → ⊥
          absent (inl q) = gone (rw q k)
          absent (inr q) = gone (rw (Memᴰ.eq_of_singleton q) i)

      through : x ≡ a → J b y ≡ true → ((y ∷ x ∷ []) ⊑ (r ++ (m ++ (a ∷ l)))) × ((jt y).inherited ⊆ seen (jt x))
      through q f =
          let h = inv.joins b y b-out (⊑-⊆ fewer y k) f in
          let before : (y ∷ a ∷ []) ⊑ (r ++ (m ++ (a ∷ l))) = Sublistᴰ.append (∈-⊑ y r (in_front r _ inv.distinct h.0)) (∈-⊑ a (m ++ (a ∷ l)) (Memᴰ.append_right m (Memᴰ.head refl))) in
          rw q (before, λ n j. covered-b s r b m a l inv.distinct inv.once inv.good above n (h.1 n (rw (grow_inh s a (s b).own y) at j)))

      by-a : x ≡ a → (J a y ≡ true) ⊎ (J b y ≡ true) → ((y ∷ x ∷ []) ⊑ (r ++ (m ++ (a ∷ l)))) × ((jt y).inherited ⊆ seen (jt x))
      by-a q (inl f) = kept (rw q f)
      by-a q (inr f) = through q f

      at_a : (eqb x a ≡ true) ⊎ (eqb x a ≡ false) → ((y ∷ x ∷ []) ⊑ (r ++ (m ++ (a ∷ l)))) × ((jt y).inherited ⊆ seen (jt x))
      at_a (inl q) = by-a (eqb-true x a q) (or_cases (J a y) (J b y) (rw q at e))
      at_a (inr q) = kept (rw q at e)

  pub join-inv : Inv (r ++ (m ++ (a ∷ l))) jt (join_pool J a b)
  join-inv = record {
    distinct = Nodup.sublist ∣ fewer ∣₁ inv.distinct;
    once = join-once;
    good = join-good s r b m a l inv.distinct inv.once inv.good above;
    joins = join-joins;
  }
