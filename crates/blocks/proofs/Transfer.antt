-- What stands in a row of blocks, and how a step carries the order from the revisions on the left to those right of them.
use Prim.Native.Nat.{ℕ}
use mathlib.Core.Path.{◌∙◌, ◌≡◌, ap, refl, sym}
use mathlib.Core.Logic.{◌⊎◌, inl, inr}
use mathlib.Core.List.Memᴰ
use mathlib.Core.List.Sublistᴰ
use mathlib.Core.List.{List}
use mathlib.Core.List.{[], ◌++◌, ◌∷◌, append_assoc, append-nil}
use Rattle.blocks.specs.Blocks.{Contents, Good, Ok, blocks, seen}
use Rattle.lists.proofs.Cases.{either}
use Rattle.lists.proofs.Sublists.{parts, ⊑-left}
use Rattle.lists.specs.Lists.{◌∈◌, ◌⊑◌}
use Rattle.lists.specs.Arranged.{◌⊆◌}

pub blocks-append : (s : Contents) (r l : List ℕ) → blocks s (r ++ l) ≡ blocks s l ++ blocks s r
blocks-append s [] l = sym (append-nil (blocks s l))
blocks-append s (x ∷ r) l = rw (blocks-append s r l) (append_assoc (blocks s l) (blocks s r) (s x).own)

pub block_in : (s : Contents) (x : ℕ) (l : List ℕ) → x ∈ l → (s x).own ⊆ blocks s l
block_in s x [] x3 n m = elim x3 [ ]
block_in s x (y ∷ l) (Memᴰ.head e) n m = Memᴰ.append_right (blocks s l) (rw e at m)
block_in s x (y ∷ l) (Memᴰ.tail h) n m = Memᴰ.append_left (s y).own (block_in s x l h n m)

-- so what a revision sees is an ordered sublist of the blocks up to its own
pub good_seen : (s : Contents) (l : List ℕ) → Good s l → (h : ℕ) → h ∈ l → seen (s h) ⊑ blocks s l
good_seen s [] g h x'' = elim x'' [ ]
good_seen s (x ∷ l) g h (Memᴰ.head e) = rw e (Sublistᴰ.append g.0.under (Sublistᴰ.refl (s x).own))
good_seen s (x ∷ l) g h (Memᴰ.tail m) = Sublistᴰ.trans (good_seen s l g.1 h m) (⊑-left (blocks s l) (s x).own)

pub good_tail : (s : Contents) (r l : List ℕ) → Good s (r ++ l) → Good s l
good_tail s [] l g = g
good_tail s (x ∷ r) l g = good_tail s r l g.1

-- What carries the invariant over a step, from the revisions on the left to those right of them.
-- Q is what is known of each list that is seen on the left (of nothing, it holds, and of less, it holds).
pub record Transfer (s t : Contents) (Q : List ℕ → Type 0) (left left' : List ℕ) : Type 0 where
  pub under : (w : List ℕ) → w ⊑ blocks s left → Q w → w ⊑ blocks t left'
  pub covered : (h : ℕ) → h ∈ left → (h' : ℕ) × (h' ∈ left') × (seen (s h) ⊆ seen (t h'))
  pub known : (h : ℕ) → h ∈ left → Q (seen (s h))

-- a revision that the step leaves alone
pub record Untouched (s t : Contents) (Q : List ℕ → Type 0) (x : ℕ) : Type 0 where
  pub same : t x ≡ s x
  pub neutral : (w : List ℕ) → Q w → Q (w ++ (s x).own)

module _ (s t : Contents) (Q : List ℕ → Type 0) (Q-nil : Q []) (Q-less : (a b : List ℕ) → a ⊆ b → Q b → Q a) where
  pub known-inh : {left left' : List ℕ} {x : ℕ} → Transfer s t Q left left' → Ok s left x → Q (s x).inherited
  known-inh {left} {left'} {x} f ok = either ok.forked (λ e. rw e Q-nil) (λ h. Q-less _ _ h.2 (f.known h.0 h.1))

  pub carry-ok : {left left' : List ℕ} {x : ℕ} → Transfer s t Q left left' → (t x).inherited ≡ (s x).inherited → Ok s left x → Ok t left' x
  carry-ok {left} {left'} {x} f e ok = record { under = rw e (f.under _ ok.under (known-inh f ok)); forked = pick ok.forked }
    where
      pick : ((s x).inherited ≡ []) ⊎ ((h : ℕ) × (h ∈ left) × ((s x).inherited ⊆ seen (s h))) → ((t x).inherited ≡ []) ⊎ ((h : ℕ) × (h ∈ left') × ((t x).inherited ⊆ seen (t h)))
      pick (inl q) = inl (e ∙ q)
      pick (inr h) = let h' = f.covered h.0 h.1 in inr (h'.0, h'.1, λ n m. h'.2 n (h.2 n (rw e at m)))

  pub carry : {left left' : List ℕ} {x : ℕ} → Transfer s t Q left left' → Untouched s t Q x → Ok s left x → Transfer s t Q (x ∷ left) (x ∷ left')
  carry {left} {left'} {x} f k ok = record { under = under'; covered = covered'; known = known' }
    where
      under' : (w : List ℕ) → w ⊑ blocks s left ++ (s x).own → Q w → w ⊑ blocks t left' ++ (t x).own
      under' w sub q =
          let p = parts (blocks s left) (s x).own sub in
          rw (p.whole, k.same) (Sublistᴰ.append (f.under p.one p.fst (Q-less _ _ (λ n m. rw p.whole (Memᴰ.append_left p.two m)) q)) p.snd)

      covered' : (h : ℕ) → h ∈ (x ∷ left) → (h' : ℕ) × (h' ∈ (x ∷ left')) × (seen (s h) ⊆ seen (t h'))
      covered' h (Memᴰ.head e) = (x, Memᴰ.head refl, λ n m. rw (k.same, ← e) m)
      covered' h (Memᴰ.tail m) = let h' = f.covered h m in (h'.0, Memᴰ.tail h'.1, h'.2)

      known' : (h : ℕ) → h ∈ (x ∷ left) → Q (seen (s h))
      known' h (Memᴰ.head e) = rw e (k.neutral _ (known-inh f ok))
      known' h (Memᴰ.tail m) = f.known h m

  pub carry-all : (r : List ℕ) {left left' : List ℕ} → Transfer s t Q left left' → Good s (r ++ left) → Good t left' → ((x : ℕ) → x ∈ r → Untouched s t Q x)
      → Good t (r ++ left') × Transfer s t Q (r ++ left) (r ++ left')
  carry-all [] f g g' k = (g', f)
  carry-all (x ∷ r) f g g' k =
      let kx = k x (Memᴰ.head refl) in
      let ih = carry-all r f g.1 g' (λ y m. k y (Memᴰ.tail m)) in
      ((carry-ok ih.1 (ap (λ b. b.inherited) kx.same) g.0, ih.0), carry ih.1 kx g.0)
