-- A join moves the joinee's block next to the joiner's: every revision still sees its list in order.
use Prim.Native.Nat.{ℕ}
use mathlib.Core.Path.{◌∙◌, ◌≡◌, ap, refl, sym}
use mathlib.Core.Logic.{◌⊎◌, inl, inr}
use mathlib.Core.List.Memᴰ
use mathlib.Core.List.{List, Nodup}
use mathlib.Core.List.Nodup
use mathlib.Core.List.Sublistᴰ
use mathlib.Core.List.{[], ◌++◌, ◌∷◌, append_assoc}
use mathlib.Core.List.{append-nil, Nodup-cons}
use lib.Dec.{eqb}
use borrow.Author.Tests.{eqb-true}
use Rattle.blocks.proofs.Transfer.{Untouched, Transfer, block_in, blocks-append, carry-all, carry-ok, good_seen, good_tail}
use Rattle.blocks.specs.Blocks.{Contents, Good, blocks, grow, seen}
use Rattle.lists.proofs.Cases.{cases}
use Rattle.lists.proofs.Changed.{changed-other, changed_same}
use Rattle.lists.proofs.Sublists.{apart-++, nodup_apart, parts, skip_mid, skip_right, ⊆-++, ⊑-left, ⊑-⊆}
use Rattle.lists.specs.Lists.{◌∈◌, ◌⊑◌}
use Rattle.lists.specs.Arranged.{Apart, ◌⊆◌}

pub grow_inh : (s : Contents) (a : ℕ) (more : List ℕ) (x : ℕ) → (grow s a more x).inherited ≡ (s x).inherited
grow_inh s a more x = cases (eqb x a) (λ e. rw (e, eqb-true x a e)) (λ e. rw e)

pub grow-seen : (s : Contents) (a : ℕ) (more : List ℕ) (x : ℕ) → seen (s x) ⊆ seen (grow s a more x)
grow-seen s a more x n m = cases (eqb x a) (λ e. rw (e, ← append_assoc) (Memᴰ.append_left more (rw (eqb-true x a e) at m))) (λ e. rw e m)

-- nothing is known, and nothing need be
abbrev pub Any : List ℕ → Type 0
Any w = Unit {0}

pub untouched_any : (s t : Contents) (x : ℕ) → t x ≡ s x → Untouched s t Any x
untouched_any s t x e = record { same = e; neutral = λ w q. tt }

pub begin : (s t : Contents) → Transfer s t Any [] []
begin s t = record { under = λ w p q. p; covered = λ h m. absurd (Memᴰ.not-nil m); known = λ h m. tt }

-- a list that is unchanged up to some place
pub carry_left : (s t : Contents) (l : List ℕ) → ((x : ℕ) → x ∈ l → t x ≡ s x) → Good s l → Good t l × Transfer s t Any l l
carry_left s t l k g = rw (← (append-nil l)) (carry-all s t Any tt (λ a b f q. tt) l (begin s t) (rw append-nil g) tt (λ x m. untouched_any s t x (k x m)))

pub blocks_same : (s t : Contents) (l : List ℕ) → ((x : ℕ) → x ∈ l → t x ≡ s x) → blocks t l ≡ blocks s l
blocks_same s t [] k = refl
blocks_same s t (x ∷ l) k = rw (blocks_same s t l (λ y m. k y (Memᴰ.tail m)), k x (Memᴰ.head refl))

-- a revision that only grows
pub carry_grown : (s t : Contents) (a : ℕ) (l : List ℕ) (more : List ℕ) → t a ≡ record { inherited = (s a).inherited; own = (s a).own ++ more } → Good s (a ∷ l) → Good t l × Transfer s t Any l l
    → Good t (a ∷ l) × Transfer s t Any (a ∷ l) (a ∷ l)
carry_grown s t a l more e g f =
    ((carry-ok s t Any tt (λ a b h q. tt) f.1 (ap (λ b. b.inherited) e) g.0, f.0), record { under = under'; covered = covered'; known = λ h m. tt })
  where
    under' : (w : List ℕ) → w ⊑ blocks s l ++ (s a).own → Any w → w ⊑ blocks t l ++ (t a).own
    under' w sub q =
        let p = parts (blocks s l) (s a).own sub in
        rw (p.whole, e) (Sublistᴰ.append (f.1.under p.one p.fst tt) (Sublistᴰ.trans p.snd (⊑-left (s a).own more)))

    covered' : (h : ℕ) → h ∈ (a ∷ l) → (h' : ℕ) × (h' ∈ (a ∷ l)) × (seen (s h) ⊆ seen (t h'))
    covered' h (Memᴰ.head q) = (a, Memᴰ.head refl, λ n m. rw (e, ← append_assoc) (Memᴰ.append_left more (rw q at m)))
    covered' h (Memᴰ.tail m) = let h' = f.1.covered h m in (h'.0, Memᴰ.tail h'.1, h'.2)

module _ (s : Contents) (r : List ℕ) (b : ℕ) (m : List ℕ) (a : ℕ) (l : List ℕ) where
  abbrev pub joined : Contents
  joined = grow s a (s b).own

  -- what is apart from what b adds, or from all that stands between
  abbrev pub Q : List ℕ → Type 0
  Q w = Apart w (s b).own ⊎ Apart w (blocks s m)

  pub Q-nil : Q []
  Q-nil = inl (λ n i. absurd (Memᴰ.not-nil i))

  pub Q-less : (u v : List ℕ) → u ⊆ v → Q v → Q u
  Q-less u v f (inl h) = inl (λ n i. h n (f n i))
  Q-less u v f (inr h) = inr (λ n i. h n (f n i))

  -- the blocks in a row
  pub row : blocks s (r ++ (b ∷ (m ++ (a ∷ l)))) ≡ blocks s (a ∷ l) ++ blocks s m ++ (s b).own ++ blocks s r
  row = blocks-append s r (b ∷ (m ++ (a ∷ l))) ∙ ap (λ z. z ++ (s b).own ++ blocks s r) (blocks-append s m (a ∷ l))

  module _ (distinct : Nodup (r ++ (b ∷ (m ++ (a ∷ l))))) (once : Nodup (blocks s (r ++ (b ∷ (m ++ (a ∷ l)))))) (good : Good s (r ++ (b ∷ (m ++ (a ∷ l))))) (above : (s b).inherited ⊆ seen (s a)) where
    once' : Nodup (blocks s (a ∷ l) ++ blocks s m ++ (s b).own ++ blocks s r)
    once' = rw row at once

    apart-r : Apart (blocks s (a ∷ l) ++ blocks s m ++ (s b).own) (blocks s r)
    apart-r = nodup_apart _ _ once'

    apart-b : Apart (blocks s (a ∷ l) ++ blocks s m) (s b).own
    apart-b = nodup_apart _ _ (Nodup.of_append_left (blocks s r) once')

    apart-m : Apart (blocks s (a ∷ l)) (blocks s m)
    apart-m = nodup_apart _ _ (Nodup.of_append_left (s b).own (Nodup.of_append_left (blocks s r) once'))

    lower : Nodup (m ++ (a ∷ l))
    lower = (Nodup-cons.0 (Nodup.of_append_right r distinct)).1

    pub other-r : (x : ℕ) → x ∈ r → joined x ≡ s x
    other-r x i = changed-other s a _ x (λ e. nodup_apart r _ distinct x i (Memᴰ.tail (Memᴰ.append_right m (Memᴰ.head e))))

    pub other-m : (x : ℕ) → x ∈ m → joined x ≡ s x
    other-m x i = changed-other s a _ x (λ e. nodup_apart m _ lower x i (Memᴰ.head e))

    pub other-l : (x : ℕ) → x ∈ l → joined x ≡ s x
    other-l x i = changed-other s a _ x (λ e. (Nodup-cons.0 (Nodup.of_append_right m lower)).0 ∣ Memᴰ.cast (sym e) i ∣₁)

    pub good-b : Good s (b ∷ (m ++ (a ∷ l)))
    good-b = good_tail s r _ good

    pub good-a : Good s (a ∷ l)
    good-a = good_tail s m (a ∷ l) good-b.1

    pub covered-b : seen (s b) ⊆ seen (joined a)
    covered-b = rw (changed_same s a _) (⊆-++ (λ n j. rw (← append_assoc) (Memᴰ.append_left (s b).own (above n j))) (λ n j. Memᴰ.append_right (s a).inherited (Memᴰ.append_right (s a).own j)))

    -- up to m, nothing has to be known
    pub low : Good joined (m ++ (a ∷ l)) × Transfer s joined Any (m ++ (a ∷ l)) (m ++ (a ∷ l))
    low =
        let f = carry_grown s joined a l (s b).own (changed_same s a _) good-a (carry_left s joined l other-l good-a.1) in
        carry-all s joined Any tt (λ u v h q. tt) m f.1 good-b.1 f.0 (λ x i. untouched_any s joined x (other-m x i))

    -- b goes, and a is its covered
    pub over-b : Transfer s joined Q (b ∷ (m ++ (a ∷ l))) (m ++ (a ∷ l))
    over-b = record { under = under'; covered = covered'; known = known' }
      where
        under' : (w : List ℕ) → w ⊑ blocks s (m ++ (a ∷ l)) ++ (s b).own → Q w → w ⊑ blocks joined (m ++ (a ∷ l))
        under' w sub (inl h) = low.1.under w (skip_right _ _ sub h) tt
        under' w sub (inr h) =
            let p : w ⊑ blocks s (a ∷ l) ++ (s b).own = skip_mid (blocks s (a ∷ l)) (blocks s m) (s b).own (rw (blocks-append s m (a ∷ l)) at sub) h in
            let q : w ⊑ blocks s l ++ ((s a).own ++ (s b).own) = rw append_assoc at p in
            rw (blocks-append joined m (a ∷ l), blocks_same s joined l other-l, changed_same s a _) (Sublistᴰ.trans q (⊑-left _ (blocks joined m)))

        covered' : (h : ℕ) → h ∈ (b ∷ (m ++ (a ∷ l))) → (h' : ℕ) × (h' ∈ (m ++ (a ∷ l))) × (seen (s h) ⊆ seen (joined h'))
        covered' h (Memᴰ.head e) = (a, Memᴰ.append_right m (Memᴰ.head refl), rw e covered-b)
        covered' h (Memᴰ.tail i) = low.1.covered h i

        known' : (h : ℕ) → h ∈ (b ∷ (m ++ (a ∷ l))) → Q (seen (s h))
        known' h (Memᴰ.head e) = rw e (inr (apart-++ (λ n j. apart-m n (⊑-⊆ (good_seen s (a ∷ l) good-a a (Memᴰ.head refl)) n (above n j))) (λ n j k. apart-b n (Memᴰ.append_right (blocks s (a ∷ l)) k) j)))
        known' h (Memᴰ.tail i) = inl (λ n j. apart-b n (rw (blocks-append s m (a ∷ l)) at (⊑-⊆ (good_seen s (m ++ (a ∷ l)) good-b.1 h i) n j)))

    neutral : (x : ℕ) → x ∈ r → (w : List ℕ) → Q w → Q (w ++ (s x).own)
    neutral x i w (inl h) = inl (apart-++ h (λ n j k. apart-r n (Memᴰ.append_right (blocks s (a ∷ l) ++ blocks s m) k) (block_in s x r i n j)))
    neutral x i w (inr h) = inr (apart-++ h (λ n j k. apart-r n (Memᴰ.append_left (s b).own (Memᴰ.append_right (blocks s (a ∷ l)) k)) (block_in s x r i n j)))

    pub join-good : Good joined (r ++ (m ++ (a ∷ l)))
    join-good = (carry-all s joined Q Q-nil Q-less r over-b good low.0 (λ x i. record { same = other-r x i; neutral = neutral x i })).0
