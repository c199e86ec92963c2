-- Tables of a function's values: their entries, and what a loop that fills one from the front has done at i. Tests over numbers.
use Prim.Native.Nat.{ℕ, zero, suc, ◌+◌, ◌<◌}
use mathlib.Core.Bool.{Bool, true}
use mathlib.Core.Path.{◌≡◌, refl, sym, ap, ◌∙◌}
use mathlib.Core.Logic.{◌⊎◌, inl, inr}
use mathlib.Core.List.{List, [], ◌∷◌, ◌++◌, append_assoc, append-nil}
use native.Mathlib.Nat.{add-suc, add-zero, not-suc-le-zero}
use native.Mathlib.Numerals.{add-one}
use native.Mathlib.Omega.{arith}
use lib.Dec.{eqb}
use lib.ListN.{length, set, take, drop, get_or, length-append, length-set, take-append-drop, get_or-append}
use lib.Seq.{drop-cons, length-take-le, set_at, take-suc-set, take_all, get_or_at, ext_get_or, get_or-set_same, get_or-set_other}
use borrow.Author.Tests.{eqb-true, eqb-false}
use Rattle.lists.specs.Lists.{changed}
use Rattle.lists.specs.Arranged.{replaced}
use Rattle.lists.proofs.Cases.{cases, and-true, either}
use Rattle.cells.specs.Tables.{tab, every}

pub tab-none : {A : Type 0} (f : ℕ → A) → [] ≡ tab f 0
unfolding tab
tab-none f = refl

pub tab-more : {A : Type 0} (f : ℕ → A) (z : List A) (i : ℕ) (v : A) → i < length z → take i z ≡ tab f i → v ≡ f i → take (i + 1) (set z i v) ≡ tab f (i + 1)
unfolding tab
tab-more f z i v h t e = rw (add-one, take-suc-set, t, e)

pub tab_done : {A : Type 0} (f : ℕ → A) (z : List A) (i : ℕ) → length z ≡ i → take i z ≡ tab f i → z ≡ tab f i
tab_done f z i e t = sym (take_all i z (omega arith)) ∙ t

pub length-tab : {A : Type 0} (f : ℕ → A) (n : ℕ) → length (tab f n) ≡ n
unfolding tab
length-tab f zero = refl
length-tab f (suc n) = rw (length-append, length-tab f n) (omega arith)

last_or : (i n : ℕ) → i < suc n → (i < n) ⊎ (i ≡ n)
last_or i n h = cases (eqb i n) (λ e. inr (eqb-true i n e)) (λ e. let d = eqb-false i n e in inl (omega arith))

pub get_or-tab : {A : Type 0} (f : ℕ → A) (n i : ℕ) (d : A) → i < n → get_or (tab f n) i d ≡ f i
unfolding tab
get_or-tab f zero i d h = absurd (not-suc-le-zero h)
get_or-tab f (suc n) i d h =
    either (last_or i n h)
    (λ l. get_or-append (tab f n) (f n ∷ []) d i (rw length-tab l) ∙ get_or-tab f n i d l)
    (λ e. rw e (get_or_at (tab f n) (f n) [] d n (length-tab f n)))

pub tab_same : {A : Type 0} (f g : ℕ → A) (n : ℕ) → ((i : ℕ) → i < n → f i ≡ g i) → tab f n ≡ tab g n
unfolding tab
tab_same f g zero h = refl
tab_same f g (suc n) h = rw (tab_same f g n (λ i l. h i (omega arith)), h n (omega arith))

-- a list by its elements
pub tab_of : {A : Type 0} (l : List A) (d : A) (n : ℕ) → length l ≡ n → l ≡ tab (λ i. get_or l i d) n
tab_of l d n h =
    let m = length-tab (λ i. get_or l i d) n in
    ext_get_or d l _ (omega arith) (λ i q. sym (get_or-tab (λ j. get_or l j d) n i d (omega arith)))

pub tab-append : {A : Type 0} (f : ℕ → A) (m n : ℕ) → tab f (m + n) ≡ tab f m ++ tab (λ i. f (m + i)) n
unfolding tab
tab-append f m zero = rw (add-zero, append-nil)
tab-append f m (suc n) = rw (add-suc, tab-append f m n) (append_assoc (tab f m) (tab (λ i. f (m + i)) n) (f (m + n) ∷ []))

pub set-tab : {A : Type 0} (f : ℕ → A) (n a : ℕ) (v : A) → a < n → set (tab f n) a v ≡ tab (changed f a v) n
set-tab f n a v h =
    let l = length-tab f n in
    let m = length-tab (changed f a v) n in
    let s = length-set (tab f n) a v in
    ext_get_or v _ _ (s ∙ l ∙ sym m)
    (λ i q. sym (get_or-tab (changed f a v) n i v (omega arith) ∙ sym (cases (eqb i a)
    (λ e. rw (e, eqb-true i a e) (get_or-set_same (tab f n) a v v (omega arith)))
    (λ e. rw e (get_or-set_other (tab f n) a i v v (eqb-false i a e) ∙ get_or-tab f n i v (omega arith))))))

-- a window of t filled from its front: k values stored from a on
abbrev pub filled : {A : Type 0} → List A → ℕ → (ℕ → A) → ℕ → List A
filled t a f k = replaced t a k (tab f k)

pub filled_none : {A : Type 0} (t : List A) (a : ℕ) (f : ℕ → A) → t ≡ filled t a f 0
unfolding tab
filled_none t a f = sym (rw add-zero (take-append-drop a t))

pub filled_more : {A : Type 0} (t : List A) (a : ℕ) (f : ℕ → A) (k : ℕ) (v : A) → a + k < length t → v ≡ f k → set (filled t a f k) (a + k) v ≡ filled t a f (k + 1)
unfolding tab
filled_more t a f k v h e =
    let l = length-take-le a t (omega arith) in
    let m = length-tab f k in
    let front = take a t ++ tab f k in
    let n : length front ≡ a + k = rw (length-append, l, m) in
    let next : a + (k + 1) ≡ suc (a + k) = omega arith in
    ap (λ z. set z (a + k) v) (sym (append_assoc (take a t) (tab f k) (drop (a + k) t)) ∙ ap (λ z. front ++ z) (drop-cons t (a + k) v h))
    ∙ set_at front (get_or t (a + k) v) (drop (suc (a + k)) t) v (a + k) n
    ∙ rw (next, add-one, e) (simp append_assoc)

-- one element changed
pub get_or-changed : {A : Type 0} (l : List A) (i : ℕ) (v d : A) (x : ℕ) → i < length l → get_or (set l i v) x d ≡ changed (λ y. get_or l y d) i v x
get_or-changed l i v d x h =
    cases (eqb x i)
    (λ e. rw (e, eqb-true x i e) (get_or-set_same l i v d h))
    (λ e. rw e (get_or-set_other l i x v d (eqb-false x i e)))

-- a test of every number
pub every_at : (f : ℕ → Bool) (n i : ℕ) → every f n ≡ true → i < n → f i ≡ true
unfolding every
every_at f zero i e h = absurd (not-suc-le-zero h)
every_at f (suc n) i e h =
    let both = and-true (every f n) (f n) e in
    either (last_or i n h) (λ l. every_at f n i both.0 l) (λ q. rw q both.1)

pub every_all : (f : ℕ → Bool) (n : ℕ) → ((i : ℕ) → i < n → f i ≡ true) → every f n ≡ true
unfolding every
every_all f zero h = refl
every_all f (suc n) h = rw (every_all f n (λ i l. h i (omega arith)), h n (omega arith))
