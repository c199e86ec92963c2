-- The numbers that revisions bear (02, U7): those of revisions out are apart, those handed in stand once in their order, and together they are the numbers given.
use Prim.Native.Nat.{◌+◌, ◌<◌, ◌≤◌, suc, zero, ℕ}
use mathlib.Core.Bool.{cond, false, false≢true, true}
use mathlib.Core.Path.{◌∙◌, ◌≡◌, ap, refl, sym}
use mathlib.Core.Option.{Option, none, some}
use mathlib.Core.List.Memᴰ
use mathlib.Core.List.{List, Nodup, [], ◌∷◌, Nodup-cons, Nodup-nil}
use native.Mathlib.Omega.{arith}
use lib.Dec.{eqb, ltb}
use lib.ListN.{length, length-append}
use borrow.Author.Tests.{eq-eqb, eqb-false, eqb-true, lt-ltb, ltb-false, ltb-true, ne_eqb}
use Rattle.lists.specs.Lists.{◌∈◌, changed}
use Rattle.lists.specs.Sums.{sum_below}
use Rattle.lists.specs.Names.{Name}
use Rattle.lists.proofs.Cases.{cases, either}
use Rattle.lists.proofs.Changed.{changed-other, changed_same}
use Rattle.lists.proofs.Sublists.{nodup_more}
use Rattle.lists.proofs.Sums.{sum-changed, sum_same}
use Rattle.diagram.specs.Sizes.{revision_limit}
use Rattle.diagram.specs.Numbering.{Numbering, handed_in, next, started}
use Rattle.diagram.specs.Diagram.{Diagram}
use Rattle.diagram.specs.Day.{Day, IsOut, fresh, number_of, out_count}
use Rattle.diagram.specs.Steps.{drop_at, fork_at, join_into, yield}
use Rattle.diagram.specs.Accepted.{not_given}
use Rattle.diagram.proofs.Days.Found.{found, searched}
use Rattle.diagram.proofs.Days.Moves.{CanDrop, CanFork, CanJoin, Moves, drops_of, enters, forked_out, forks_at, joined_out, joins_into, moved, yields}

-- the searched of the revisions below m that bore n
pub latest_bore : (of : ℕ → ℕ) (n m r : ℕ) → searched of n m ≡ some r → (r < m) × (of r ≡ n)
latest_bore of n zero r e = let z : ◌≡◌ {A = ℕ} 0 1 = cc in absurd (omega arith)
latest_bore of n (suc m) r e =
    cases (eqb (of m) n)
    (λ q. let s : some m ≡ some r = rw q at e in let z : m ≡ r = cc in (omega arith, ap of (sym z) ∙ eqb-true (of m) n q))
    (λ q. let k = latest_bore of n m r (rw q at e) in (omega (arith, k.0), k.1))

latest-kept : (of : ℕ → ℕ) (m v n k : ℕ) → k ≤ m → searched (changed of m v) n k ≡ searched of n k
latest-kept of m v n zero l = refl
latest-kept of m v n (suc k) l = rw (ne_eqb k m (λ e. omega arith), latest-kept of m v n k (omega arith))

pub latest_last : (of : ℕ → ℕ) (n m r s : ℕ) → searched of n m ≡ some s → r < m → of r ≡ n → r ≤ s
latest_last of n zero r s e l q = absurd (omega arith)
latest_last of n (suc m) r s e l q =
    cases (eqb (of m) n)
    (λ t. let a : some m ≡ some s = rw t at e in let z : m ≡ s = cc in omega arith)
    (λ t. let d : r ≡ m → ⊥ = λ z. eqb-false (of m) n t (ap of (sym z) ∙ q) in latest_last of n m r s (rw t at e) (omega arith) q)

-- what each number's searched meant counts for, summed over the numbers, is what the revisions count for, where an earlier meant counts for nothing
abbrev pub count_for : (ℕ → ℕ) → Option ℕ → ℕ
count_for f none = 0
count_for f (some r) = f r

none-counts : (g : ℕ) → sum_below g (λ n. 0) ≡ 0
none-counts zero = refl
none-counts (suc g) = let a = none-counts g in omega arith

pub sum-latest : (of f : ℕ → ℕ) (g m : ℕ) → ((r : ℕ) → r < m → of r < g) → ((s r : ℕ) → s < r → r < m → of s ≡ of r → f s ≡ 0) → sum_below g (λ n. count_for f (searched of n m)) ≡ sum_below m f
sum-latest of f g zero low early = none-counts g
sum-latest of f g (suc m) low early =
    let was = sum-latest of f g m (λ r l. low r (omega arith)) (λ s r k l. early s r k (omega arith)) in
    let moved = sum-changed g (of m) (λ n. count_for f (searched of n m)) (λ n. count_for f (searched of n (suc m))) (low m (omega arith)) (λ x l d. rw (ne_eqb (of m) x (λ q. d (sym q)))) in
    let new : count_for f (searched of (of m) (suc m)) ≡ f m = rw (eq-eqb (of m) (of m) refl) in
    let old = by (searched of (of m) m) refl in
    omega arith
  where
    by : (q : Option ℕ) → searched of (of m) m ≡ q → count_for f q ≡ 0
    by none e = refl
    by (some s) e = let b = latest_bore of (of m) m s e in early s m b.0 (omega arith) b.1

pub record Named (y : Day) : Type 0 where
  pub few : y.numbering.given ≤ revision_limit
  -- a number given out means a revision, and no other does; that of a revision out means it
  pub used : (n : ℕ) → n < y.numbering.given → (r : ℕ) × (found y n ≡ some r)
  pub low : (r : ℕ) → r < y.revisions → number_of y r < y.numbering.given
  pub means : (r : ℕ) → IsOut y r → found y (number_of y r) ≡ some r
  -- the numbers handed in: given out, each once, of no revision out
  pub freed_low : (n : ℕ) → n ∈ y.numbering.freed → n < y.numbering.given
  pub freed_once : Nodup y.numbering.freed
  pub freed_in : (n r : ℕ) → n ∈ y.numbering.freed → IsOut y r → number_of y r ≡ n → ⊥
  -- and every number whose meant is not out is among them
  pub freed_all : (n r : ℕ) → found y n ≡ some r → y.joined r ≡ true → n ∈ y.numbering.freed
  pub counted : out_count y + length y.numbering.freed ≡ y.numbering.given

-- what a number means
module _ (y : Day) where
  pub meant-low : (n r : ℕ) → found y n ≡ some r → r < y.revisions
  unfolding found
  meant-low n r e = (latest_bore y.numbering.of n y.revisions r e).0

  pub meant-number : (n r : ℕ) → found y n ≡ some r → number_of y r ≡ n
  unfolding found
  meant-number n r e = (latest_bore y.numbering.of n y.revisions r e).1

  pub meant-given : (n r : ℕ) → found y n ≡ some r → not_given y r ≡ false
  meant-given n r e = rw (lt-ltb r y.revisions (meant-low n r e))

  -- no two revisions out bear one number
  pub numbers_apart : Named y → (r s : ℕ) → IsOut y r → IsOut y s → number_of y r ≡ number_of y s → r ≡ s
  numbers_apart N r s o p e = let a = N.means r o in let b : found y (number_of y r) ≡ some s = rw e (N.means s p) in cc

  -- an earlier meant of a revision's number is not out
  pub earlier_in : Named y → (s r : ℕ) → s < r → r < y.revisions → number_of y s ≡ number_of y r → y.joined s ≡ true
  unfolding found
  earlier_in N s r k l e =
      cases (y.joined s) (λ q. q) (λ q.
      absurd (let a = latest_last y.numbering.of (number_of y s) y.revisions r s (N.means s (omega arith, q)) l (sym e) in omega arith))

  -- a number that was not given out means nothing
  pub not-meant : Named y → (n : ℕ) → y.numbering.given ≤ n → found y n ≡ none
  not-meant N n l = by (found y n) refl
    where
      by : (q : Option ℕ) → found y n ≡ q → q ≡ none
      by none e = refl
      by (some r) e = absurd (let a = N.low r (meant-low n r e) in let b = meant-number n r e in omega arith)

limit_some : 0 < revision_limit
unfolding revision_limit
limit_some = omega arith

pub named-fresh : Named fresh
unfolding found
named-fresh = record {
  few = limit_some;
  used = λ n l. let z : n ≡ 0 = omega arith in (0, rw z);
  low = λ r l. omega arith;
  means = λ r o. let l = o.0 in let z : r ≡ 0 = omega arith in rw z;
  freed_low = λ n i. absurd (Memᴰ.not-nil i);
  freed_once = Nodup-nil;
  freed_in = λ n r i. absurd (Memᴰ.not-nil i);
  freed_all = λ n r e j. absurd (false≢true j);
  counted = refl;
}

-- a day on which b is handed in or dropped
abbrev hands_in : Day → ℕ → Diagram → (ℕ → ℕ) → (ℕ → Option Name) → Day
hands_in y b d terminal mark = moved y d y.revisions y.start_of y.fork_of terminal (changed y.joined b true) (handed_in y.numbering b) mark

-- what a fork needs of the number that it gives
record Gives (y : Day) (n : ℕ) (N : Numbering) : Type 0 where
  apart : (r : ℕ) → IsOut y r → number_of y r ≡ n → ⊥
  low : n < N.given
  more : y.numbering.given ≤ N.given
  few : N.given ≤ revision_limit
  old : (m : ℕ) → m < N.given → (m ≡ n → ⊥) → m < y.numbering.given
  still : (m : ℕ) → m ∈ N.freed → (m ∈ y.numbering.freed) × (m ≡ n → ⊥)
  kept : (m : ℕ) → m ∈ y.numbering.freed → (m ≡ n → ⊥) → m ∈ N.freed
  once : Nodup N.freed
  counted : suc (out_count y) + length N.freed ≡ N.given

module _ (y : Day) (N : Named y) where
  abbrev R : ℕ
  R = y.revisions

  abbrev f : ℕ → ℕ
  f r = cond (y.joined r) 0 1

  module _ (r : ℕ) (name : Option Name) (C : CanFork y r name) where
    never_used : ltb y.numbering.given revision_limit ≡ true → Gives y (next y.numbering) (started y.numbering R)
    never_used e =
        let l = ltb-true y.numbering.given revision_limit e in
        rw e
        (record {
          apart = λ s o q. let k = N.low s o.0 in omega arith;
          low = omega arith;
          more = omega arith;
          few = l;
          old = λ m k d. omega arith;
          still = λ m i. (i, λ q. let k = N.freed_low m i in omega arith);
          kept = λ m i d. i;
          once = N.freed_once;
          counted = let k = N.counted in omega arith;
        })

    longest_ago : (l : List ℕ) → y.numbering.freed ≡ l → ltb y.numbering.given revision_limit ≡ false → Gives y (next y.numbering) (started y.numbering R)
    longest_ago [] q e = let k = N.counted in let g = ltb-false y.numbering.given revision_limit e in let z : length y.numbering.freed ≡ 0 = rw q in let o = C.room in absurd (omega arith)
    longest_ago (x ∷ l) q e =
        let once : Nodup (x ∷ l) = rw q at N.freed_once in
        let in-x : x ∈ y.numbering.freed = rw q (Memᴰ.head refl) in
        rw (e, q)
        (record {
          apart = λ s o p. N.freed_in x s in-x o p;
          low = N.freed_low x in-x;
          more = omega arith;
          few = N.few;
          old = λ m k d. k;
          still = λ m i. (Memᴰ.tail i, λ p. (Nodup-cons.0 once).0 ∣ rw p at i ∣₁);
          kept = λ m i d. either (Memᴰ.cases_cons i) (λ e. absurd (d e)) (λ j. j);
          once = (Nodup-cons.0 once).1;
          counted = let k = N.counted in let z : length y.numbering.freed ≡ suc (length l) = rw q in omega arith;
        })

    gives : Gives y (next y.numbering) (started y.numbering R)
    gives = cases (ltb y.numbering.given revision_limit) never_used (longest_ago y.numbering.freed refl)

    -- no revision out bears the number that a fork gives
    pub next-apart : (s : ℕ) → IsOut y s → number_of y s ≡ next y.numbering → ⊥
    next-apart = gives.apart

    pub next-given : next y.numbering < revision_limit
    next-given = let a = gives.low in let b = gives.few in omega arith

    -- the number of the new revision, and of the others
    pub number_new : number_of (fork_at y r name) R ≡ next y.numbering
    number_new = changed_same y.numbering.of R (next y.numbering)

    pub number-old : (s : ℕ) → s < R → number_of (fork_at y r name) s ≡ number_of y s
    number-old s l = changed-other y.numbering.of R (next y.numbering) s (λ e. omega arith)

    -- the number given means the new revision, the others mean what they did
    pub meant-new : found (fork_at y r name) (next y.numbering) ≡ some R
    unfolding found
    meant-new = rw (number_new, eq-eqb (next y.numbering) (next y.numbering) refl)

    pub meant-old : (n : ℕ) → (n ≡ next y.numbering → ⊥) → found (fork_at y r name) n ≡ found y n
    unfolding found
    meant-old n d = rw (number_new, ne_eqb (next y.numbering) n (λ e. d (sym e))) (latest-kept y.numbering.of R (next y.numbering) n R (omega arith))

    pub fork-count : out_count (fork_at y r name) ≡ suc (out_count y)
    fork-count =
        let s = sum_same R (λ x. cond ((fork_at y r name).joined x) 0 1) f (λ x l. rw (ne_eqb x R (λ e. omega arith))) in
        rw (eq-eqb R R refl) (omega arith)

    new-out : (n s : ℕ) → n ≡ next y.numbering → found (fork_at y r name) n ≡ some s → (fork_at y r name).joined s ≡ false
    new-out n s q e =
        let a : found (fork_at y r name) n ≡ some R = rw q meant-new in
        let z : s ≡ R = cc in
        rw (eq-eqb s R z)

    named-fork : Named (fork_at y r name)
    named-fork = record {
      few = gives.few;
      used = λ n l. cases (eqb n (next y.numbering))
          (λ e. (R, rw (eqb-true n (next y.numbering) e) meant-new))
          (λ e. let d = eqb-false n (next y.numbering) e in let u = N.used n (gives.old n l d) in (u.0, meant-old n d ∙ u.1));
      low = λ s l. cases (eqb s R)
          (λ e. rw e gives.low)
          (λ e. let d = eqb-false s R e in let k = N.low s (omega arith) in let m = gives.more in rw e (omega arith));
      means = λ s o. cases (eqb s R)
          (λ e. rw (eqb-true s R e, number_new) meant-new)
          (λ e. let was = forked_out y r name s o e in rw (number-old s was.0) (meant-old (number_of y s) (gives.apart s was) ∙ N.means s was));
      freed_low = λ n i. let k = N.freed_low n (gives.still n i).0 in let m = gives.more in omega arith;
      freed_once = gives.once;
      freed_in = λ n s i o q. cases (eqb s R)
          (λ e. (gives.still n i).1 (sym q ∙ ap (number_of (fork_at y r name)) (eqb-true s R e) ∙ number_new))
          (λ e. let was = forked_out y r name s o e in N.freed_in n s (gives.still n i).0 was (sym (number-old s was.0) ∙ q));
      freed_all = λ n s e j. cases (eqb n (next y.numbering))
          (λ q. absurd (false≢true (sym (new-out n s (eqb-true n (next y.numbering) q) e) ∙ j)))
          (λ q. let d = eqb-false n (next y.numbering) q in let m : found y n ≡ some s = sym (meant-old n d) ∙ e in
          gives.kept n (N.freed_all n s m (sym (changed-other y.joined R false s (λ z. let l = meant-low y n s m in omega arith)) ∙ j)) d);
      counted = rw fork-count gives.counted;
    }

  -- b, which is out, is handed in or dropped
  module _ (b : ℕ) (o : IsOut y b) (d : Diagram) (terminal : ℕ → ℕ) (mark : ℕ → Option Name) where
    abbrev z : Day
    z = hands_in y b d terminal mark

    count-in : suc (out_count z) ≡ out_count y
    count-in =
        let s = sum-changed R b f (λ x. cond (z.joined x) 0 1) o.0 (λ x l d. rw (ne_eqb x b d)) in
        let at_b : ◌≡◌ {A = ℕ} (cond (z.joined b) 0 1) 0 = rw (eq-eqb b b refl) in
        let was : f b ≡ 1 = rw o.1 in
        omega arith

    -- what is out was out, and is not b
    still : (s : ℕ) → IsOut z s → IsOut y s × (s ≡ b → ⊥)
    still s p = joined_out y b b s p

    named_in : Named z
    unfolding found
    named_in = record {
      few = N.few;
      used = N.used;
      low = N.low;
      means = λ s p. N.means s (still s p).0;
      freed_low = λ n i. either (Memᴰ.append_cases y.numbering.freed i) (N.freed_low n) (λ j. rw (Memᴰ.eq_of_singleton j) (N.low b o.0));
      freed_once = nodup_more y.numbering.freed (number_of y b) N.freed_once (λ i. N.freed_in (number_of y b) b i o refl);
      freed_in = λ n s i p q.
          let was = still s p in
          either (Memᴰ.append_cases y.numbering.freed i) (λ j. N.freed_in n s j was.0 q)
          (λ j. was.1 (numbers_apart y N s b was.0 o (q ∙ Memᴰ.eq_of_singleton j)));
      freed_all = λ n s e j. cases (eqb s b)
          (λ q. Memᴰ.append_right y.numbering.freed (Memᴰ.head (sym (meant-number y n s e) ∙ ap (number_of y) (eqb-true s b q))))
          (λ q. Memᴰ.append_left (number_of y b ∷ []) (N.freed_all n s e (rw q at j)));
      counted = let k = N.counted in let j = count-in in rw (length-append y.numbering.freed (number_of y b ∷ [])) (omega arith);
    }

  pub join-count : (a b : ℕ) → CanJoin y a b → suc (out_count (join_into y a b)) ≡ out_count y
  join-count a b H = count-in b H.out_b (join_into y a b).diagram (join_into y a b).terminal y.mark

  pub drop-count : (r : ℕ) → CanDrop y r → suc (out_count (drop_at y r)) ≡ out_count y
  drop-count r D = count-in r D.out y.diagram y.terminal (drop_at y r).mark

  pub named-moves : (z : Day) → Moves y z → Named z
  unfolding found
  named-moves z (enters c r u E) = record { few = N.few; used = N.used; low = N.low; means = N.means; freed_low = N.freed_low; freed_once = N.freed_once; freed_in = N.freed_in; freed_all = N.freed_all; counted = N.counted }
  named-moves z (yields c l) = by (y.open_by c)
    where
      by : (q : Option ℕ) → Named (yield y c q)
      by none = N
      by (some t) = record { few = N.few; used = N.used; low = N.low; means = N.means; freed_low = N.freed_low; freed_once = N.freed_once; freed_in = N.freed_in; freed_all = N.freed_all; counted = N.counted }
  named-moves z (forks_at r name C) = named-fork r name C
  named-moves z (joins_into a b H) = named_in b H.out_b _ _ _
  named-moves z (drops_of r D) = named_in r D.out _ _ _
