-- Each law of the table of codes once, over any row of checks: a call has code 0 exactly if none applies, a refusal is one of its row's, and rows
-- that find the same end the same.
use Prim.Native.Nat.{ℕ, ◌<◌}
use mathlib.Core.Bool.{Bool, true, false, cond, ◌&&◌, true≢false}
use mathlib.Core.Path.{◌≡◌, refl, sym, ◌∙◌, ap, subst}
use mathlib.Core.List.Memᴰ
use mathlib.Core.List.{List, [], ◌∷◌, ◌++◌}
use mathlib.Core.Logic.{◌↔◌}
use native.Mathlib.Omega.{arith}
use lib.Dec.{eqb, ltb}
use borrow.Author.Tests.{eqb-false, ltb-true}
use Rattle.lists.specs.Lists.{◌∈◌}
use Rattle.lists.specs.Arranged.{behind, member}
use Rattle.lists.proofs.Cases.{and-true, cases, either, or-false}
use Rattle.lists.proofs.Keep.{in_member, member_in}
use Rattle.desk.specs.Calls.{Call, Update, Query, Yield, Fork, Join, Sync, Mark, Drop, Bundle, Looks, Show, Fill, Preview, Verify, Bill}
use Rattle.desk.specs.Checks.{Check, Tests, ◌if◌, checks, settle}
use Rattle.desk.specs.Listed.{codes_for}

-- no check of a row applies
infixr 60 ◌also◌
pub data Passed : List Check → Type 0 where
  none : Passed []
  ◌also◌ : {k : Check} {ks : List Check} → k.applies ≡ false → Passed ks → Passed (k ∷ ks)

pub passed_both : {ks js : List Check} → Passed ks → Passed js → Passed (ks ++ js)
passed_both none Q = Q
passed_both (e also P) Q = e also passed_both P Q

pub passed_first : (ks js : List Check) → Passed (ks ++ js) → Passed ks
passed_first [] js P = none
passed_first (k ∷ ks) js (e also P) = e also passed_first ks js P

-- the numbers of a row
abbrev pub numbers_of : List Check → List ℕ
numbers_of [] = []
numbers_of (k ∷ ks) = k.code ∷ numbers_of ks

-- how a row ends: refused with one of its numbers, or none applies
pub data Settled {A : Type 0} (ks : List Check) (refusal : ℕ → A) (end : A) : A → Type 0 where
  stops : (k : ℕ) → k ∈ numbers_of ks → Settled ks refusal end (refusal k)
  goes : Passed ks → Settled ks refusal end end

module _ {A : Type 0} (refusal : ℕ → A) (end : A) where
  after_first : (k : Check) (ks : List Check) → k.applies ≡ false → {a : A} → Settled ks refusal end a → Settled (k ∷ ks) refusal end a
  after_first k ks e (stops i m) = stops i (Memᴰ.tail m)
  after_first k ks e (goes P) = goes (e also P)

  by_first : (k : Check) (ks : List Check) (b : Bool) → k.applies ≡ b → Settled ks refusal end (settle ks refusal end) → Settled (k ∷ ks) refusal end (cond b (refusal k.code) (settle ks refusal end))
  by_first k ks true e S = stops k.code (Memᴰ.head refl)
  by_first k ks false e S = after_first k ks e S

  pub settled : (ks : List Check) → Settled ks refusal end (settle ks refusal end)
  settled [] = goes none
  settled (k ∷ ks) = by_first k ks k.applies refl (settled ks)

  -- where none applies the call goes on to its end
  pub goes_on : (ks : List Check) → Passed ks → settle ks refusal end ≡ end
  goes_on [] none = refl
  goes_on (k ∷ ks) (e also P) = rw e (goes_on ks P)

-- a code is given exactly if its check applies and none before it does, where the row has it once and the end has another
module _ {A : Type 0} (code_of : A → ℕ) (refusal : ℕ → A) (own : (k : ℕ) → code_of (refusal k) ≡ k) (end : A) (k : Check) (other : code_of end ≡ k.code → ⊥) where
  pub stops-after : (js : List Check) → member k.code (numbers_of js) ≡ false → code_of (settle js refusal end) ≡ k.code → ⊥
  stops-after js h e = by (settled refusal end js) e
    where
      by : {a : A} → Settled js refusal end a → code_of a ≡ k.code → ⊥
      by (stops i m) e = true≢false (sym (in_member k.code (numbers_of js) (subst (λ n. n ∈ numbers_of js) (sym (own i) ∙ e) m)) ∙ h)
      by (goes P) e = other e

  stops-by : (ks js : List Check) → member k.code (numbers_of ks) ≡ false → member k.code (numbers_of js) ≡ false
      → code_of (settle (ks ++ (k ∷ js)) refusal end) ≡ k.code → Passed ks × (k.applies ≡ true)
  stops-by [] js h g e = cases k.applies (λ a. (none, a)) (λ a. absurd (stops-after js g (rw a at e)))
  stops-by (j ∷ ks) js h g e =
      let o = or-false (eqb k.code j.code) (member k.code (numbers_of ks)) h in
      cases j.applies (λ a. absurd (eqb-false k.code j.code o.0 (sym (rw a at e) ∙ own j.code))) (λ a. let r = stops-by ks js o.1 g (rw a at e) in (a also r.0, r.1))

  stops-back : (ks js : List Check) → Passed ks → k.applies ≡ true → code_of (settle (ks ++ (k ∷ js)) refusal end) ≡ k.code
  stops-back [] js none a = rw a (own k.code)
  stops-back (j ∷ ks) js (e also P) a = rw e (stops-back ks js P a)

  pub code-exactly : (ks js : List Check) → member k.code (numbers_of ks) ≡ false → member k.code (numbers_of js) ≡ false
      → (code_of (settle (ks ++ (k ∷ js)) refusal end) ≡ k.code) ↔ (Passed ks × (k.applies ≡ true))
  code-exactly ks js h g = (stops-by ks js h g, λ r. stops-back ks js r.0 r.1)

-- the numbers of one call among those of another
abbrev pub among : List ℕ → List ℕ → Bool
among [] ms = true
among (n ∷ ns) ms = member n ms && among ns ms

pub among_in : (ns ms : List ℕ) → among ns ms ≡ true → (k : ℕ) → k ∈ ns → k ∈ ms
among_in [] ms h k i = absurd (Memᴰ.not-nil i)
among_in (n ∷ ns) ms h k i =
    let b = and-true (member n ms) (among ns ms) h in
    either (Memᴰ.cases_cons i) (λ e. subst (λ x. x ∈ ms) (sym e) (member_in n ms b.0)) (λ m. among_in ns ms b.1 k m)

-- 01: "The checks run in ascending number"; 02: 14, 19 and 21 right after 1, 15 and 16 after 4, 17 and 18 last. One order for all calls but a preview, whose 5
-- is last
abbrev pub order : List ℕ
order = 1 ∷ 14 ∷ 19 ∷ 21 ∷ 2 ∷ 3 ∷ 4 ∷ 15 ∷ 16 ∷ 5 ∷ 6 ∷ 7 ∷ 8 ∷ 9 ∷ 10 ∷ 11 ∷ 12 ∷ 17 ∷ 18 ∷ []

abbrev pub OtherThanPreview : Call ℕ → Type 0
OtherThanPreview c = (n m bib : ℕ) → c ≡ Looks (Preview n m bib) → ⊥

-- each once, and in the order of the second list
abbrev pub along : List ℕ → List ℕ → Bool
along [] os = true
along (n ∷ ns) os = member n os && along ns (behind n os)

abbrev later : List Check → Bool
later [] = true
later (k ∷ ks) = ltb 1 k.code && later ks

-- a row begins with 1, its other numbers are above 1, it runs in that order, and its numbers are those listed for the call, of a bundle besides those of its
-- updates
data Row (q : Tests) (c : Call ℕ) : List Check → Type 0 where
  begins : (ks : List Check) (more : List ℕ) → later ks ≡ true
      → among (1 ∷ numbers_of ks) (codes_for c) ≡ true → among (codes_for c) ((1 ∷ numbers_of ks) ++ more) ≡ true
      → (OtherThanPreview c → along (1 ∷ numbers_of ks) order ≡ true) → Row q c (1 if q.no_table ∷ ks)

rows : (q : Tests) (c : Call ℕ) → Row q c (checks q c)
unfolding behind
rows q (Update c n k bib v) = begins _ [] refl refl refl (λ o. refl)
rows q (Query c n bib) = begins _ [] refl refl refl (λ o. refl)
rows q (Yield c room) = begins _ [] refl refl refl (λ o. refl)
rows q (Fork n) = begins _ [] refl refl refl (λ o. refl)
rows q (Join n m room) = begins _ [] refl refl refl (λ o. refl)
rows q (Sync m room) = begins _ [] refl refl refl (λ o. refl)
rows q (Mark n name) = begins _ [] refl refl refl (λ o. refl)
rows q (Drop name) = begins _ [] refl refl refl (λ o. refl)
rows q (Bundle c n batch room) = begins _ (numbers_of (checks q (Update c n 0 0 0))) refl refl refl (λ o. refl)
rows q (Looks (Show n room)) = begins _ [] refl refl refl (λ o. refl)
rows q (Looks (Fill n)) = begins _ [] refl refl refl (λ o. refl)
rows q (Looks (Preview n m bib)) = begins _ [] refl refl refl (λ o. absurd (o n m bib refl))
rows q (Looks (Verify file)) = begins _ [] refl refl refl (λ o. refl)
rows q (Looks (Bill member)) = begins _ [] refl refl refl (λ o. refl)

ascends_by : (q : Tests) (c : Call ℕ) → OtherThanPreview c → {ks : List Check} → Row q c ks → along (numbers_of ks) order ≡ true
ascends_by q c o (begins ks more h a w p) = p o

pub ascends : (q : Tests) (c : Call ℕ) → OtherThanPreview c → along (numbers_of (checks q c)) order ≡ true
ascends q c o = ascends_by q c o (rows q c)

later_in : (ks : List Check) → later ks ≡ true → (k : ℕ) → k ∈ numbers_of ks → 1 < k
later_in [] h k i = absurd (Memᴰ.not-nil i)
later_in (j ∷ ks) h k i =
    let b = and-true (ltb 1 j.code) (later ks) h in
    either (Memᴰ.cases_cons i) (λ e. rw e (ltb-true 1 j.code b.0)) (λ m. later_in ks b.1 k m)

in_row : (q : Tests) (c : Call ℕ) {ks : List Check} → Row q c ks → (k : ℕ) → k ∈ numbers_of ks → (0 < k) × (k ∈ codes_for c)
in_row q c (begins ks more h a w p) k i =
    (either (Memᴰ.cases_cons i) (λ z. omega arith) (λ m. let b = later_in ks h k m in omega arith), among_in (1 ∷ numbers_of ks) (codes_for c) a k i)

pub in_list : (q : Tests) (c : Call ℕ) (k : ℕ) → k ∈ numbers_of (checks q c) → (0 < k) × (k ∈ codes_for c)
in_list q c k i = in_row q c (rows q c) k i

-- a row ends in its refusals' code, or in 0 exactly if none applies
module _ {A : Type 0} (code_of : A → ℕ) (refusal : ℕ → A) (own : (k : ℕ) → code_of (refusal k) ≡ k) (q : Tests) (c : Call ℕ) where
  pub record Took (end a : A) : Type 0 where
    pub passed : Passed (checks q c)
    pub is : a ≡ end

  took_by : {end a : A} → Settled (checks q c) refusal end a → code_of a ≡ 0 → Took end a
  took_by (stops k i) e = absurd (let p = in_list q c k i in let z = own k in omega (arith, p.0))
  took_by (goes P) e = record { passed = P; is = refl }

  pub took : (end : A) → code_of (settle (checks q c) refusal end) ≡ 0 → Took end (settle (checks q c) refusal end)
  took end e = took_by (settled refusal end (checks q c)) e

  pub exactly : (end : A) → code_of end ≡ 0 → (code_of (settle (checks q c) refusal end) ≡ 0) ↔ Passed (checks q c)
  exactly end z = (λ e. (took end e).passed, λ P. rw (goes_on refusal end (checks q c) P) z)

-- a refusal with a listed number: that number, and all else as a refusal has it
pub record Refused {A : Type 0} (code_of : A → ℕ) (refusal : ℕ → A) (listed : List ℕ) (a : A) : Type 0 where
  pub number : code_of a ∈ listed
  pub is : a ≡ refusal (code_of a)

module _ {A : Type 0} (code_of : A → ℕ) (refusal : ℕ → A) (own : (k : ℕ) → code_of (refusal k) ≡ k) where
  pub is-refusal : (listed : List ℕ) (k : ℕ) → k ∈ listed → Refused code_of refusal listed (refusal k)
  is-refusal listed k h = record { number = subst (λ n. n ∈ listed) (sym (own k)) h; is = ap refusal (sym (own k)) }

  refused-by : (q : Tests) (c : Call ℕ) (end : A) → (Passed (checks q c) → (code_of end ≡ 0 → ⊥) → Refused code_of refusal (codes_for c) end) → {a : A} → Settled (checks q c) refusal end a → (code_of a ≡ 0 → ⊥) → Refused code_of refusal (codes_for c) a
  refused-by q c end f (stops k i) n = is-refusal (codes_for c) k (in_list q c k i).1
  refused-by q c end f (goes P) n = f P n

  -- a call that is not taken is refused so, if its end is taken or refused so
  pub refused-only : (q : Tests) (c : Call ℕ) (end : A) → (Passed (checks q c) → (code_of end ≡ 0 → ⊥) → Refused code_of refusal (codes_for c) end)
      → (code_of (settle (checks q c) refusal end) ≡ 0 → ⊥) → Refused code_of refusal (codes_for c) (settle (checks q c) refusal end)
  refused-only q c end f = refused-by q c end f (settled refusal end (checks q c))

-- of a day, which always has its table, no row gives 1
pub data Ends {A : Type 0} (ks : List Check) (refusal : ℕ → A) (end : A) : A → Type 0 where
  no : (k : ℕ) → 1 < k → Ends ks refusal end (refusal k)
  yes : Passed ks → Ends ks refusal end end

ends_by : {A : Type 0} (refusal : ℕ → A) (end : A) (q : Tests) → q.no_table ≡ false
    → (c : Call ℕ) {ks : List Check} → Row q c ks → Ends ks refusal end (settle ks refusal end)
ends_by refusal end q e c (begins ks more h a w p) = rw e (by (settled refusal end ks))
  where
    by : {a : _} → Settled ks refusal end a → Ends (1 if false ∷ ks) refusal end a
    by (stops k i) = no k (later_in ks h k i)
    by (goes P) = yes (refl also P)

pub ends : {A : Type 0} (refusal : ℕ → A) (end : A) (q : Tests) → q.no_table ≡ false → (c : Call ℕ) → Ends (checks q c) refusal end (settle (checks q c) refusal end)
ends refusal end q e c = ends_by refusal end q e c (rows q c)

-- without a table every row gives 1
first_by : {A : Type 0} (refusal : ℕ → A) (end : A) (q : Tests) → q.no_table ≡ true
    → (c : Call ℕ) {ks : List Check} → Row q c ks → settle ks refusal end ≡ refusal 1
first_by refusal end q e c (begins ks more h a w p) = rw e

pub no_table_first : {A : Type 0} (refusal : ℕ → A) (end : A) (q : Tests) → q.no_table ≡ true → (c : Call ℕ) → settle (checks q c) refusal end ≡ refusal 1
no_table_first refusal end q e c = first_by refusal end q e c (rows q c)

-- two rows that find the same, each check asked only where those before it found nothing
pub data Agree : List Check → List Check → Type 0 where
  end : Agree [] []
  row : {k j : Check} {ks js : List Check} → k.code ≡ j.code → k.applies ≡ j.applies → (j.applies ≡ false → Agree ks js) → Agree (k ∷ ks) (j ∷ js)

pub agree_more : {ks js : List Check} → Agree ks js → (ls : List Check) (is : List Check) → (Passed js → Agree ls is) → Agree (ks ++ ls) (js ++ is)
agree_more end ls is f = f none
agree_more (row e a g) ls is f = row e a (λ h. agree_more (g h) ls is (λ P. f (h also P)))

-- they end the same, refused or taken
module _ {A B : Type 0} (Same : A → B → Type 0) (no : ℕ → A) (no' : ℕ → B) (refused : (k : ℕ) → Same (no k) (no' k)) (a : A) (b : B) where
  one : (x : Bool) (k j : ℕ) (c : A) (d : B) → k ≡ j → (x ≡ false → Same c d) → Same (cond x (no k) c) (cond x (no' j) d)
  one true k j c d e f = rw e (refused j)
  one false k j c d e f = f refl

  pub same_end : {ks js : List Check} → Agree ks js → (Passed js → Same a b) → Same (settle ks no a) (settle js no' b)
  same_end end f = f none
  same_end (row {k} {j} {ks} {js} e g h) f = rw g (one j.applies k.code j.code (settle ks no a) (settle js no' b) e (λ z. same_end (h z) (λ P. f (z also P))))
