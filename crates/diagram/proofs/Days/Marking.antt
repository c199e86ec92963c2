-- Marks (02, U9): those that are out bear names of four letters, each its own, and a name means the mark that bears it.
use Prim.Native.Nat.{ℕ}
use mathlib.Core.Bool.{◌||◌, false, false≢true, not, true}
use mathlib.Core.Path.{◌∙◌, ◌≡◌, ap, refl, subst, sym}
use mathlib.Core.Logic.{◌⊎◌, ◌↔◌, inl, inr}
use mathlib.Core.Option.{Option, none, some}
use native.Mathlib.Omega.{arith}
use lib.Dec.{eqb}
use borrow.Author.Tests.{eqb-true, lt-ltb, not-false}
use Rattle.lists.proofs.Cases.{cases, or-false, split}
use Rattle.lists.proofs.Changed.{changed-other}
use Rattle.lists.proofs.Names.{same-name, same_self}
use Rattle.lists.proofs.Sums.{any_at, last_passes}
use Rattle.lists.specs.Names.{Name, four_letters}
use Rattle.diagram.specs.Names.{is_name}
use Rattle.diagram.specs.Checks.{is_some, bad_name, marked}
use Rattle.diagram.specs.Day.{Day, IsOut, fresh, is_named, mark_named}
use Rattle.diagram.specs.Steps.{Drop, drop_at, fork_at, yield}
use Rattle.diagram.specs.Accepted.{accepted}
use Rattle.diagram.specs.Marks.{NameMeans}
use Rattle.diagram.proofs.Days.Accepting.{accept-drop}
use Rattle.diagram.proofs.Days.Moves.{CanFork, Moves, drops_of, enters, forks_at, joins_into, mark_apart, yields}

is_name_lem : (o : Option Name) (n : Name) → is_name o n ≡ true → o ≡ some n
is_name_lem none n e = absurd (false≢true e)
is_name_lem (some m) n e = ap some (same-name m n e)

pub none≢name : {n : Name} → none ≡ some n → ⊥
none≢name e = false≢true (ap is_some e)

pub record Marks (y : Day) : Type 0 where
  pub out : (r : ℕ) → marked y r ≡ true → IsOut y r
  pub letters : (r : ℕ) (n : Name) → y.mark r ≡ some n → four_letters n ≡ true
  pub apart : (r s : ℕ) (n : Name) → y.mark r ≡ some n → y.mark s ≡ some n → r ≡ s

pub marks-fresh : Marks fresh
unfolding marked
marks-fresh = record {
  out = λ r e. absurd (false≢true e);
  letters = λ r n e. absurd (none≢name e);
  apart = λ r s n e. absurd (none≢name e);
}

module _ (y : Day) where
  -- a revision with a name is marked
  pub is-marked : (r : ℕ) (n : Name) → y.mark r ≡ some n → marked y r ≡ true
  unfolding marked
  is-marked r n e = rw e

  -- a name in use is that of the mark that it means
  pub named-is : (n : Name) → is_named y n ≡ true → y.mark (mark_named y n) ≡ some n
  unfolding is_named mark_named
  named-is n e = is_name_lem _ n (last_passes y.revisions (λ r. is_name (y.mark r) n) e).1

module _ (y : Day) (M : Marks y) where
  pub in_use : (n : Name) (r : ℕ) → y.mark r ≡ some n → is_named y n ≡ true
  unfolding is_named
  in_use n r e = any_at y.revisions (λ s. is_name (y.mark s) n) r (M.out r (is-marked y r n e)).0 (rw e (same_self n))

  pub name-means : (n : Name) (r : ℕ) → NameMeans y n r ↔ (y.mark r ≡ some n)
  name-means n r = (
    λ p. subst (λ s. y.mark s ≡ some n) p.1 (named-is y n p.0),
    λ e. let u = in_use n r e in (u, M.apart (mark_named y n) r n (named-is y n u) e),
  )

  -- "18 no such mark, for a drop" is its only refusal
  pub drop-accepts : (n : Name) → is_named y n ≡ true → accepted y (Drop (mark_named y n)) ≡ true
  drop-accepts n e =
      let m = is-marked y (mark_named y n) n (named-is y n e) in
      let o = M.out (mark_named y n) m in
      accept-drop y (mark_named y n) (rw (lt-ltb (mark_named y n) y.revisions o.0)) o.1 m

  module _ (r : ℕ) (name : Option Name) (C : CanFork y r name) where
    -- a mark's name is of four letters, and not in use
    pub fit : (n : Name) → name ≡ some n → (four_letters n ≡ true) × (is_named y n ≡ false)
    unfolding bad_name
    fit n e =
        let b : (not (four_letters n) || is_named y n) ≡ false = rw e at C.name_ok in
        let p = or-false (not (four_letters n)) _ b in
        (not-false _ p.0, p.1)

    unused : (n : Name) (s : ℕ) → name ≡ some n → y.mark s ≡ some n → ⊥
    unused n s e q = false≢true (sym (fit n e).1 ∙ in_use n s q)

    abbrev z : Day
    z = fork_at y r name

    marks-fork : Marks z
    unfolding marked
    marks-fork = record {
      out = λ s. cases (eqb s y.revisions)
          (λ e. rw e (λ q. (let k = eqb-true s y.revisions e in omega arith, refl)))
          (λ e. rw e (λ q. let o = M.out s q in (omega (arith, o.0), o.1)));
      letters = λ s n. cases (eqb s y.revisions) (λ e. rw e (λ q. (fit n q).0)) (λ e. rw e (M.letters s n));
      apart = λ s t n. both s t n (split (eqb s y.revisions)) (split (eqb t y.revisions));
    }
      where
        both : (s t : ℕ) (n : Name) → (eqb s y.revisions ≡ true) ⊎ (eqb s y.revisions ≡ false)
            → (eqb t y.revisions ≡ true) ⊎ (eqb t y.revisions ≡ false) → z.mark s ≡ some n → z.mark t ≡ some n → s ≡ t
        both s t n (inl e) (inl f) p q = eqb-true s y.revisions e ∙ sym (eqb-true t y.revisions f)
        both s t n (inl e) (inr f) p q = absurd (unused n t (rw e at p) (rw f at q))
        both s t n (inr e) (inl f) p q = absurd (unused n s (rw f at q) (rw e at p))
        both s t n (inr e) (inr f) p q = M.apart s t n (rw e at p) (rw f at q)

  pub marks-moves : (z : Day) → Moves y z → Marks z
  unfolding marked
  marks-moves z (enters c r u E) = record { out = M.out; letters = M.letters; apart = M.apart }
  marks-moves z (yields c l) = by (y.open_by c)
    where
      by : (q : Option ℕ) → Marks (yield y c q)
      by none = M
      by (some t) = record { out = M.out; letters = M.letters; apart = M.apart }
  marks-moves z (forks_at r name C) = marks-fork r name C
  marks-moves z (joins_into a b H) = record {
    out = λ s e. let o = M.out s e in (o.0, changed-other y.joined b true s (mark_apart y b s H.unmarked_b e) ∙ o.1);
    letters = M.letters;
    apart = M.apart;
  }
  marks-moves z (drops_of r D) = record {
    out = λ s. cases (eqb s r) (λ e. rw e (λ q. absurd (false≢true q))) (λ e. rw e (M.out s));
    letters = λ s n e. M.letters s n (was s n e);
    apart = λ s t n p q. M.apart s t n (was s n p) (was t n q);
  }
    where
      was : (s : ℕ) (n : Name) → (drop_at y r).mark s ≡ some n → y.mark s ≡ some n
      was s n = cases (eqb s r) (λ e. rw e (λ p. absurd (none≢name p))) (λ e. rw e (λ p. p))
