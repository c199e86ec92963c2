-- A number that is used again starts clean.
use Prim.Native.Nat.{ℕ}
use mathlib.Core.Bool.{true, false≢true}
use mathlib.Core.Path.{◌≡◌, refl, ap}
use lib.Dec.{eqb}
use lib.ListN.{take}
use borrow.Author.Tests.{eq-eqb, eqb-false}
use Rattle.lists.specs.Lists.{changed}
use Rattle.lists.specs.Arranged.{insert_before}
use Rattle.lists.specs.Names.{Name}
use Rattle.lists.proofs.Cases.{cases}
use Rattle.cells.specs.Sizes.{main, revisions}
use Rattle.cells.specs.Cells.{Cells, chain, own, flagged}
use Rattle.cells.specs.Checks.{is_mark}
use Rattle.cells.specs.CellSteps.{fork_cells, fork_row, mark_cells}
use Rattle.cells.specs.Clean.{SameBut, ShowsSame, StartsClean}

-- changed to the same at c, and the same elsewhere
changed_alike : {A : Type 0} (f g : ℕ → A) (c : ℕ) (v w : A) → v ≡ w → ((r : ℕ) → (r ≡ c → ⊥) → f r ≡ g r) → (r : ℕ) → changed f c v r ≡ changed g c w r
changed_alike f g c v w e h r = cases (eqb r c) (λ t. rw t e) (λ t. rw t (h r (eqb-false r c t)))

module _ (c : ℕ) (k k' : Cells) (S : SameBut c k k') (p : ℕ) (np : p ≡ c → ⊥) (nm : main ≡ c → ⊥) where
  own-alike : (r : ℕ) → (r ≡ c → ⊥) → own k r ≡ own k' r
  own-alike r n = cc (S.link, S.last r n, S.count r n)

  flagged_alike : (r u : ℕ) → (r ≡ c → ⊥) → flagged k r u ≡ flagged k' r u
  flagged_alike r u n = cc (S.used r n, S.row r n)

  row-alike : (u : ℕ) → fork_row k p u ≡ fork_row k' p u
  row-alike u = cc (flagged_alike p u np, own-alike p np)

  new-own : (r : ℕ) → own (fork_cells k p c) r ≡ own (fork_cells k' p c) r
  unfolding chain
  new-own r = cases (eqb r c) (λ t. rw t) (λ t. rw t (own-alike r (eqb-false r c t)))

  new-flagged : (r u : ℕ) → flagged (fork_cells k p c) r u ≡ flagged (fork_cells k' p c) r u
  new-flagged r u = cases (eqb r c)
      (λ t. cases (eqb p main) (λ m. rw (m, t)) (λ m. rw (m, t) (row-alike u)))
      (λ t. cases (eqb p main) (λ m. rw (m, t) (flagged_alike r u (eqb-false r c t))) (λ m. rw (m, t) (flagged_alike r u (eqb-false r c t))))

  new-seen : (x y : ℕ) → (fork_cells k p c).seen x y ≡ (fork_cells k' p c).seen x y
  new-seen x y = cases (eqb y c)
      (λ t. rw t)
      (λ t. cases (eqb x c) (λ u. rw (t, u) (S.seen p y np (eqb-false y c t))) (λ u. rw (t, u) (S.seen x y (eqb-false x c u) (eqb-false y c t))))

  -- c, whose name may be left of an earlier bearer, is no mark
  new-name : (r : ℕ) → is_mark (fork_cells k p c) r ≡ true → k.name r ≡ k'.name r
  new-name r m = S.name r (λ e. false≢true (rw (eq-eqb r c e) at m))

  clean : ShowsSame (fork_cells k p c) (fork_cells k' p c)
  clean = record {
    state = changed_alike k.state k'.state c _ _ refl S.state;
    count = changed_alike k.count k'.count c 0 0 refl S.count;
    base = changed_alike k.base k'.base c _ _ (cc (S.count main nm, S.base p np)) S.base;
    own = new-own;
    inherited = new-flagged;
    seen = new-seen;
    caught = λ x. changed_alike (k.caught x) (k'.caught x) c _ _ (S.caught x p np) (S.caught x);
    layout = ap (λ l. take revisions (insert_before p c l)) S.layout;
    out = rw S.out;
    queue = cc (S.given, S.queue);
    opened = S.opened;
    updates = S.updates;
    given = rw S.given;
    name = new-name;
    single = S.single;
    settled = S.settled;
    started = rw S.started;
  }

  clean-mark : (n : Name) → ShowsSame (mark_cells k p c n) (mark_cells k' p c n)
  clean-mark n =
      let f = clean in
      record {
        state = changed_alike k.state k'.state c _ _ refl S.state;
        count = f.count;
        base = f.base;
        own = f.own;
        inherited = f.inherited;
        seen = f.seen;
        caught = f.caught;
        layout = f.layout;
        out = f.out;
        queue = f.queue;
        opened = f.opened;
        updates = f.updates;
        given = f.given;
        name = λ r m. changed_alike k.name k'.name c n n refl S.name r;
        single = f.single;
        settled = f.settled;
        started = S.started;
      }

pub starts_clean : StartsClean
starts_clean c k k' S p np nm = (clean c k k' S p np nm, clean-mark c k k' S p np nm)
