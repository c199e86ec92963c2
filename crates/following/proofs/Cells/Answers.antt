-- Cells that stand for the day's machine answer as the day does.
use Prim.Native.Nat.{◌<◌, ℕ}
use mathlib.Core.Bool.{not-not, ◌&&◌, ◌||◌, false, false≢true, not, true}
use mathlib.Core.Path.{◌∙◌, ◌≡◌, ap, refl, sym}
use mathlib.Core.Option.{Option, none, some}
use native.Mathlib.Omega.{arith}
use lib.Dec.{eqb, ltb}
use lib.ListN.{length}
use borrow.Author.Tests.{eq-eqb, eqb-false, eqb-true, lt-ltb, ltb-true, ne_eqb, not-false}
use Rattle.lists.specs.Lists.{◌∈◌}
use Rattle.lists.proofs.Cases.{and-true, cases, cond_all}
use Rattle.lists.proofs.Names.{same-name, same_self}
use Rattle.lists.proofs.Sums.{any_same}
use Rattle.diagram.specs.Sizes.{client_limit, revision_limit, update_limit}
use Rattle.diagram.specs.Day.{is_given, is_named, mark_named, Day, IsOut, number_of, out_count}
use Rattle.diagram.proofs.Days.Found.{found, found-means, given-found}
use Rattle.diagram.specs.Day as Days
use Rattle.diagram.specs.Checks as Day
use Rattle.machine.specs.Machine.{Follows, Machine, revision_of}
use Rattle.diagram.proofs.Days.Moves.{joinable, mark_apart}
use Rattle.diagram.proofs.Days.Marking.{in_use, is-marked, named-is}
use Rattle.diagram.proofs.Days.Naming.{meant-low, meant-number, numbers_apart}
use Rattle.cells.specs.Sizes.{clients, closed, main, revisions, state_joined, state_marked, state_never, state_out}
use Rattle.cells.specs.Cells.{Cells, next_number}
use Rattle.cells.specs.Checks as Asked
use Rattle.cells.proofs.Bearer.{no-bearer, only-bearer}
use Rattle.following.specs.Follow.{CellsFollow}
use Rattle.diagram.specs.Checks.{is_some}
use Rattle.lists.specs.Names.{Name, four_letters, same_name}
use Rattle.following.proofs.Cells.Laid.{Laid, same_number}
use Rattle.following.proofs.Cells.Ordered.{order_is, shown-few}
use Rattle.following.proofs.Cells.Represents.{Represents, count-is, given-few, number_is, open_cell, state_cell}

module _ (y : Day) (m : Machine) (k : Cells) (D : Follows y m) (L : Laid y m) (h : Represents y m k) where
  -- a number that is given out
  low : (n r : ℕ) → found y n ≡ some r → n < revisions
  low n r e = let a = L.named.low r (meant-low y n r e) in let b = h.given_is in let c = given-few y m k h L in let q = meant-number y n r e in omega arith

  -- a revision out has a number exactly if the number means it
  means-test : (x n r : ℕ) → IsOut y x → found y n ≡ some r → eqb (number_of y x) n ≡ eqb x r
  means-test x n r o e =
      cases (eqb x r)
      (λ q. eq-eqb (number_of y x) n (ap (number_of y) (eqb-true x r q) ∙ meant-number y n r e) ∙ sym q)
      (λ q. ne_eqb (number_of y x) n (λ z. let a : found y n ≡ some x = rw (← z) (L.named.means x o) in eqb-false x r q (cc)) ∙ sym q)

  opened_is : (c : ℕ) → c < clients → k.opened c ≡ open_cell (number_of y) (revision_of y.transaction (y.open_by c))
  opened_is c l = h.opened_is c l ∙ ap (open_cell (number_of y)) (D.same_open_on c)

  open_out : (c t : ℕ) → y.open_by c ≡ some t → IsOut y (y.transaction t).revision
  open_out c t e = L.out _ (L.open_out c (y.transaction t).revision (D.same_open_on c ∙ ap (revision_of y.transaction) e))

  open-low : (c t : ℕ) → y.open_by c ≡ some t → number_of y (y.transaction t).revision < revisions
  open-low c t e = low _ _ (L.named.means _ (open_out c t e))

  is-on : (c n r : ℕ) → c < clients → found y n ≡ some r → eqb (k.opened c) n ≡ Day.is_on y (y.open_by c) r
  is-on c n r l g = rw (opened_is c l) (by (y.open_by c) refl)
    where
      by : (q : Option ℕ) → y.open_by c ≡ q → eqb (open_cell (number_of y) (revision_of y.transaction q)) n ≡ Day.is_on y q r
      by none e = let b = low n r g in ne_eqb closed n (λ z. omega arith)
      by (some t) e = means-test (y.transaction t).revision n r (open_out c t e) g

  elsewhere : (c n r : ℕ) → c < clients → found y n ≡ some r → Asked.open_elsewhere k c n ≡ (is_some (y.open_by c) && not (Day.is_on y (y.open_by c) r))
  elsewhere c n r l g = rw (opened_is c l) (by (y.open_by c) refl)
    where
      by : (q : Option ℕ) → y.open_by c ≡ q
          → (not (eqb (open_cell (number_of y) (revision_of y.transaction q)) closed) && not (eqb (open_cell (number_of y) (revision_of y.transaction q)) n)) ≡ (is_some q && not (Day.is_on y q r))
      by none e = refl
      by (some t) e = let b = open-low c t e in rw (ne_eqb (number_of y (y.transaction t).revision) closed (λ z. omega arith), means-test (y.transaction t).revision n r (open_out c t e) g)

  -- whatever state a number has that means a revision
  state-test : (P : ℕ → Type 0) (r : ℕ) → P state_joined → P state_marked → P state_out → P (state_cell y.joined y.mark (some r))
  state-test P r a b c = cond_all P (y.joined r) state_joined _ a (cond_all P (is_some (y.mark r)) state_marked state_out b c)

  given_out : (n : ℕ) → Asked.given_out k n ≡ is_given y n
  given_out n = rw (h.state_is n, given-found y n) (by (found y n) refl)
    where
      by : (q : Option ℕ) → found y n ≡ q → (ltb n revisions && not (eqb (state_cell y.joined y.mark q) state_never)) ≡ is_some q
      by none e = cases (ltb n revisions) (λ q. rw q) (λ q. rw q)
      by (some r) e = rw (lt-ltb n revisions (low n r e)) (state-test (λ v. not (eqb v state_never) ≡ true) r refl refl refl)

  joined_is : (n r : ℕ) → found y n ≡ some r → Asked.joined k n ≡ y.joined r
  joined_is n r e = rw (h.state_is n, e) (cases (y.joined r) (λ q. rw q) (λ q. rw q (cases (is_some (y.mark r)) (λ t. rw t) (λ t. rw t))))

  -- a mark is out
  marked-is : (n r : ℕ) → found y n ≡ some r → Asked.is_mark k n ≡ Day.marked y r
  unfolding Day.marked
  marked-is n r e =
      rw (h.state_is n, e)
      (cases (y.joined r)
      (λ q. rw q (cases (is_some (y.mark r)) (λ t. absurd (false≢true (sym (L.marks.out r t).1 ∙ q))) (λ t. sym t)))
      (λ q. rw q (cases (is_some (y.mark r)) (λ t. rw t) (λ t. rw t))))

  -- the number of a mark bears its name, and no other number does
  module _ (w : Name) where
    mark-bears : (r : ℕ) → y.mark r ≡ some w → Asked.bears k w (number_of y r) ≡ true
    mark-bears r e =
        let m = is-marked y r w e in
        rw (marked-is (number_of y r) r (L.named.means r (L.marks.out r m)), m, h.name_is r w e) (same_self w)

    bears-mark : (n : ℕ) → Asked.bears k w n ≡ true → (r : ℕ) × (found y n ≡ some r) × (y.mark r ≡ some w)
    unfolding Day.marked
    bears-mark n t = by (found y n) refl
      where
        both : (Asked.is_mark k n ≡ true) × (same_name (k.name n) w ≡ true)
        both = and-true (Asked.is_mark k n) (same_name (k.name n) w) t

        named-so : (r : ℕ) → number_of y r ≡ n → (o : Option Name) → y.mark r ≡ o → is_some o ≡ true → o ≡ some w
        named-so r z none q g = absurd (false≢true g)
        named-so r z (some v) q g = ap some (sym (rw z at (h.name_is r v q)) ∙ same-name (k.name n) w both.1)

        by : (q : Option ℕ) → found y n ≡ q → (r : ℕ) × (found y n ≡ some r) × (y.mark r ≡ some w)
        by none e = absurd (false≢true (sym (ap (λ v. eqb v state_marked) (h.state_is n ∙ ap (state_cell y.joined y.mark) e)) ∙ both.0))
        by (some r) e = (r, e, named-so r (meant-number y n r e) (y.mark r) refl (sym (marked-is n r e) ∙ both.0))

    -- where the name is in use
    module _ (u : is_named y w ≡ true) where
      abbrev r : ℕ
      r = mark_named y w

      named-so : y.mark r ≡ some w
      named-so = named-is y w u

      out : IsOut y r
      out = L.marks.out r (is-marked y r w named-so)

      -- the main revision is no mark
      positive : 0 < number_of y r
      positive =
          let other : number_of y r ≡ main → ⊥ = λ e.
          let z = numbers_apart y L.named r main out (L.out main h.main_out) (e ∙ sym h.main_number) in
          mark_apart y main r L.main_unmarked (is-marked y r w named-so) z in
          omega arith

      bearer-is : Asked.bearer k w ≡ number_of y r
      bearer-is =
          let l = low (number_of y r) r (L.named.means r out) in
          only-bearer k w 63 (number_of y r) positive (omega arith) (mark-bears r named-so)
          (λ n p l t. let b = bears-mark n t in sym (meant-number y n b.0 b.1) ∙ ap (number_of y) (L.marks.apart b.0 r w b.2 named-so))

    no-mark : Asked.no_such_mark k w ≡ not (is_named y w)
    no-mark = cases (is_named y w)
        (λ u. rw (u, bearer-is u, lt-ltb (number_of y (mark_named y w)) revisions (low _ _ (L.named.means _ (out u)))))
        (λ u. rw (u, no-bearer k w 63 (λ n p l t. let b = bears-mark n t in false≢true (sym u ∙ in_use y L.marks w b.0 b.2))))

    bad-name : Asked.bad_name k w ≡ Day.bad_name y w
    unfolding Day.bad_name
    bad-name = ap (λ t. not (four_letters w) || not t) no-mark ∙ ap (λ t. not (four_letters w) || t) (not-not (is_named y w))

  joinable-is : (a b : ℕ) → IsOut y a → IsOut y b → Asked.joinable k (number_of y a) (number_of y b) ≡ not (Day.not_joinable y a b)
  joinable-is a b oa ob =
      let i = D.laid a oa in
      let j = D.laid b ob in
      rw (h.seen_is a b i j, D.same_joinable a b oa ob)
      (cases (Day.not_joinable y a b)
      (λ e. rw e (cases (not (eqb (number_of y b) main) && not (eqb (number_of y a) (number_of y b))) (λ q. rw q) (λ q. rw q)))
      (λ e. let p = joinable y a b e in rw (e, same_number y m L a b i j, ne_eqb a b (λ q. eqb-false b a p.1 (sym q)), main-test b j, p.0)))
    where
      main-test : (x : ℕ) → x ∈ m.layout → eqb (number_of y x) main ≡ eqb x main
      main-test x j = ap (eqb (number_of y x)) (sym h.main_number) ∙ same_number y m L x main j h.main_out

  left : Day.none_left y ≡ false → next_number k ≡ Days.next_number y
  unfolding Day.none_left Days.next_number
  left e = number_is y m k h L (ltb-true (out_count y) revision_limit (not-false _ e))

  pub answers : CellsFollow y k
  unfolding client_limit update_limit revision_limit Day.unknown_client Day.open_elsewhere Day.busy_by_other Day.busy Day.log_full Day.none_left
  answers = record {
    same_order = λ r o. order_is y m k h L r (D.laid r o) ∙ D.same_shown r o;
    whole_order = λ r o. rw (D.same_shown r o) at (shown-few y m k h L r (D.laid r o));
    same_own = λ r o. h.own_is r (D.laid r o) ∙ D.same_own r o;
    same_client = λ c. sym (not-not (ltb c clients));
    same_given = given_out;
    same_joined = λ n r e. joined_is n r ((found-means y n r).1 e);
    same_marked = λ n r e. marked-is n r ((found-means y n r).1 e);
    same_elsewhere = λ c n r l e. elsewhere c n r l ((found-means y n r).1 e);
    same_busy_by_other = λ c n r g. any_same clients _ _ (λ x l. ap (λ t. not (eqb x c) && t) (is-on x n r l ((found-means y n r).1 g)));
    same_busy = λ n r g. any_same clients _ _ (λ x l. is-on x n r l ((found-means y n r).1 g));
    same_stale = λ c r l o. ap not (h.caught_is c r l (D.laid r o) ∙ D.same_caught_up c r o) ∙ not-not (Day.stale y c r);
    same_full = rw (h.updates_is, D.same_updates);
    same_left = rw h.out_is;
    same_seen = λ a b oa ob. h.seen_is a b (D.laid a oa) (D.laid b ob) ∙ D.same_joinable a b oa ob;
    same_joinable = joinable-is;
    same_bad_name = bad-name;
    same_no_mark = no-mark;
    same_bearer = λ w u. rw (bearer-is w u) ((found-means y _ _).0 (L.named.means (mark_named y w) (out w u)));
    same_updates = h.updates_is ∙ D.same_updates;
    same_number = left;
    same_gain = λ b o. count-is y m k h b (D.laid b o) ∙ ap length (D.same_own b o);
  }
