-- A verify says at the table what it says on the plain day: the numbers of the boxes out are those of the revisions out (02, U13).
use Prim.Native.Nat.{ℕ, ◌<◌}
use mathlib.Core.Bool.{true, false, cond, not}
use mathlib.Core.Path.{◌≡◌, refl, sym, ◌∙◌, ap, subst}
use mathlib.Core.Logic.{◌↔◌}
use mathlib.Core.List.{List, []}
use lib.Dec.{ltb}
use borrow.Author.Tests.{ltb-true, not-true}
use Rattle.lists.proofs.Cases.{and-true, same_truth}
use Rattle.orderfile.specs.File.{numbers_in}
use Rattle.orderfile.specs.Fits.{Fits}
use Rattle.orderfile.proofs.Exactly.{fits-exactly}
use Rattle.cells.specs.Sizes.{revisions}
use Rattle.cells.specs.Order.{order}
use Rattle.cells.specs.Checks.{given_out}
use Rattle.diagram.specs.Day.{Day, IsOut, Means, is_given, meant, number_of, shown_at}
use Rattle.diagram.proofs.Days.Naming.{meant-low}
use Rattle.diagram.proofs.Order.Reuse.{by_numbers}
use Rattle.desk.specs.Calls.{Looks, Verify}
use Rattle.desk.proofs.Checks.{same_end}
use Rattle.plain.specs.Record.{PlainDay}
use Rattle.plain.specs.Answers as Plain
use Rattle.plain.specs.Answers.{called, fits_day}
use Rattle.plain.proofs.Ends.{means}
use Rattle.plain.proofs.Orders.{fits-day}
use Rattle.table.specs.Halves.{cells_of}
use Rattle.table.specs.Calls.{fits_table, is_out, verdict, verify_out}
use Rattle.table.specs.Served.{plain_reply}
use Rattle.consistency.proofs.Table.Stands.{Stands, bytes-are, numbers-are}
use Rattle.consistency.proofs.Table.Rows.{agree}
use Rattle.consistency.proofs.Table.Calls.{Same, same_answer}

module _ (p : PlainDay) (t : List ℕ) (S : Stands p t) where
  abbrev y : Day
  y = p.day

  abbrev Borne : ℕ → Type 0
  Borne n = (n < revisions) × (is_out (cells_of t) n ≡ true)

  -- a number of a box out means a revision that is out, with the same list
  meaning : (n : ℕ) → Borne n → IsOut y (meant y n) × (order (cells_of t) n ≡ shown_at y (meant y n))
  meaning n (l, o) =
      let both = and-true (given_out (cells_of t) n) _ o in
      let given : is_given y n ≡ true = sym ((numbers-are p t S).same_given n) ∙ both.0 in
      let is = (numbers-are p t S).number n (meant y n) (given, refl) in
      let out : y.joined (meant y n) ≡ false = sym is.same_joined ∙ not-true _ both.1 in
      ((meant-low y n (meant y n) (means p n (ap not given)), out), (is.out out).same_order)

  -- and the number of a revision that is out is one of a box out
  bearing : (r : ℕ) → IsOut y r → Borne (number_of y r) × (order (cells_of t) (number_of y r) ≡ shown_at y r)
  bearing r o =
      let m : Means y (number_of y r) r = subst (λ y. IsOut y r → Means y (number_of y r) r) (sym S.day_is) ((by_numbers S.steps S.ok).out r) o in
      let is = (numbers-are p t S).number (number_of y r) r m in
      let given : given_out (cells_of t) (number_of y r) ≡ true = (numbers-are p t S).same_given (number_of y r) ∙ m.0 in
      ((ltb-true _ revisions (and-true (ltb (number_of y r) revisions) _ given).0, rw (given, is.same_joined ∙ o.1)), (is.out o.1).same_order)

  module _ (ns : List ℕ) where
    abbrev on-table : (fits_table (cells_of t) ns ≡ true) ↔ Fits (cells_of t).updates Borne (order (cells_of t)) ns
    on-table = fits-exactly (cells_of t).updates revisions (is_out (cells_of t)) (order (cells_of t)) ns

    taken : (cells_of t).updates ≡ y.updates
    taken = (bytes-are p t S).follow.same_updates

    pub same-fits : fits_table (cells_of t) ns ≡ fits_day y ns
    same-fits = same_truth (fits_table (cells_of t) ns) (fits_day y ns) (λ e. (fits-day y ns).1 (down (on-table.0 e))) (λ e. on-table.1 (up ((fits-day y ns).0 e)))
      where
        down : Fits (cells_of t).updates Borne (order (cells_of t)) ns → Fits y.updates (IsOut y) (shown_at y) ns
        down f = record {
          every = λ u l. f.every u (rw taken l);
          once = f.once;
          no_other = λ u i. rw taken at (f.no_other u i);
          in_order = λ r o. let b = bearing r o in rw b.1 at (f.in_order (number_of y r) b.0);
        }

        up : Fits y.updates (IsOut y) (shown_at y) ns → Fits (cells_of t).updates Borne (order (cells_of t)) ns
        up f = record {
          every = λ u l. f.every u (rw taken at l);
          once = f.once;
          no_other = λ u i. rw taken (f.no_other u i);
          in_order = λ n b. let m = meaning n b in rw m.1 (f.in_order (meant y n) m.0);
        }

  pub verify-same : (file : List ℕ) → Same [] (record { reply = plain_reply (verify_out t file); table = t; board = [] }) (called p (Looks (Verify file)))
  unfolding called verify_out
  verify-same file =
      same_end (λ a o. Same [] (record { reply = plain_reply a; table = t; board = [] }) o) (λ code. verdict code false) (Plain.refused p) (λ k. record { reply = refl; stands = S }) _ _ (agree p t S (Looks (Verify file)))
      (λ P. record { reply = same_answer 0 0 refl (ap (λ b. cond b 1 0) (same-fits (numbers_in file))) refl refl; stands = S })
