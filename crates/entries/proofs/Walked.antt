-- A walk back along some numbers: what is kept stands for all that was walked through.
use Prim.Native.Nat.{ℕ, zero, suc, ◌-◌, ◌<◌, ◌≤◌}
use mathlib.Core.Bool.{Bool, true, false, false≢true}
use mathlib.Core.Path.{◌≡◌, refl, sym, ap, ◌∙◌}
use mathlib.Core.List.{List, [], ◌∷◌, ◌++◌, append-nil}
use native.Mathlib.Numerals.{sub-one}
use native.Mathlib.Omega.{arith}
use lib.Dec.{eqb}
use lib.ListN.{length, drop, set, length-set}
use lib.Seq.{drop-cons, get_or-set_same, drop-set-lt}
use Rattle.lists.proofs.Cases.{cases}
use Rattle.updates.specs.Absolute.{absolute}
use Rattle.updates.specs.Applied.{applied, fresh_standing}
use Rattle.updates.specs.declared.standing.Standing.{Standing}
use Rattle.updates.proofs.Laws.{from_absolute}
use Rattle.entries.specs.declared.entry.Entry.{Entry}
use Rattle.std.specs.declared.ops.ControlFlow.{ControlFlow}
use Rattle.entries.specs.Folded.{of_bib, standing_of}
use Rattle.entries.specs.Walked.{StandsFor, Walked, is_done, kept_from}
use Rattle.entries.proofs.Folded.{applied_both}

-- one number more in front of those kept
pub put_front : (out : List ℕ) (p n : ℕ) → 0 < p → p ≤ length out → drop (p - 1) (set out (p - 1) n) ≡ n ∷ drop p out
put_front out zero n h g = absurd (omega arith)
put_front out (suc m) n h g =
    let l : m < length (set out m n) = simp length-set (omega arith) in
    rw (sub-one, drop-cons (set out m n) m 0 l, get_or-set_same out m n 0 (omega arith), drop-set-lt (suc m) out m n (omega arith))

module _ (entries : ℕ → Entry) (bib : ℕ) where
  -- a number of another bib is passed over
  pub passed : (n : ℕ) (ks : List ℕ) → eqb (entries n).bib bib ≡ false → StandsFor entries bib false [] ks (n ∷ ks)
  unfolding applied
  passed n ks e = record { same = λ x y s. rw (e, s refl) }

  -- one of the bib is kept; where its effect is absolute, the walk is done
  pub kept : (n : ℕ) (ks : List ℕ) (done : Bool) → eqb (entries n).bib bib ≡ true → done ≡ absolute (entries n).kind → StandsFor entries bib done [] (n ∷ ks) (n ∷ ks)
  unfolding applied
  kept n ks done e d =
      record {
        same = λ x y s.
            cases done
            (λ t. rw e (from_absolute [] (of_bib entries bib ks) (record { kind = (entries n).kind; v = (entries n).v }) x y (sym d ∙ t)))
            (λ f. rw (s f));
      }

  -- nothing is walked through yet
  pub stands-first : (ms ks : List ℕ) → StandsFor entries bib false ms ks (ms ++ ks)
  stands-first ms ks = record { same = λ x y s. ap (applied (of_bib entries bib ks)) (s refl) ∙ sym (applied_both entries bib ms ks y) }

  -- of those left some more are walked through
  pub stands_on : {done : Bool} {l ms ks ks' all : List ℕ} → StandsFor entries bib false ms ks all → StandsFor entries bib done l ks' (ms ++ ks) → StandsFor entries bib done l ks' all
  stands_on {ms = ms} {ks = ks} a b =
      record { same = λ x y s. b.same x y s ∙ applied_both entries bib ms ks y ∙ a.same (applied (of_bib entries bib ms) y) y (λ _. refl) }

  -- the last of those left, by a walk of their own
  pub stands-more : {done : Bool} (l ms : List ℕ) {ks ks' all : List ℕ} → StandsFor entries bib false (l ++ ms) ks all → StandsFor entries bib done [] ks' (ms ++ ks) → StandsFor entries bib done l ks' all
  unfolding applied
  stands-more l ms {ks = ks} a b =
      record {
        same = λ x y s.
            b.same x (applied (of_bib entries bib l) y) s
            ∙ applied_both entries bib ms ks (applied (of_bib entries bib l) y)
            ∙ ap (applied (of_bib entries bib ks)) (sym (applied_both entries bib l ms y))
            ∙ a.same (applied (of_bib entries bib (l ++ ms)) y) y (λ _. refl);
      }

  -- once the walk is done, those left do not count
  pub stands-done : {l ks all : List ℕ} (m : List ℕ) → StandsFor entries bib true l ks all → StandsFor entries bib true m ks all
  stands-done m a = record { same = λ x y s. a.same x y (λ f. absurd (false≢true (sym f))) }

  -- a walk through all numbers, the last ones first: it is done there, or goes on through those before them
  module _ (ls ns before mid after : List ℕ) (n m from : ℕ) (k l : ControlFlow ℕ ℕ) (none : drop from before ≡ []) (a : Walked entries bib n ns before from mid k) where
    all-walked : (x : Standing) → (is_done k ≡ false → x ≡ applied (of_bib entries bib ls) fresh_standing) → applied (of_bib entries bib (drop (kept_from k) mid)) x ≡ standing_of entries bib (ls ++ ns)
    unfolding applied
    all-walked x s =
        a.stands.same x (applied (of_bib entries bib ls) fresh_standing) s
        ∙ ap (λ l. applied (of_bib entries bib (ns ++ l)) (applied (of_bib entries bib ls) fresh_standing)) none
        ∙ ap (λ l. applied (of_bib entries bib l) (applied (of_bib entries bib ls) fresh_standing)) (append-nil ns)
        ∙ sym (applied_both entries bib ls ns fresh_standing)

    pub walked-done : is_done k ≡ true → standing_of entries bib (drop (kept_from k) mid) ≡ standing_of entries bib (ls ++ ns)
    walked-done e = all-walked fresh_standing (λ f. absurd (false≢true (sym f ∙ e)))

    pub walked_both : Walked entries bib m ls mid (kept_from k) after l → standing_of entries bib (drop (kept_from l) after) ≡ standing_of entries bib (ls ++ ns)
    unfolding applied
    walked_both b =
        b.stands.same fresh_standing fresh_standing (λ _. refl)
        ∙ applied_both entries bib ls (drop (kept_from k) mid) fresh_standing
        ∙ all-walked (applied (of_bib entries bib ls) fresh_standing) (λ _. refl)
