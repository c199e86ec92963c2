-- A preview of a table is a join on a copy, read there, whatever the buffer is (02, U6).
use Prim.Native.Nat.{ℕ}
use mathlib.Core.Path.{◌≡◌, refl, sym, ◌∙◌, ap}
use mathlib.Core.List.{List}
use Rattle.updates.specs.Effect.{state_of, value_in}
use Rattle.boards.specs.Board.{board_bytes}
use Rattle.desk.specs.Calls.{Join, Looks, Preview, Query}
use Rattle.desk.specs.Checks.{checks, join_checks}
use Rattle.desk.proofs.Checks.{Passed, ◌also◌, goes_on, passed_first, took}
use Rattle.table.specs.Answers.{refused}
use Rattle.table.specs.Out.{Out}
use Rattle.table.specs.Calls.{asked, foreseen, join_end, join_out, no_prospect, preview_out, query_out, standing_at}
use Rattle.table.specs.Out.{Prospect}
use Rattle.consistency.specs.Previews.{PreviewsFollowJoins}

-- a query that is taken tells the standing
query_tells : (t : List ℕ) (c n bib : ℕ) → (query_out t c n bib).code ≡ 0 → ((query_out t c n bib).state ≡ state_of (standing_at t n bib)) × ((query_out t c n bib).value ≡ value_in (standing_at t n bib))
unfolding query_out
query_tells t c n bib e =
    let is = (took (λ (o : Out). o.code) (refused t) (λ k. refl) (asked t) (Query c n bib) _ e).is in
    (ap (λ (o : Out). o.state) is, ap (λ (o : Out). o.value) is)

-- the join of a preview whose row passes is taken
join-taken : (t : List ℕ) (n m bib : ℕ) → Passed (checks (asked t) (Looks (Preview n m bib))) → join_out t n m board_bytes ≡ join_end t n m
unfolding join_out
join-taken t n m bib (e1 also P) = goes_on (refused t) (join_end t n m) (checks (asked t) (Join n m board_bytes)) (e1 also refl also passed_first (join_checks (asked t) n m) _ P)

-- a preview that is taken: the join would be, and it is what is read on the copy
record Read (t : List ℕ) (n m bib : ℕ) : Type 0 where
  joins : (join_out t n m board_bytes).code ≡ 0
  is : preview_out t n m bib ≡ foreseen (standing_at (join_out t n m board_bytes).lent n bib) (join_out t n m board_bytes).value

read : (t : List ℕ) (n m bib : ℕ) → (preview_out t n m bib).code ≡ 0 → Read t n m bib
unfolding preview_out
read t n m bib e =
    let w = took (λ (f : Prospect). f.code) no_prospect (λ k. refl) (asked t) (Looks (Preview n m bib)) (foreseen (standing_at (join_end t n m).lent n bib) (join_end t n m).value) e in
    let j = join-taken t n m bib w.passed in
    record { joins = ap (λ (o : Out). o.code) j; is = w.is ∙ ap (λ (o : Out). foreseen (standing_at o.lent n bib) o.value) (sym j) }

pub previews_follow_joins : PreviewsFollowJoins
previews_follow_joins t n m bib e =
    let r = read t n m bib e in
    record {
      joins = r.joins;
      gain = ap (λ p. p.gain) r.is;
      state = λ c q. (query_tells (join_out t n m board_bytes).lent c n bib q).0 ∙ sym (ap (λ p. p.state) r.is);
      value = λ c q. (query_tells (join_out t n m board_bytes).lent c n bib q).1 ∙ sym (ap (λ p. p.value) r.is);
    }
