-- What a list of updates leaves of a board: bib by bib on any board, and the board worked out afresh where it was right.
use Prim.Native.Nat.{ℕ, zero, suc, ◌+◌, ◌*◌, ◌<◌}
use mathlib.Core.Bool.{true, false}
use mathlib.Core.Path.{◌≡◌, refl, sym, ◌∙◌, ap}
use mathlib.Core.List.{List, [], ◌∷◌, ◌++◌}
use native.Mathlib.Omega.{arith}
use lib.Dec.{eqb, ltb}
use lib.ListN.{length, replicate, replicate-append-replicate}
use borrow.Author.Tests.{eq-eqb, eqb-false, eqb-true, lt-ltb, ltb-false, ltb-true, ne_eqb}
use Rattle.lists.specs.Lists.{changed}
use Rattle.lists.proofs.Cases.{cases}
use Rattle.updates.specs.Applied.{Update, applied, fresh_standing, of_bib}
use Rattle.updates.specs.Effect.{effect}
use Rattle.updates.specs.declared.standing.Standing.{Standing}
use Rattle.boards.specs.Board.{board_bytes, bibs, board_of, entries_to, entry_of, found, posted, posted_all, shown, standing_in, wrote}
use Rattle.boards.specs.Posted.{PostedByBib, StaysRight}
use Rattle.boards.proofs.Entries.{entries_put, entries_same, entry-of, reads-shown, wrote-length, wrote-other, wrote-there}

module _ (bib_of : ℕ → ℕ) (update : ℕ → Update) where
  pub posted-length : (ns board : List ℕ) → length board ≡ board_bytes → length (posted_all bib_of update ns board) ≡ board_bytes
  unfolding posted_all
  posted-length [] board h = h
  posted-length (n ∷ ns) board h = posted-length ns (posted board (bib_of n) (update n)) (wrote-length board (bib_of n) _ h)

  -- first some, then others
  pub posted-append : (ns ms board : List ℕ) → posted_all bib_of update (ns ++ ms) board ≡ posted_all bib_of update ms (posted_all bib_of update ns board)
  unfolding posted_all
  posted-append [] ms board = refl
  posted-append (n ∷ ns) ms board = posted-append ns ms (posted board (bib_of n) (update n))

  module _ (bib : ℕ) (l : bib < bibs) where
    abbrev of : List ℕ → List Update
    of ns = of_bib bib_of update bib ns

    -- an update of another bib leaves the entry
    elsewhere : (n : ℕ) (board : List ℕ) → length board ≡ board_bytes → eqb (bib_of n) bib ≡ false → entry_of (posted board (bib_of n) (update n)) bib ≡ entry_of board bib
    unfolding wrote
    elsewhere n board h e =
        cases (ltb (bib_of n) bibs)
        (λ t. wrote-other board (bib_of n) _ h (ltb-true (bib_of n) bibs t) bib (λ q. eqb-false (bib_of n) bib e (sym q)))
        (λ t. rw t)

    -- and one of the bib shows how it stands then
    here : (n : ℕ) (board : List ℕ) → length board ≡ board_bytes → eqb (bib_of n) bib ≡ true → entry_of (posted board (bib_of n) (update n)) bib ≡ shown (effect (update n).kind (update n).v (found board bib))
    here n board h e = rw (eqb-true (bib_of n) bib e) (wrote-there board bib _ h l)

    pub untouched : (ns board : List ℕ) → length board ≡ board_bytes → of ns ≡ [] → entry_of (posted_all bib_of update ns board) bib ≡ entry_of board bib
    unfolding posted_all
    untouched [] board h none = refl
    untouched (n ∷ ns) board h none =
        cases (eqb (bib_of n) bib)
        (λ e. let more = rw e at none in let z : ◌≡◌ {A = ℕ} 0 1 = cc in absurd (omega arith))
        (λ e. untouched ns (posted board (bib_of n) (update n)) (wrote-length board (bib_of n) _ h) (rw e at none) ∙ elsewhere n board h e)

    -- an entry that shows a standing shows it after the updates
    shows : (ns board : List ℕ) (x : Standing) → length board ≡ board_bytes → entry_of board bib ≡ shown x → entry_of (posted_all bib_of update ns board) bib ≡ shown (applied (of ns) x)
    unfolding applied posted_all
    shows [] board x h e = e
    shows (n ∷ ns) board x h s =
        let found-x : found board bib ≡ x = ap standing_in s ∙ reads-shown x in
        let h' = wrote-length board (bib_of n) (effect (update n).kind (update n).v (found board (bib_of n))) h in
        cases (eqb (bib_of n) bib)
        (λ e. rw e (shows ns (posted board (bib_of n) (update n)) (effect (update n).kind (update n).v x) h' (here n board h e ∙ ap (λ z. shown (effect (update n).kind (update n).v z)) found-x)))
        (λ e. rw e (shows ns (posted board (bib_of n) (update n)) x h' (elsewhere n board h e ∙ s)))

    pub touched : (ns board : List ℕ) → length board ≡ board_bytes → (of ns ≡ [] → ⊥) → entry_of (posted_all bib_of update ns board) bib ≡ shown (applied (of ns) (found board bib))
    unfolding applied posted_all
    touched [] board h some = absurd (some refl)
    touched (n ∷ ns) board h some =
        let h' = wrote-length board (bib_of n) (effect (update n).kind (update n).v (found board (bib_of n))) h in
        cases (eqb (bib_of n) bib)
        (λ e. rw e (shows ns (posted board (bib_of n) (update n)) _ h' (here n board h e)))
        (λ e. rw e (touched ns (posted board (bib_of n) (update n)) h' (λ z. some (rw e z)) ∙ ap (λ b. shown (applied (of ns) (standing_in b))) (elsewhere n board h e)))

pub posted_by_bib : PostedByBib
posted_by_bib bib_of update ns board h = record {
  long = posted-length bib_of update ns board h;
  others = λ bib l none. untouched bib_of update bib l ns board h none;
  there = λ bib l some. touched bib_of update bib l ns board h some;
}

-- the board of some standings
pub board_same : (s s' : ℕ → Standing) → ((bib : ℕ) → bib < bibs → s bib ≡ s' bib) → board_of s ≡ board_of s'
unfolding board_of
board_same s s' h = entries_same s s' bibs h

pub board-found : (s : ℕ → Standing) (bib : ℕ) → bib < bibs → found (board_of s) bib ≡ s bib
unfolding board_of
board-found s bib l = ap standing_in (entry-of s bibs bib l) ∙ reads-shown (s bib)

board_put : (s : ℕ → Standing) (bib : ℕ) (x : Standing) → bib < bibs → wrote (board_of s) bib x ≡ board_of (changed s bib x)
unfolding board_of wrote
board_put s bib x l = rw (lt-ltb bib bibs l) (entries_put s bib x bibs l)

-- the standing of a bib with one update more in front
one_more : (bib_of : ℕ → ℕ) (update : ℕ → Update) (n : ℕ) (ns : List ℕ) (s : ℕ → Standing) (bib : ℕ)
    → applied (of_bib bib_of update bib ns) (changed s (bib_of n) (effect (update n).kind (update n).v (s (bib_of n))) bib) ≡ applied (of_bib bib_of update bib (n ∷ ns)) (s bib)
unfolding applied
one_more bib_of update n ns s bib =
    cases (eqb (bib_of n) bib)
    (λ e.
    let q = eqb-true (bib_of n) bib e in
    rw (e, eq-eqb bib (bib_of n) (sym q)) (ap (λ b. applied (of_bib bib_of update bib ns) (effect (update n).kind (update n).v (s b))) q))
    (λ e. rw (e, ne_eqb bib (bib_of n) (λ q. eqb-false (bib_of n) bib e (sym q))))

pub stays_right : StaysRight
unfolding applied posted_all wrote
stays_right bib_of update [] s = refl
stays_right bib_of update (n ∷ ns) s =
    let b = bib_of n in
    let u = update n in
    cases (ltb b bibs)
    (λ t.
    let l = ltb-true b bibs t in
    let x = effect u.kind u.v (s b) in
    ap (λ z. posted_all bib_of update ns (wrote (board_of s) b (effect u.kind u.v z))) (board-found s b l)
    ∙ ap (posted_all bib_of update ns) (board_put s b x l)
    ∙ stays_right bib_of update ns (changed s b x)
    ∙ board_same _ _ (λ bib h. one_more bib_of update n ns s bib))
    (λ t.
    let g = ltb-false b bibs t in
    rw t (stays_right bib_of update ns s ∙ board_same _ _ (λ bib h. rw (ne_eqb b bib (λ q. omega arith)))))

-- a board made fresh is that of a fresh day
zeros_right : (n : ℕ) → replicate (5 * n) 0 ≡ entries_to (λ bib. fresh_standing) n
unfolding entries_to shown
zeros_right zero = refl
zeros_right (suc n) =
    let e : 5 * suc n ≡ 5 * n + 5 = omega arith in
    ap (λ m. replicate m 0) e ∙ sym (replicate-append-replicate (5 * n) 5 0) ∙ ap (λ a. a ++ replicate 5 0) (zeros_right n)

pub fresh_right : replicate board_bytes 0 ≡ board_of (λ bib. fresh_standing)
unfolding board_of
fresh_right = zeros_right bibs
