-- There is one right board of a day, a fresh day's is all zeros, and what a call brings makes of a right board a right one (02, U10).
use Prim.Native.Nat.{ℕ}
use mathlib.Core.Bool.{Bool}
use mathlib.Core.Path.{◌∙◌, ◌≡◌, ap, refl, sym}
use mathlib.Core.List.Memᴰ
use mathlib.Core.List.{List, [], ◌++◌, ◌∷◌}
use lib.ListN.{length, replicate}
use Rattle.lists.specs.Lists.{◌∈◌, ends}
use Rattle.lists.proofs.Sublists.{only_same}
use Rattle.updates.specs.Applied.{applied, fresh_standing}
use Rattle.boards.specs.Board.{bibs, board_bytes, board_of, posted_all}
use Rattle.boards.proofs.Entries.{entries-length}
use Rattle.boards.proofs.Posted.{board_same, fresh_right, stays_right}
use Rattle.entries.specs.declared.entry.Entry.{Entry}
use Rattle.entries.specs.Folded.{of_bib, standing_of}
use Rattle.entries.proofs.Folded.{applied_both}
use Rattle.diagram.specs.Effects.{tabulate}
use Rattle.plain.specs.Record.{PlainDay, fresh_day}
use Rattle.plain.specs.Boards.{Brings, OneRight, Right, bib_of, update_of}
use Rattle.plain.proofs.LineUp.{of_bib_same}

pub one_right : OneRight
one_right p a b A B = A.is ∙ ap (λ l. board_of (λ bib. standing_of p.entries bib l)) (only_same A.shown B.shown) ∙ sym B.is

pub right_length : (p : PlainDay) (board : List ℕ) → Right p board → length board ≡ board_bytes
unfolding board_of
right_length p board R = ap length R.is ∙ entries-length _ bibs

pub fresh_is_right : (single : Bool) → Right (fresh_day single) (replicate board_bytes 0)
unfolding tabulate applied
fresh_is_right single = record { updates = []; shown = ends; is = fresh_right }

-- updates posted by entries that are the same
pub posted_same : (f g : ℕ → Entry) (ns board : List ℕ) → ((n : ℕ) → n ∈ ns → f n ≡ g n)
    → posted_all (λ n. (f n).bib) (λ n. record { kind = (f n).kind; v = (f n).v }) ns board ≡ posted_all (λ n. (g n).bib) (λ n. record { kind = (g n).kind; v = (g n).v }) ns board
unfolding posted_all
posted_same f g [] board h = refl
posted_same f g (n ∷ ns) board h = rw (h n (Memᴰ.head refl)) (posted_same f g ns _ (λ m i. h m (Memᴰ.tail i)))

-- the entries that were shown are kept
pub right_after : (p q : PlainDay) (board after : List ℕ) (B : Brings p q board after) → ((n : ℕ) → n ∈ B.shown → p.entries n ≡ q.entries n) → Right p board → Right q after
right_after p q board after B kept R = record { updates = B.shown ++ B.brought; shown = B.now; is = B.is ∙ ap (posted_all (bib_of q) (update_of q) B.brought) was ∙ stays_right (bib_of q) (update_of q) B.brought _ ∙ longer }
  where
    was : board ≡ board_of (λ bib. standing_of q.entries bib B.shown)
    was =
        R.is ∙ ap (λ l. board_of (λ bib. standing_of p.entries bib l)) (only_same R.shown B.before)
        ∙ board_same _ _ (λ bib l. ap (λ us. applied us fresh_standing) (of_bib_same p.entries q.entries bib B.shown kept))

    longer : board_of (λ bib. applied (of_bib q.entries bib B.brought) (standing_of q.entries bib B.shown)) ≡ board_of (λ bib. standing_of q.entries bib (B.shown ++ B.brought))
    longer = board_same _ _ (λ bib l. sym (applied_both q.entries bib B.shown B.brought fresh_standing))
