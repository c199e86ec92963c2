-- A client that may go on entering updates on a revision: what one update leaves, and that it may still go on.
use Prim.Native.Nat.{ℕ, suc, ◌<◌, ◌≤◌}
use mathlib.Core.Bool.{true, false, and-false, not}
use mathlib.Core.Path.{◌≡◌, refl, ◌∙◌, ap, fun_ext}
use mathlib.Core.List.{List, ◌++◌}
use lib.Dec.{eqb, ltb}
use lib.ListN.{length}
use borrow.Author.Tests.{eq-eqb, ltb-true}
use Rattle.lists.specs.Sums.{any_below}
use Rattle.lists.proofs.Cases.{and-true, cases}
use Rattle.updates.specs.Kinds.{kind_check}
use Rattle.updates.specs.declared.kind.Kind.{Kind}
use Rattle.std.specs.Prelude.{Ok}
use Rattle.bundles.specs.declared.entry.Entry.{Entry}
use Rattle.cells.specs.Sizes.{clients, revisions, updates}
use Rattle.cells.specs.Cells.{Cells}
use Rattle.cells.specs.Decode.{cells}
use Rattle.cells.specs.Range.{in_range}
use Rattle.cells.specs.Checks.{given_out, joined, is_mark, open_elsewhere, busy_by_other, stale}
use Rattle.cells.specs.CellSteps.{update_cells}
use Rattle.cells.specs.Steps.{update_bytes}
use Rattle.cells.proofs.Decoded.{update-decoded}
use Rattle.cells.proofs.Range.{ranges}
use Rattle.cells.proofs.Stays.{Lower, update-stays}
use Rattle.entries.specs.Stored.{entry}
use Rattle.entries.specs.Entries.{wrote}
use Rattle.entries.proofs.Entries.{wrote-length}
use Rattle.table.specs.Halves.{low, high, cells_of, is_table}
use Rattle.table.specs.Out.{table_bytes}
use Rattle.table.specs.Found.{on_ok}
use Rattle.table.proofs.Halves.{low_of, lower_of, table_of, upper_length}
use Rattle.bundling.specs.Bundles.{Going, entered}

module _ (t : List ℕ) (c n : ℕ) (G : Going t c n) where
  pub long : length t ≡ table_bytes
  long = (lower_of t G.sound).0

  lower : Lower (low t)
  lower = (lower_of t G.sound).1

  pub in-range : in_range (low t) ≡ true
  in-range = lower.ranged

  pub client-in : c < clients
  client-in = ltb-true c clients G.client

  pub revision-in : n < revisions
  revision-in = ltb-true n revisions (and-true (ltb n revisions) _ G.given).0

  pub few-taken : (cells_of t).updates ≤ updates
  few-taken = (ranges (low t) in-range).taken

  -- an update that is taken
  module _ (room : (cells_of t).updates < updates) (e : Entry) (kind : Kind) (known : kind_check e.kind ≡ Ok kind) where
    pub halves : entered t c n e ≡ update_bytes (low t) c n ++ wrote (high t) (cells_of t).updates (entry kind c e.bib e.v)
    unfolding entered on_ok
    halves = rw known

    new-lower : Lower (update_bytes (low t) c n)
    new-lower = update-stays (low t) lower c n client-in revision-in room

    low_is : low (entered t c n e) ≡ update_bytes (low t) c n
    low_is = ap low halves ∙ low_of (update_bytes (low t) c n) _ new-lower.long

    pub cells_are : cells_of (entered t c n e) ≡ update_cells (cells_of t) c n
    cells_are = ap cells low_is ∙ update-decoded (low t) lower c n client-in revision-in room

    sound-is : is_table (entered t c n e) ≡ true
    sound-is = ap is_table halves ∙ table_of (update_bytes (low t) c n) _ new-lower (wrote-length (high t) (cells_of t).updates (entry kind c e.bib e.v) (upper_length t long) room)

    pub more-taken : (cells_of (entered t c n e)).updates ≡ suc (cells_of t).updates
    more-taken = ap (λ k. k.updates) cells_are

    pub going_next : Going (entered t c n e) c n
    going_next = record {
      sound = sound-is;
      client = G.client;
      given = ap (λ k. given_out k n) cells_are ∙ G.given;
      out = ap (λ k. joined k n) cells_are ∙ G.out;
      unmarked = ap (λ k. is_mark k n) cells_are ∙ G.unmarked;
      here = ap (λ k. open_elsewhere k c n) cells_are ∙ opened-here (cells_of t);
      alone = ap (λ k. busy_by_other k c n) cells_are ∙ alone-still (cells_of t) ∙ G.alone;
      seen = ap (λ k. stale k c n) cells_are ∙ seen-now (cells_of t);
    }
      where
        opened-here : (k : Cells) → open_elsewhere (update_cells k c n) c n ≡ false
        opened-here k = rw (eq-eqb c c refl) (rw (eq-eqb n n refl) (and-false (not (eqb n 64))))

        alone-still : (k : Cells) → busy_by_other (update_cells k c n) c n ≡ busy_by_other k c n
        alone-still k = ap (any_below clients) (fun_ext (λ x. cases (eqb x c) (λ q. rw q) (λ q. rw q)))

        seen-now : (k : Cells) → stale (update_cells k c n) c n ≡ false
        seen-now k = rw (eq-eqb c c refl) (rw (eq-eqb n n refl))
