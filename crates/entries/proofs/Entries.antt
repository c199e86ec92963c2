-- What is read after a write: the entry written, and every other entry as before.
use Prim.Native.Nat.{ℕ, ◌+◌, ◌*◌, ◌<◌, ◌≤◌}
use mathlib.Core.Path.{◌≡◌, ◌∙◌, ap}
use mathlib.Core.Logic.{◌≢◌}
use mathlib.Core.List.{List}
use native.Mathlib.Omega.{arith}
use lib.Dec.{eqb}
use lib.ListN.{length, drop_of_length-le}
use borrow.Author.Tests.{eqb-true, eqb-false}
use Rattle.lists.specs.Lists.{changed}
use Rattle.lists.proofs.Cases.{cases}
use Rattle.lists.proofs.Replaced.{replaced-length, replaced-here, replaced-other}
use Rattle.updates.specs.declared.kind.Kind.TheVariants.{Time}
use Rattle.entries.specs.declared.entry.Entry.{Entry}
use Rattle.entries.specs.Sizes.{updates, entry_bytes, bib_range}
use Rattle.entries.specs.Stored.{entry, stored, kind_after, decoded}
use Rattle.entries.specs.Entries.{entry_at, wrote}
use Rattle.entries.proofs.Stored.{stored-length, decoded-stored}

room : (t : List ℕ) (n : ℕ) → length t ≡ entry_bytes → n < updates → 6 * n + 6 ≤ length t
room t n h l = omega arith

module _ (t : List ℕ) (n : ℕ) (e : Entry) (h : length t ≡ entry_bytes) (l : n < updates) where
  pub wrote-length : length (wrote t n e) ≡ entry_bytes
  unfolding wrote
  wrote-length = replaced-length t (stored e) (6 * n) 6 (room t n h l) (stored-length e) ∙ h

  pub entry-same : e.bib < bib_range → entry_at (wrote t n e) n ≡ e
  unfolding entry_at wrote
  entry-same b = ap decoded (replaced-here t (stored e) (6 * n) 6 (room t n h l) (stored-length e)) ∙ decoded-stored e b

module _ (t : List ℕ) (n : ℕ) (e : Entry) (m : ℕ) (h : length t ≡ entry_bytes) (l : n < updates) where
  pub entry_other : m ≢ n → entry_at (wrote t n e) m ≡ entry_at t m
  unfolding entry_at wrote
  entry_other o = ap decoded (replaced-other t (stored e) 6 n m (room t n h l) (stored-length e) o)

  -- the two as one: the entries are the old ones changed at n
  pub entry-wrote : e.bib < bib_range → entry_at (wrote t n e) m ≡ changed (entry_at t) n e m
  entry-wrote b =
      cases (eqb m n)
      (λ q. rw (q, eqb-true m n q) (entry-same t n e h l b))
      (λ q. rw q (entry_other (eqb-false m n q)))

-- past the last byte there is the entry of a fresh day
pub entry_past : (t : List ℕ) (n : ℕ) → length t ≡ entry_bytes → updates ≤ n → entry_at t n ≡ entry Time 0 0 0
unfolding entry_at decoded kind_after
entry_past t n h l = rw (drop_of_length-le t {i = 6 * n} (omega arith))
