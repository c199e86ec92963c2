-- A sync from what the join's checks find: the join, then the fork of what it left, which is taken.
use Prim.Native.Nat.{ℕ, ◌<◌}
use mathlib.Core.Bool.{true, false, not, cond}
use mathlib.Core.Path.{◌≡◌, sym, ap, ◌∙◌}
use mathlib.Core.List.{List, ◌++◌}
use lib.ListN.{length}
use borrow.Author.Tests.{not-false}
use Rattle.lists.proofs.Told.{failed}
use Rattle.boards.specs.Board.{board_bytes}
use Rattle.cells.specs.Sizes.{revisions}
use Rattle.cells.specs.Cells.{next_number}
use Rattle.cells.specs.Decode.{cells}
use Rattle.cells.specs.Range.{in_range}
use Rattle.cells.specs.Checks.{given_out, joined, off_line, is_mark, busy, joinable}
use Rattle.cells.specs.Steps.{fork_bytes, join_bytes}
use Rattle.cells.proofs.Range.{next_ranged, ranges}
use Rattle.sizes.specs.declared.numbers.Revision.{Revision}
use Rattle.table.specs.Halves.{high, is_table, low}
use Rattle.table.specs.Out.{table_bytes}
use Rattle.table.specs.Answers.{refused, taken}
use Rattle.table.specs.Calls.{as_one, fork_out, join_end, sync_out}
use Rattle.table.specs.Found.{on_ok}
use Rattle.table.specs.Checks.{join_check}
use Rattle.std.specs.Prelude.{Result, Ok, Err}
use Rattle.table.specs.declared.refusal.Refusal.{Refusal}
use Rattle.table.specs.Told.{code_of}
use Rattle.table.specs.declared.refusal.Refusal.TheVariants.{NeverSent, Joined, OffTheLine, Marked, Busy, NotJoinable}
use Rattle.table.proofs.Calls.{either, given_is, ok_cond}
use Rattle.table.proofs.Halves.{high_of, low_of, lower_of}
use Rattle.table.proofs.Syncs.{left-lower, left-table, sync-forks}
use Rattle.forking.proofs.Calls.{same_taken}

-- the call on a table, from what the join's checks find
pub sync_by : (t : List ℕ) → is_table t ≡ true → (m : ℕ) (z : Result (Revision × Revision) Refusal) → join_check (low t) 0 m ≡ z → on_ok z (λ e. refused t (code_of e)) (λ p. as_one t (fork_out (join_end t 0 m).lent 0)) ≡ sync_out t m board_bytes
unfolding join_check sync_out on_ok
sync_by t h m z e = rw (← e) (simp (given_is, ok_cond, either, h))

-- what a join's checks leave of the joiner
pub record Joins (d : List ℕ) (n m : ℕ) (a b : Revision) : Type 0 where
  pub joiner : a.0 ≡ n
  pub joinee : b.0 ≡ m
  pub given : given_out (cells d) n ≡ true
  pub out : joined (cells d) n ≡ false
  pub idle : busy (cells d) n ≡ false

checks_are : (d : List ℕ) (n m : ℕ)
    → join_check d n m
    ≡ cond (not (given_out (cells d) n)) (Err NeverSent) (
    cond (not (given_out (cells d) m)) (Err NeverSent) (
    cond (joined (cells d) n) (Err Joined) (
    cond (joined (cells d) m) (Err Joined) (
    cond (off_line (cells d) n) (Err OffTheLine) (
    cond (is_mark (cells d) n) (Err Marked) (
    cond (is_mark (cells d) m) (Err Marked) (
    cond (busy (cells d) n) (Err Busy) (
    cond (busy (cells d) m) (Err Busy) (
    cond (not (joinable (cells d) n m)) (Err NotJoinable) (
    Ok (record { 0 = n }, record { 0 = m })))))))))))
unfolding join_check
checks_are d n m = simp given_is

pub joins : (d : List ℕ) (n m : ℕ) (a b : Revision) → join_check d n m ≡ Ok (a, b) → Joins d n m a b
joins d n m a b e =
    let given-n = failed (not (given_out (cells d) n)) _ _ _ (λ h. cc) (sym (checks_are d n m) ∙ e) in
    let given-m = failed (not (given_out (cells d) m)) _ _ _ (λ h. cc) given-n.1 in
    let out-n = failed (joined (cells d) n) _ _ _ (λ h. cc) given-m.1 in
    let out-m = failed (joined (cells d) m) _ _ _ (λ h. cc) out-n.1 in
    let line = failed (off_line (cells d) n) _ _ _ (λ h. cc) out-m.1 in
    let plain-n = failed (is_mark (cells d) n) _ _ _ (λ h. cc) line.1 in
    let plain-m = failed (is_mark (cells d) m) _ _ _ (λ h. cc) plain-n.1 in
    let idle-n = failed (busy (cells d) n) _ _ _ (λ h. cc) plain-m.1 in
    let idle-m = failed (busy (cells d) m) _ _ _ (λ h. cc) idle-n.1 in
    let found = (failed (not (joinable (cells d) n m)) _ _ _ (λ h. cc) idle-m.1).1 in
    let pair : ◌≡◌ {A = Revision × Revision} (record { 0 = n }, record { 0 = m }) (a, b) = cc found in
    record { joiner = sym (ap (λ (p : Revision × Revision). p.0.0) pair); joinee = sym (ap (λ (p : Revision × Revision). p.1.0) pair); given = not-false (given_out (cells d) n) given-n.0; out = out-n.0; idle = idle-n.0 }

-- the table that the join leaves
module _ (t : List ℕ) (h : is_table t ≡ true) (m : ℕ) (a b : Revision) (e : join_check (low t) 0 m ≡ Ok (a, b)) (bl : b.0 < revisions) (pos : 0 < b.0) where
  abbrev J : Joins (low t) 0 m a b
  J = joins (low t) 0 m a b e

  module _ (t₁ : List ℕ) (e₁ : t₁ ≡ join_bytes (low t) a.0 b.0 ++ high t) where
    was : t₁ ≡ join_bytes (low t) 0 m ++ high t
    was = rw (← J.joiner, ← J.joinee) e₁

    joined-table : is_table t₁ ≡ true
    joined-table = ap is_table was ∙ left-table t h m (rw J.joinee at bl) (rw J.joinee at pos)

    pub joined-lower : (length t₁ ≡ table_bytes) × (in_range (low t₁) ≡ true)
    joined-lower = let b = lower_of t₁ joined-table in (b.0, b.1.ranged)

    pub next-in : (c : Revision) → c ≡ record { 0 = next_number (cells (low t₁)) } → (0 < c.0) × (c.0 < revisions)
    next-in c f = let n = next_ranged (cells (low t₁)) (ranges (low t₁) joined-lower.1) in (rw f n.0, rw f n.1)

    pub sync-done : (c : Revision) (t₂ : List ℕ) → c ≡ record { 0 = next_number (cells (low t₁)) } → t₂ ≡ fork_bytes (low t₁) a.0 c.0 ++ high t₁ → taken t₂ c.0 ≡ sync_out t m board_bytes
    unfolding on_ok
    sync-done c t₂ f g =
        let ml = rw J.joinee at bl in
        let mp = rw J.joinee at pos in
        let d = join_bytes (low t) 0 m in
        let long = (left-lower t h m ml mp).long in
        let low₁ : low t₁ ≡ d = ap low was ∙ low_of d (high t) long in
        let high₁ : high t₁ ≡ high t = ap high was ∙ high_of d (high t) long in
        let next₁ : c.0 ≡ next_number (cells d) = ap (λ r. r.0) f ∙ ap (λ l. next_number (cells l)) low₁ in
        same_taken _ _ _ _ (g ∙ rw (low₁, high₁, J.joiner, next₁)) next₁
        ∙ ap (as_one t) (sym (sync-forks t h m ml mp J.given J.out J.idle)) ∙ sync_by t h m (Ok (a, b)) e
