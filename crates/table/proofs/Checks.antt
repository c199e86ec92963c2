-- What the answer of each check that several calls share says. Those of the whole buffer, code 1, are in Buffer.antt.
use Prim.Native.Nat.{ℕ, ◌<◌}
use mathlib.Core.Bool.{Bool, true, false, cond}
use mathlib.Core.Path.{◌≡◌}
use mathlib.Core.List.{List}
use native.Mathlib.Omega.{arith}
use lib.Dec.{ltb}
use borrow.Author.Tests.{ltb-true}
use Rattle.updates.specs.Kinds.{bad_bib}
use Rattle.lists.proofs.Cases.{and-true}
use Rattle.lists.proofs.Told.{held, failed, Told, told}
use Rattle.sizes.specs.declared.numbers.Client.{Client}
use Rattle.sizes.specs.declared.numbers.Revision.{Revision}
use Rattle.cells.specs.Sizes.{clients, revisions}
use Rattle.cells.specs.Decode.{cells}
use Rattle.cells.specs.Checks.{given_out, joined, off_line, busy}
use Rattle.checks.specs.Answers.{client_check, given_check, joined_check, line_check, use_check}
use Rattle.std.specs.Prelude.{Option, Some, None, Ok, Err}
use Rattle.checks.specs.declared.joined.JoinedCheck.TheVariants as out
use Rattle.checks.specs.declared.line.LineCheck.TheVariants as line
use Rattle.checks.specs.declared.busy.UseCheck.TheVariants as revision
use Rattle.checks.proofs.Numbers.{known-client}
use Rattle.table.specs.Checks.{bib_check, idle_check}
use Rattle.table.specs.Found.{on_some}
use Rattle.table.specs.declared.bib.BibCheck.TheVariants as bib
use Rattle.table.specs.declared.refusal.Refusal.TheVariants.{NeverSent, Joined, Busy}

-- code 2
pub known : (n : ℕ) (x : Client) → client_check n ≡ Some x → x.0 < clients
known n x e = let k = known-client n x e in omega arith

-- code 5
pub bib-known : (n : ℕ) → bib_check n ≡ bib.Known → bad_bib n ≡ false
unfolding bib_check
bib-known n e = (failed (bad_bib n) _ _ _ (λ d. cc) e).0

pub bib_unknown : (n : ℕ) → bib_check n ≡ bib.Unknown → bad_bib n ≡ true
unfolding bib_check
bib_unknown n e = (held (bad_bib n) _ _ _ (λ d. cc) e).0

module _ (d : List ℕ) where
  -- code 3
  pub was-given : (n : ℕ) (x : Revision) → given_check d n ≡ Some x → x.0 < revisions
  unfolding given_check
  was-given n x e =
      let p = held (given_out (cells d) n) _ _ _ (λ d. cc) e in
      let v : x.0 ≡ n = cc p.1 in
      let l = ltb-true n revisions (and-true (ltb n revisions) _ p.0).0 in
      omega arith

  -- code 4
  pub joined-told : (n : ℕ) → Told (joined (cells d) n) out.Joined out.Out (joined_check d n)
  unfolding joined_check
  joined-told n = told _ _ _ (λ h. cc)

  -- code 15
  pub line-told : (n : ℕ) → Told (off_line (cells d) n) line.Off line.On (line_check d n)
  unfolding line_check
  line-told n = told _ _ _ (λ h. cc)

  -- code 7
  pub use-told : (n : ℕ) → Told (busy (cells d) n) revision.Busy revision.Free (use_check d n)
  unfolding use_check
  use-told n = told _ _ _ (λ h. cc)

-- a revision that is idle was given out
idle_of : (q : Option Revision) (j b : Revision → Bool) (x : Revision) → on_some q (Err NeverSent) (λ r. cond (j r) (Err Joined) (cond (b r) (Err Busy) (Ok r))) ≡ Ok x → q ≡ Some x
unfolding on_some
idle_of None j b x e = cc
idle_of (Some r) j b x e =
    let p = failed (j r) _ _ _ (λ h. cc) e in
    let q = failed (b r) _ _ _ (λ h. cc) p.1 in
    cc q.1

pub idle_in : (d : List ℕ) (n : ℕ) (x : Revision) → idle_check d n ≡ Ok x → x.0 < revisions
unfolding idle_check
idle_in d n x e = was-given d n x (idle_of (given_check d n) (λ r. joined (cells d) r.0) (λ r. busy (cells d) r.0) x e)
