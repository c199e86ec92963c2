-- What the check of a client number (2) says, and that of a mark by its name (18).
use Prim.Native.Nat.{ℕ, suc, ◌<◌, ◌≤◌}
use mathlib.Core.Path.{◌≡◌, refl}
use mathlib.Core.List.{List}
use borrow.Author.Tests.{lt-ltb, le-ltb}
use Rattle.lists.specs.Names.{Name}
use Rattle.cells.specs.Sizes.{clients, revisions}
use Rattle.cells.specs.Checks.{bearer}
use Rattle.cells.specs.Decode.{cells}
use Rattle.std.specs.Prelude.{Option, Some, None}
use Rattle.sizes.specs.declared.numbers.Client.{Client}
use Rattle.fields.proofs.InRange.{known-below}
use Rattle.checks.specs.Answers.{bearer_check, client_check}

abbrev told : Option Client → ℕ
told (Some c) = suc c.0
told None = 0

pub known-client : (n : ℕ) (c : Client) → client_check n ≡ Some c → (c.0 ≡ n) × (n < clients)
unfolding client_check
known-client n c e = known-below told n clients (Some (record { 0 = n })) None refl refl e c.0 refl

-- 18: x is the number that the search gave
module _ (d : List ℕ) (n : Name) (x : ℕ) (ex : x ≡ bearer (cells d) n) where
  pub bearer-missing : revisions ≤ x → None ≡ bearer_check d n
  unfolding bearer_check
  bearer-missing h = rw (← ex, le-ltb x revisions h)

  pub bearer-found : x < revisions → Some (record { 0 = x }) ≡ bearer_check d n
  unfolding bearer_check
  bearer-found h = rw (← ex, lt-ltb x revisions h)
