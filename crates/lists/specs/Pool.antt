-- 002, section 4.3, the server pool: each server keeps the set J of the servers that it may join. The sets, and what a fork and a join make of them.
use Rattle.std.specs.Prelude.{ℕ, Bool, ◌||◌, eqb}
use Rattle.lists.specs.Lists.{changed}

-- whether the second server is in the set J of the first
abbrev pub Pool : Type 0
Pool = ℕ → ℕ → Bool

-- FORK: the new server has the forker's J; "J' = J ∪ {s2}" for the forker, and in no other set is the new server
abbrev pub fork_pool : Pool → ℕ → ℕ → Pool
fork_pool J forker new a = changed (changed J new (J forker) a) new (eqb a forker)

-- JOIN: "J' = J1 ∪ J2"
abbrev pub join_pool : Pool → ℕ → ℕ → Pool
join_pool J joiner joinee = changed J joiner (λ b. J joiner b || J joinee b)
