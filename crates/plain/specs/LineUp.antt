-- Demand 3 on the plain day: 01, "The plain day and its line-up", from "On it:" on. "All this is a single claim about the
-- whole list of calls, with one line-up for it, and not a claim for each call." What is said of the day and its line-up without calls and values is
-- `Explains` (crate diagram), what each taken call tells is `Told`; the rest is here.
use Rattle.std.specs.Prelude.{ℕ, ◌≤◌, Bool, true, ◌≡◌, ◌↔◌, List, [], ◌∷◌, ◌++◌}
use Rattle.diagram.specs.Sizes.{revision_limit}
use Rattle.diagram.specs.Day.{IsOut, IsIdle, out_count}
use Rattle.diagram.specs.Steps.{run}
use Rattle.diagram.specs.Rules.{ByRules}
use Rattle.diagram.specs.Reuse.{ByNumbers}
use Rattle.diagram.specs.Pool.{ByPool}
use Rattle.diagram.specs.Witness.{Witness}
use Rattle.diagram.specs.Lawful.{EachMayFollow}
use Rattle.diagram.specs.Arbitration.{Explains, Extends}
use Rattle.desk.specs.Calls.{Call, Fork, Sync}
use Rattle.plain.specs.Answers.{called, day_after}
use Rattle.plain.specs.Taken.{Taken, end_of, steps_after}
use Rattle.plain.specs.Allowed.{Allowed, Meaning, OnLine}
use Rattle.plain.specs.Told.{Told}
use Rattle.plain.specs.Syncs.{OnSingleMain}
use Rattle.plain.specs.Marks.{OnMarks}
use Rattle.plain.specs.Orders.{GetsYes}
use Rattle.plain.specs.Bills.{bill_after}

pub record LineUp (single : Bool) (cs : List (Call ℕ)) : Type 0 where
  -- the calls that are taken are the steps of the day, each may follow those before it, and its diagram is a witness for their events and yields
  pub steps : end_of single cs ≡ run (steps_after single cs)
  pub lawful : EachMayFollow (steps_after single cs)
  pub witness : Witness (steps_after single cs)
  -- demand 2: each call "is taken exactly if that paper's construction and transaction rules, .. and our stated limits allow it"; "for joins its server
  -- pool's rule": at every place the join rule of the construction is the pool's
  pub exactly : (before rest : List (Call ℕ)) (c : Call ℕ) → cs ≡ before ++ (c ∷ rest) → ((called (day_after single before) c).answer.code ≡ 0) ↔ Allowed single before c
  pub pool : (before rest : List (Call ℕ)) → cs ≡ before ++ rest → ByPool (steps_after single before)
  -- and what a vertex lists are the effects along its root-path
  pub rules : ByRules (steps_after single cs)
  -- 02, U7: the numbers by the history; and 10, where no lower code applies, "exactly if 64 boxes are out"
  pub numbers_used : ByNumbers (steps_after single cs)
  pub none_left : (before rest : List (Call ℕ)) (n : ℕ) → cs ≡ before ++ (Fork n ∷ rest)
      → ((called (day_after single before) (Fork n)).answer.code ≡ 10)
      ↔ (Meaning (end_of single before) n (λ r. IsOut (end_of single before) r × IsIdle (end_of single before) r) × OnLine single n × (out_count (end_of single before) ≡ revision_limit))
  -- one line-up for the whole list, by the day's own vertices and paths
  pub order : List ℕ
  pub explains : Explains (end_of single cs) order
  -- what each taken call tells
  pub tells : (before rest : List (Call ℕ)) (c : Call ℕ) → Taken single cs before c rest
      → Told single before (day_after single cs) order c (called (day_after single before) c)
  -- "For a box that stays out, the list before a call begins the list after it."
  pub grows : (before rest : List (Call ℕ)) (c : Call ℕ) → cs ≡ before ++ (c ∷ rest) → Extends (end_of single before) (end_of single (before ++ (c ∷ [])))
  -- 02, U8: on any day a sync "never meets 10"
  pub never_ten : (before rest : List (Call ℕ)) (m room : ℕ) → cs ≡ before ++ (Sync m room ∷ rest) → (called (day_after single before) (Sync m room)).answer.code ≡ 10 → ⊥
  pub single_main : single ≡ true → OnSingleMain cs
  -- 02, U9
  pub marks : OnMarks single cs
  -- 02, U13: after all calls this line-up, as any that explains the day, gets a yes when written as a file
  pub own_orders : (own : List ℕ) → Explains (end_of single cs) own → GetsYes single cs own
  -- 02, U14: "Show that within a day no further step ever lowers a bill."
  pub bills_grow : (before rest : List (Call ℕ)) → cs ≡ before ++ rest → (member : Bool) → bill_after single before member ≤ bill_after single cs member
