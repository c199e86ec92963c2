-- 02, U4: "The outcome equals sending the updates one by one and then a yield."
use Rattle.std.specs.Prelude.{ℕ, ◌≡◌, List, [], ◌∷◌}
use Rattle.bundles.specs.declared.entry.Entry.{Entry}
use Rattle.boards.specs.Board.{board_bytes}
use Rattle.desk.specs.Calls.{Call, Update, Yield}
use Rattle.plain.specs.Record.{PlainDay}
use Rattle.plain.specs.Answers.{Outcome, called, day_from}

-- the calls that a bundle is; its board is lent to the yield
abbrev pub part : ℕ → ℕ → Entry → Call ℕ
part c n e = Update c n e.kind e.bib e.v

abbrev pub parts : ℕ → ℕ → List Entry → List (Call ℕ)
parts c n [] = Yield c board_bytes ∷ []
parts c n (e ∷ es) = part c n e ∷ parts c n es

-- calls that are all taken, one after the other
abbrev pub AllTaken : PlainDay → List (Call ℕ) → Type 0
AllTaken p [] = Unit {0}
AllTaken p (c ∷ cs) = ((called p c).answer.code ≡ 0) × AllTaken (called p c).next cs

-- a bundle of these entries, taken on day p: each part would be taken, and the day is the one that they leave. (So the day after further calls is the one
-- of the list with the parts in the bundle's place: `unbundled`, proofs/Follows.)
pub record Bundled (p : PlainDay) (c n : ℕ) (entries : List Entry) (o : Outcome) : Type 0 where
  pub each : AllTaken p (parts c n entries)
  pub day : o.next ≡ day_from p (parts c n entries)
  -- "The value is the first entry's number." There is a first one: `Allowed`
  pub value : (first : Entry) (others : List Entry) → entries ≡ first ∷ others → o.answer ≡ (called p (part c n first)).answer
