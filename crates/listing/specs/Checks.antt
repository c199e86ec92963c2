-- No claim rests on this file: it serves the code.
-- What the check of a list's sheet finds.
use Rattle.std.specs.Prelude.{ℕ, ◌*◌, cond, ltb}
use Rattle.listing.specs.declared.list.SheetCheck.{SheetCheck}
use Rattle.listing.specs.declared.list.SheetCheck.TheVariants as list

-- 12 "the listing's buffer is smaller than it needs": room for n lines
unfoldable pub sheet_check : ℕ → ℕ → SheetCheck
sheet_check room n = cond (ltb room (12 * n)) list.Short list.Fits
