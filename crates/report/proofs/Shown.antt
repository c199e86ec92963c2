-- What is put into a buffer, case by case.
use Prim.Native.Nat.{ℕ, ◌≤◌, ◌<◌}
use mathlib.Core.Bool.{Bool, cond}
use mathlib.Core.Path.{◌≡◌, ◌∙◌, ap}
use mathlib.Core.List.{List, []}
use lib.ListN.{length}
use borrow.Author.Tests.{lt-ltb, le-ltb}
use Rattle.text.specs.Placed.{ascii}
use Rattle.dayfile.specs.File.{file_check}
use Rattle.std.specs.declared.option.Option.{Option}
use Rattle.std.specs.declared.option.Option.TheVariants.{Some, None}
use Rattle.report.specs.Printed.{day, printed, printed_as, room, shown}

module _ (f out : List ℕ) where
  pub shown-none : length out < room → shown f out ≡ []
  unfolding shown
  shown-none h = ap (λ (b : Bool). cond b [] (printed f)) (lt-ltb (length out) room h)

  module _ (fits : room ≤ length out) where
    shown-all : shown f out ≡ printed f
    unfolding shown
    shown-all = ap (λ (b : Bool). cond b [] (printed f)) (le-ltb (length out) room fits)

    pub shown-bad : file_check f ≡ None → shown f out ≡ ascii "bad file\n"
    unfolding printed
    shown-bad h = shown-all ∙ ap (λ (c : Option ℕ). printed_as c f) h

    pub shown-good : (n : ℕ) → file_check f ≡ Some n → shown f out ≡ day f n
    unfolding printed
    shown-good n h = shown-all ∙ ap (λ (c : Option ℕ). printed_as c f) h
