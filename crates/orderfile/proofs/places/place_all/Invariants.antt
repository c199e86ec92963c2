-- `orderfile::places::place_all` meets its contract: the numbers before place i have their places, and no other has one. Assumes nothing.
use Rattle.orderfile.specs.File.{numbers_of}
use Rattle.orderfile.proofs.Placed.{Placed}
use Rattle.orderfile.proofs.places.place_all.Given as goal

abbrev pub invariant-loop-i : goal.invariant-loop-i
invariant-loop-i l = Placed l.taken (numbers_of l.b) l.i l.places
