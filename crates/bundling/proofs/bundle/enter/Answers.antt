-- `bundling::bundle::enter` meets its contract: the update is put in where the client may go on. Assumes nothing.
use native.Mathlib.Omega.{arith}
use Rattle.bundling.proofs.Going.{client-in, in-range, long, revision-in}
use Rattle.bundling.proofs.bundle.enter.Goals as goal

pub put-requires : goal.put-requires
put-requires c =
    let s = c.args in
    let g = c.requires.0 in
    (long s.t.now s.c.0 s.r.0 g, in-range s.t.now s.c.0 s.r.0 g, client-in s.t.now s.c.0 s.r.0 g, revision-in s.t.now s.c.0 s.r.0 g, c.requires.1, omega arith)
