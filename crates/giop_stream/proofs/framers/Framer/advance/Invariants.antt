use Rattle.std.proofs.Common.{◌≡◌, ◌≤◌, [], length, None}
use Rattle.giop_stream.specs.Frames.{Passes}
use Rattle.giop_stream.proofs.framers.Framer.advance.Given as goal

abbrev pub invariant-parts : goal.invariant-parts
invariant-parts l = record {
  on : Passes l.fn.self l.self [];
  goes : l.self.stopped ≡ None;
  fewer : length l.self.rest ≤ length l.fn.self.rest;
}

abbrev pub decreases-parts : goal.decreases-parts
decreases-parts l = length l.self.rest
