use Rattle.std.proofs.Common.{◌≡◌, drop}
use Rattle.bc_shapes.specs.Spans.{keeps_all}
use Rattle.bc_shapes.proofs.slots.keep.Given as goal

abbrev pub invariant-loop-give : goal.invariant-loop-give
invariant-loop-give l = keeps_all l.n l.gives ≡ keeps_all l.n (drop l.give-index l.gives)
