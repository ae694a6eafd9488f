use Rattle.std.proofs.Common.{length}
use Rattle.frame_exits.proofs.Throws.{Through}
use Rattle.frame_exits.proofs.throwing.throw.Given as goal

abbrev pub invariant-calls : goal.invariant-calls
invariant-calls g l = Through (g.C.Constants.text_of l.consts) (g.C.Constants.items_of l.consts) l.names l.x l.fn.frames l.frames l.fn.modules l.modules

abbrev pub decreases-calls : goal.decreases-calls
decreases-calls g l = length l.frames.calls
