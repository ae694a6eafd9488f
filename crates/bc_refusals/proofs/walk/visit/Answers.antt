use Rattle.std.proofs.lemmas.Bool.{OnTrue_at}
use Rattle.bc_flow.specs.Code.{code_of}
use Rattle.bc_refusals.proofs.walk.visit.Goals as goal

pub visit_shape-requires-clause-there : goal.visit_shape-requires-clause-there
visit_shape-requires-clause-there c = OnTrue_at c.if-not-branch.false (c.in_ok-read_there.ensures (code_of c.args.code.now) c.requires.follows.known)
