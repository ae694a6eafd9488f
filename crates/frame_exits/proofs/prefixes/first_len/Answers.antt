use Rattle.std.proofs.Common.{sym, ap, ◌∙◌}
use Rattle.frame_moves.specs.py_effects.Modules.{first_of}
use Rattle.frame_exits.proofs.Fronts.{none_here}
use Rattle.frame_exits.proofs.prefixes.first_len.Goals as goal

pub loop-at-preserved : goal.loop-at-preserved
loop-at-preserved c = ap first_of (sym (none_here c.args.name.now c.loop-at.at c.loop-at-test.true c.if-name-at-eq46.false)) ∙ c.loop-at.invariant
