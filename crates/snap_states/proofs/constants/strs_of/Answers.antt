use Rattle.snap_states.proofs.Finding.{Gathered, all_gathered, module_gathered, none_gathered}
use Rattle.std.proofs.Common.{subst, sym, arith}
use Rattle.snap_states.proofs.constants.strs_of.Goals as goal

pub loop-number-init : goal.loop-number-init
loop-number-init c = subst (Gathered c.args.library.now 0) (sym c.new-set.ensures) (none_gathered c.args.library.now)

pub loop-number-preserved : goal.loop-number-preserved
loop-number-preserved c = module_gathered c.args.library.now c.loop-number.number c.loop-number.set c.add_module.new.set c.loop-number.invariant c.in_ok-add_module.ensures

pub returns : goal.returns
returns c = all_gathered c.args.library.now c.loop-number.number c.loop-number.set (omega (arith, c.loop-number-test.false, c.count_modules-number-end.ensures)) c.loop-number.invariant
