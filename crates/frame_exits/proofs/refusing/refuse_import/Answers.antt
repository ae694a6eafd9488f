use Rattle.std.proofs.Common.{Err, sym, ap, ◌∙◌, subst, length}
use Rattle.std.specs.Prelude.{nat_lt}
use Rattle.mpy_base.specs.declared.limits.TheConstants.{MAX_CALLS}
use Rattle.frame_moves.specs.prim_faults.declared.fault.Fault.{Fault}
use Rattle.frame_moves.specs.prim_faults.declared.stop.Stop.TheVariants as stops
use Rattle.frame_moves.specs.prim_faults.Outcomes.{IsKnownAnswer}
use Rattle.frame_moves.specs.Outcomes.{stopping_of}
use Rattle.frame_exits.proofs.Machine.{fails_steps, fault_known}
use Rattle.frame_exits.proofs.refusing.refuse_import.Goals as goal

pub returns-clause-steps : goal.returns-clause-steps
returns-clause-steps c tables shelf library w heap calls from level has is stands place paid =
    fails_steps tables shelf library w heap c.args.name from level c.args.refusal calls has is stands place paid
    ∙ ap (λ (z : Fault). stopping_of tables place w heap calls (stops.Raises z)) (sym c.fault_of.ensures)

pub returns-clause-known : goal.returns-clause-known
returns-clause-known c texts tuples shelf w heap calls from level is told =
    subst (λ (z : Fault). IsKnownAnswer texts tuples heap.objects (Err (stops.Raises z))) (sym c.fault_of.ensures)
    (fault_known texts tuples shelf w heap (nat_lt (length calls) MAX_CALLS) c.args.name from level c.args.refusal is told)
