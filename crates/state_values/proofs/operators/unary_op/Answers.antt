use Rattle.std.proofs.Common.{refl, subst, sym}
use Rattle.std.specs.Prelude.{IsSome}
use Rattle.vm_states.specs.bc_ops.declared.instr.Instr.TheVariants as instrs
use Rattle.vm_states.specs.bc_machine.Library.{Plain}
use Rattle.vm_states.specs.vm_fetching.Instructions as fetched
use Rattle.state_values.proofs.Ending as ending
use Rattle.state_values.proofs.Finding as finding
use Rattle.state_values.proofs.operators.unary_op.Goals as goal

pub unary_op-requires-clause-operator : goal.unary_op-requires-clause-operator
unary_op-requires-clause-operator g c = subst IsSome (sym c.requires.runs.ready.finds.0.is) refl

pub unary_op-requires-clause-operand : goal.unary_op-requires-clause-operand
unary_op-requires-clause-operand g c = finding.one c.requires.runs c.tops_law.ensures.one c.requires.runs.ready.finds.1

pub unary_op-requires-clause-all_told : goal.unary_op-requires-clause-all_told
unary_op-requires-clause-all_told g c = finding.all_told c.requires.runs

pub returns : goal.returns
returns g c =
    record {
      acts = ending.puts c.acting_law.ensures.acts (record { instruction = fetched.unary c.args.number; end = c.args.end }) (λ p s row r. r.begins tt) 0 (Plain (instrs.Unary c.args.number)) c.args.frames.now c.unary_op.new.frames
          c.unary_op.ensures.leaves (λ p d tells. refl) c.unary_op.ensures.steps 1 c.unary_op.ensures.moved;
    }
