use Rattle.std.proofs.Common.{ℕ, refl, subst, sym}
use Rattle.std.specs.Prelude.{IsSome}
use Rattle.vm_states.specs.bc_ops.declared.instr.Instr.TheVariants as instrs
use Rattle.vm_states.specs.bc_machine.Library.{Plain}
use Rattle.vm_states.specs.frame_values.Effects.{Steps}
use Rattle.vm_states.specs.vm_fetching.Instructions as fetched
use Rattle.state_values.specs.Operators.{visits_binary}
use Rattle.state_values.proofs.Ending as ending
use Rattle.state_values.proofs.Finding as finding
use Rattle.state_values.proofs.Visiting as visiting
use Rattle.state_values.proofs.operators.binary_op.Goals as goal

pub binary_op-requires-clause-operator : goal.binary_op-requires-clause-operator
binary_op-requires-clause-operator g c = subst IsSome (sym c.requires.runs.ready.finds.0.is) refl

pub binary_op-requires-clause-right : goal.binary_op-requires-clause-right
binary_op-requires-clause-right g c = (finding.two c.requires.runs c.tops_law.ensures.two c.requires.runs.ready.finds.1).0

pub binary_op-requires-clause-left : goal.binary_op-requires-clause-left
binary_op-requires-clause-left g c = (finding.two c.requires.runs c.tops_law.ensures.two c.requires.runs.ready.finds.1).1

pub binary_op-requires-clause-all_told : goal.binary_op-requires-clause-all_told
binary_op-requires-clause-all_told g c = finding.all_told c.requires.runs

pub returns : goal.returns
returns g c =
    let texts = g.C.Constants.text_of c.args.consts.now in
    let tuples = g.C.Constants.items_of c.args.consts.now in
    let calls = c.args.frames.now.calls in
    let two = finding.two c.requires.runs c.tops_law.ensures.two c.requires.runs.ready.finds.1 in
    let visits = visits_binary texts tuples c.args.arena.now calls c.args.number in
    record {
      acts = ending.puts c.acting_law.ensures.acts (record { instruction = fetched.binary c.args.number; end = c.args.end }) (λ p s row r. r.begins tt) visits (Plain (instrs.Binary c.args.number)) c.args.frames.now c.binary_op.new.frames
          c.binary_op.ensures.leaves (λ p d tells. refl)
          (subst (λ (n : ℕ). Steps texts tuples (Plain (instrs.Binary c.args.number)) n c.args.end c.args.arena.now c.binary_op.new.arena calls c.binary_op.new.frames.calls c.binary_op.result)
          (sym (visiting.visits_are texts tuples c.args.arena.now c.args.number two.1.0 two.0.0 calls two.1.1 two.0.1)) (c.binary_op.ensures.steps two.1.0 two.0.0 two.1.1 two.0.1))
          2 c.binary_op.ensures.moved;
    }
