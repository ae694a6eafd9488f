use Rattle.std.proofs.Common.{refl}
use Rattle.vm_states.specs.bc_ops.declared.instr.Op.TheVariants as ops
use Rattle.vm_states.specs.bc_ops.declared.instr.Instr.TheVariants as instrs
use Rattle.vm_states.specs.bc_machine.Library.{Plain}
use Rattle.vm_states.specs.vm_fetching.declared.operations.ItemOp.TheVariants as item_ops
use Rattle.state_values.specs.Moving.{fetched_item}
use Rattle.state_values.proofs.Ending as ending
use Rattle.state_values.proofs.Finding as finding
use Rattle.state_values.proofs.subscripts.delete_subscr.Goals as goal

pub delete_subscr-requires-clause-index : goal.delete_subscr-requires-clause-index
delete_subscr-requires-clause-index g c = (finding.stored c.requires.runs c.tops_law.ensures.stored c.requires.runs.ready.finds).0

pub delete_subscr-requires-clause-object : goal.delete_subscr-requires-clause-object
delete_subscr-requires-clause-object g c = (finding.stored c.requires.runs c.tops_law.ensures.stored c.requires.runs.ready.finds).1

pub delete_subscr-requires-clause-all_told : goal.delete_subscr-requires-clause-all_told
delete_subscr-requires-clause-all_told g c = finding.all_told c.requires.runs

pub returns : goal.returns
returns g c =
    record {
      acts = ending.takes c.acting_law.ensures.acts (fetched_item item_ops.StoreSubscr c.args.end) (λ p s row r. r.begins tt) 0 (Plain (instrs.Plain ops.StoreSubscr)) c.args.frames.now c.delete_subscr.new.frames
          c.delete_subscr.ensures.leaves (λ p d tells. refl) c.delete_subscr.ensures.steps 3 c.delete_subscr.ensures.moved;
    }
