use Rattle.std.proofs.Common.{refl}
use Rattle.vm_states.specs.bc_ops.declared.instr.Op.TheVariants as ops
use Rattle.vm_states.specs.bc_ops.declared.instr.Instr.TheVariants as instrs
use Rattle.vm_states.specs.bc_machine.Library.{Plain}
use Rattle.vm_states.specs.vm_fetching.declared.operations.ItemOp.TheVariants as item_ops
use Rattle.state_values.specs.Moving.{fetched_item}
use Rattle.state_values.proofs.Ending as ending
use Rattle.state_values.proofs.Finding as finding
use Rattle.state_values.proofs.subscripts.set_subscr.Goals as goal

pub store_subscr-requires-clause-index : goal.store_subscr-requires-clause-index
store_subscr-requires-clause-index g c = (finding.stored c.requires.runs c.tops_law.ensures.stored c.requires.runs.ready.finds).0

pub store_subscr-requires-clause-object : goal.store_subscr-requires-clause-object
store_subscr-requires-clause-object g c = (finding.stored c.requires.runs c.tops_law.ensures.stored c.requires.runs.ready.finds).1

pub store_subscr-requires-clause-value : goal.store_subscr-requires-clause-value
store_subscr-requires-clause-value g c = finding.known_there c.requires.runs 2 c.requires.value.0 c.requires.value.1

pub store_subscr-requires-clause-all_told : goal.store_subscr-requires-clause-all_told
store_subscr-requires-clause-all_told g c = finding.all_told c.requires.runs

pub returns : goal.returns
returns g c =
    record {
      acts = ending.takes c.acting_law.ensures.acts (fetched_item item_ops.StoreSubscr c.args.end) (λ p s row r. r.begins tt) 0 (Plain (instrs.Plain ops.StoreSubscr)) c.args.frames.now c.store_subscr.new.frames
          c.store_subscr.ensures.leaves (λ p d tells. refl) c.store_subscr.ensures.steps 3 c.store_subscr.ensures.moved;
    }
