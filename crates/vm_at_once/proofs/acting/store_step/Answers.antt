use Rattle.std.proofs.Common.{◌∙◌, Ok, sym, ap, subst}
use Rattle.state_values.specs.vm_fetching.declared.instruction.Step.{Step}
use Rattle.state_values.specs.vm_fetching.declared.instruction.Step.TheVariants as steps
use Rattle.state_values.specs.vm_fetching.declared.operations.ItemOp.{ItemOp}
use Rattle.state_values.specs.vm_fetching.declared.operations.ItemOp.TheVariants as item_ops
use Rattle.state_values.specs.vm_fetching.Instructions as fetched
use Rattle.state_values.specs.Keeping.{ActsKeeping}
use Rattle.vm_at_once.proofs.Forms.{step_runs}
use Rattle.vm_at_once.proofs.acting.store_step.Goals as goal

pub store_item-requires : goal.store_item-requires
store_item-requires g c =
    record { runs = step_runs (g.C.Constants.text_of c.args.consts.now) (g.C.Constants.items_of c.args.consts.now) c.args.step (steps.Item item_ops.StoreSubscr) c.args.end (c.in-Item.is ∙ ap (λ (o : ItemOp). steps.Item o) c.in-StoreSubscr.is) c.args.arena.now c.args.frames.now c.requires.runs }

pub returns-in-StoreSubscr-clause-done : goal.returns-in-StoreSubscr-clause-done
returns-in-StoreSubscr-clause-done g c done =
    subst (λ (j : Step). ActsKeeping (g.C.Constants.text_of c.args.consts.now) (g.C.Constants.items_of c.args.consts.now) (record { instruction = fetched.stays j; end = c.args.end }) 0 c.args.arena.now c.store_item.new.arena c.args.frames.now c.store_item.new.frames (Ok tt)) (sym (c.in-Item.is ∙ ap (λ (o : ItemOp). steps.Item o) c.in-StoreSubscr.is))
    (c.store_item.ensures.done done)
