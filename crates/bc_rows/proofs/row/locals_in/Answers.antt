use Rattle.std.proofs.Common.{◌∙◌, ap}
use Rattle.std.specs.Prelude.{max}
use Rattle.bc_machine.specs.bc_ops.declared.instr.Op.TheVariants as ops
use Rattle.bc_machine.specs.bc_ops.declared.instr.Instr.TheVariants as instrs
use Rattle.bc_machine.specs.bc_ops.declared.listing.Item.TheVariants as listed
use Rattle.bc_rows.proofs.Locals.{locals_next}
use Rattle.bc_rows.proofs.row.locals_in.Goals as goal

pub loop-item-preserved : goal.loop-item-preserved
loop-item-preserved c =
    let d = listed.Plain (instrs.Plain ops.LoadConstString) in
    c.max-most.ensures
    ∙ (ap (max c.loop-item.most) c.local_of.ensures
    ∙ locals_next c.args.params c.args.items.now c.loop-item.item-index c.loop-item.most d c.loop-item-test.true c.loop-item.invariant)
