use Rattle.std.proofs.Common.{sym, subst}
use Rattle.mpy_tree.specs.bc_ops.declared.instr.Op.TheVariants.{LoadConstObj}
use Rattle.mpy_tree.specs.bc_ops.declared.instr.Instr.TheVariants as instrs
use Rattle.mpy_tree.specs.bc_ops.Code.{IsEncodable}
use Rattle.mpy_tree.specs.declared.module.Item.{Item}
use Rattle.mpy_tree.specs.declared.module.Item.TheVariants as items
use Rattle.mpy_writer.specs.File.{item_of}
use Rattle.mpy_writer.specs.Positions.{IsPlaced}
use Rattle.mpy_writer.specs.Writable.{IsNumberedItem}
use Rattle.mpy_writer.proofs.Positions.{placed_item}
use Rattle.mpy_writer.proofs.draft.write_draft.Goals as goal

pub encode-requires-in-Object : goal.encode-requires-in-Object
encode-requires-in-Object c =
    let made : Item = items.Object c.in-Object.object in
    let sound : IsNumberedItem c.args.count made = subst (IsNumberedItem c.args.count) c.in-Object.is c.requires.sound in
    let placed : IsPlaced c.args.count (item_of c.args.tables.now made) = placed_item c.args.tables.now c.requires.fit c.args.count made sound in
    subst (λ n. IsEncodable (instrs.Num LoadConstObj n)) (sym c.in_ok-number-in-Object.ensures) placed.0
