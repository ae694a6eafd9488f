use Rattle.std.proofs.Common.{◌∙◌, sym}
use Rattle.bc_shapes.proofs.InPlace.{slot_changed}
use Rattle.bc_shapes.proofs.joining.join_slot.Goals as goal

pub returns-clause-some : goal.returns-clause-some
returns-clause-some c = slot_changed c.args.slots.now.items c.args.i c.args.kind c.index.result.now c.in_ok-new.new c.join_kind.result c.requires c.index.ensures c.join_kind.ensures c.in_ok-new.was (sym c.stays.ensures ∙ c.if-stays.false)
