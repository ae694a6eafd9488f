use Rattle.std.proofs.Common.{Option, ◌∙◌, ap}
use Rattle.frame_moves.specs.arena_heap.declared.value.Value.{Value}
use Rattle.frame_moves.specs.vm_frames.declared.slot.Slot.TheVariants as slots
use Rattle.frame_calls.specs.Layouts.{tables_of}
use Rattle.frame_calls.proofs.Invokings.{free_is, free_called}
use Rattle.frame_calls.proofs.calling.looked_callee.Goals as goal

pub returns-in-Object-None-clause-called : goal.returns-in-Object-None-clause-called
returns-in-Object-None-clause-called g c layout =
    let t = tables_of (g.C.Constants.text_of c.args.consts.now) (g.C.Constants.items_of c.args.consts.now) layout in
    let none = rw c.in-Object-None.is at c.in-Object-None.field-0-is in
    free_called t 0 c.args.arena.now c.callee_of.result c.args.upper c.args.lower c.value_of-callee.result (free_is c.args.upper c.args.lower c.requires.looked (c.in-Object-None.is ∙ ap (λ (o : Option Value). slots.Object o) none)) c.value_of-callee.ensures c.callee_of.ensures.callee
