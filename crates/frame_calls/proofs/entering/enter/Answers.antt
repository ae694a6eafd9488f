use Rattle.std.proofs.Common.{◌∙◌, length, sym, arith}
use Rattle.std.specs.Prelude.{nat_lt}
use Rattle.mpy_base.specs.declared.limits.TheConstants.{MAX_CALLS}
use Rattle.frame_calls.specs.Entering.{begun}
use Rattle.frame_calls.proofs.Changes.{dropped}
use Rattle.frame_calls.proofs.Enterings.{same_depth, same_room, room_there, entered_is, is_entered, not_entered, below_limit, room_fits, room_same}
use Rattle.frame_calls.proofs.Slots.{size_there}
use Rattle.frame_calls.proofs.entering.enter.Goals as goal

pub drop_slots-requires : goal.drop_slots-requires
drop_slots-requires c = size_there c.args.size c.args.frames.now.calls c.requires.some c.requires.there

pub push_call-requires-clause-shallow : goal.push_call-requires-clause-shallow
push_call-requires-clause-shallow c =
    let less = below_limit (length c.args.frames.now.calls) (sym c.has_depth-deep.ensures ∙ c.if-deep.true) in
    omega (arith, less, same_depth (dropped c.args.size) c.args.frames.now c.drop_slots.new.frames c.drop_slots.ensures)

pub push_call-requires-clause-room : goal.push_call-requires-clause-room
push_call-requires-clause-room c =
    let fits = room_fits c.args.locals (length c.args.values.now) c.locals_count-room.result c.args.frames.now.slot_room c.requires.locals c.requires.params c.locals_count-room.ensures.one in
    omega (arith, fits, same_room (dropped c.args.size) c.args.frames.now c.drop_slots.new.frames c.drop_slots.ensures)

pub fill_locals-requires-clause-there : goal.fill_locals-requires-clause-there
fill_locals-requires-clause-there c =
    room_there c.args.function c.args.module_number c.locals_count-room.result c.args.values.now c.drop_slots.new.frames c.push_call.new.self c.locals_count-room.ensures.least c.push_call.ensures

pub returns-then-deep : goal.returns-then-deep
returns-then-deep c =
    is_entered c.args.size (begun c.args.function c.args.module_number c.args.locals c.args.values.now) c.args.frames.now c.fill_locals.new.frames (nat_lt (length c.args.frames.now.calls) MAX_CALLS) (sym c.has_depth-deep.ensures ∙ c.if-deep.true)
    (entered_is c.args.function c.args.module_number c.locals_count-room.result c.args.locals c.args.size c.args.values.now c.args.frames.now c.drop_slots.new.frames c.push_call.new.self c.fill_locals.new.frames
    (room_same c.args.locals (length c.args.values.now) c.locals_count-room.result c.locals_count-room.ensures.least c.locals_count-room.ensures.all c.locals_count-room.ensures.one) c.drop_slots.ensures c.push_call.ensures c.fill_locals.ensures)

pub returns-else-deep : goal.returns-else-deep
returns-else-deep c =
    not_entered c.args.size (begun c.args.function c.args.module_number c.args.locals c.args.values.now) c.args.frames.now (nat_lt (length c.args.frames.now.calls) MAX_CALLS) (sym c.has_depth-deep.ensures ∙ c.if-deep.false)
