use Rattle.std.proofs.Common.{[], refl}
use Rattle.frame_moves.specs.mpy_base.World.{DictObject}
use Rattle.frame_moves.specs.mpy_base.Weights.{room_for}
use Rattle.frame_moves.specs.bc_ops.declared.instr.Op.TheVariants as ops
use Rattle.frame_moves.specs.bc_ops.declared.instr.Instr.TheVariants as instrs
use Rattle.prim_names.specs.prim_types.py_primitives.Outcome.{making}
use Rattle.prim_names.specs.prim_walks.Plain.{plain_heap}
use Rattle.frame_moves.specs.vm_frames.Calls.{Call}
use Rattle.std.specs.Prelude.{◌<◌, length}
use Rattle.frame_moves.specs.bc_machine.Library.{Plain}
use Rattle.frame_values.proofs.Visits.{making_free}
use Rattle.frame_values.proofs.Settling.{of_outcome, puts_steps}
use Rattle.frame_values.proofs.displays.build_map.Goals as goal

pub returns-clause-steps : goal.returns-clause-steps
returns-clause-steps g c =
    let texts = g.C.Constants.text_of c.args.consts.now in
    let tuples = g.C.Constants.items_of c.args.consts.now in
    let before = c.args.arena.now in
    let old = c.args.frames.now in
    puts_steps texts tuples c.args.end 0 before c.make_dict-given.new.arena old c.put.new.frames c.put.result c.make_dict-given.result 0 _
    (of_outcome texts tuples before c.make_dict-given.new.arena c.make_dict-given.result 0 (λ heap. making heap (DictObject [] (room_for c.args.pairs))) c.make_dict-given.ensures (making_free (plain_heap texts tuples before) (DictObject [] (room_for c.args.pairs))))
    (Plain (instrs.Num ops.BuildMap c.args.pairs)) (λ (d : Call). length d.slots < old.slot_room) c.requires.room
    (λ layout library place paid d frames w h. refl)
    c.put.ensures
