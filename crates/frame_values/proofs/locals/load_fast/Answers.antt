use Rattle.std.proofs.Common.{◌≡◌, drop, Some, slice_get, ap}
use Rattle.frame_moves.specs.bc_ops.declared.instr.Op.TheVariants as ops
use Rattle.frame_moves.specs.bc_ops.declared.instr.Instr.TheVariants as instrs
use Rattle.frame_moves.specs.mpy_base.Val.{Val}
use Rattle.frame_moves.specs.py_effects.Effect.{Effect}
use Rattle.prim_names.specs.prim_faults.Sights.{world_over}
use Rattle.frame_moves.specs.vm_frames.Calls.{Call}
use Rattle.frame_moves.specs.vm_frames.Views.{starts_of, frame_of}
use Rattle.frame_moves.specs.bc_machine.Library.{Plain}
use Rattle.frame_moves.specs.Shown.{view_of}
use Rattle.frame_values.specs.Effects.{tables_of}
use Rattle.frame_values.specs.Slots.{with_value}
use Rattle.frame_values.proofs.Emptying.{loaded}
use Rattle.frame_values.proofs.Items as items
use Rattle.frame_values.proofs.Settling.{of_effect, puts_steps, moved, leaves}
use Rattle.frame_values.proofs.locals.load_fast.Goals as goal

pub returns-clause-short : goal.returns-clause-short
returns-clause-short g c =
    let texts = g.C.Constants.text_of c.args.consts.now in
    let tuples = g.C.Constants.items_of c.args.consts.now in
    let before = c.args.arena.now in
    let old = c.args.frames.now in
    puts_steps texts tuples c.args.end 0 before c.args.arena.now old c.put.new.frames c.put.result c.assigned-given.result 0 _
    (of_effect texts tuples before before c.assigned-given.result _ c.assigned-given.ensures)
    (Plain (instrs.Num ops.LoadFast c.args.n)) (λ (d : Call). slice_get d.locals c.args.n ≡ Some c.local_at-local.result) (c.local_at-local.ensures.there)
    (λ layout library place paid d frames w h.
    let view = view_of (tables_of texts tuples layout) in
    ap (λ (e : Effect Val). items.Gave view (starts_of view d) library place paid (frame_of view d) frames (world_over texts tuples w before) (drop 0 d.slots) e) (loaded view (world_over texts tuples w before) d.locals c.args.n c.local_at-local.result h))
    c.put.ensures

pub returns-clause-long : goal.returns-clause-long
returns-clause-long g c =
    let texts = g.C.Constants.text_of c.args.consts.now in
    let tuples = g.C.Constants.items_of c.args.consts.now in
    let before = c.args.arena.now in
    let old = c.args.frames.now in
    puts_steps texts tuples c.args.end 0 before c.args.arena.now old c.put.new.frames c.put.result c.assigned-given.result 0 _
    (of_effect texts tuples before before c.assigned-given.result _ c.assigned-given.ensures)
    (Plain (instrs.Num ops.LoadFastN c.args.n)) (λ (d : Call). slice_get d.locals c.args.n ≡ Some c.local_at-local.result) (c.local_at-local.ensures.there)
    (λ layout library place paid d frames w h.
    let view = view_of (tables_of texts tuples layout) in
    ap (λ (e : Effect Val). items.Gave view (starts_of view d) library place paid (frame_of view d) frames (world_over texts tuples w before) (drop 0 d.slots) e) (loaded view (world_over texts tuples w before) d.locals c.args.n c.local_at-local.result h))
    c.put.ensures

pub returns-clause-moved : goal.returns-clause-moved
returns-clause-moved g c =
    let texts = g.C.Constants.text_of c.args.consts.now in
    let tuples = g.C.Constants.items_of c.args.consts.now in
    let before = c.args.arena.now in
    let old = c.args.frames.now in
    moved texts tuples (with_value c.args.end 0) old c.put.new.frames c.put.result before c.args.arena.now c.assigned-given.result 0 _
    (of_effect texts tuples before before c.assigned-given.result _ c.assigned-given.ensures) c.put.ensures

pub returns-clause-leaves : goal.returns-clause-leaves
returns-clause-leaves g c =
    let texts = g.C.Constants.text_of c.args.consts.now in
    let tuples = g.C.Constants.items_of c.args.consts.now in
    let before = c.args.arena.now in
    let old = c.args.frames.now in
    leaves texts tuples (with_value c.args.end 0) old c.put.new.frames c.put.result before c.args.arena.now c.assigned-given.result 0 _
    (of_effect texts tuples before before c.assigned-given.result _ c.assigned-given.ensures) c.put.ensures
