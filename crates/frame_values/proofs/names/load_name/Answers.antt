use Rattle.std.proofs.Common.{◌≡◌, drop, sym, ap}
use Rattle.frame_moves.specs.bc_ops.declared.instr.Op.TheVariants as ops
use Rattle.prim_names.specs.arena_heap.declared.value.DictNo.{DictNo}
use Rattle.prim_names.specs.arena_objects.Iterables.{or_nothing}
use Rattle.frame_moves.specs.py_effects.Names as effects
use Rattle.prim_names.specs.prim_faults.Sights.{world_over}
use Rattle.frame_moves.specs.vm_frames.Calls.{Call}
use Rattle.frame_moves.specs.vm_frames.Views.{starts_of, frame_of}
use Rattle.frame_moves.specs.bc_machine.Library.{Names}
use Rattle.frame_moves.specs.Shown.{view_of}
use Rattle.frame_values.specs.Effects.{tables_of}
use Rattle.frame_values.specs.Slots.{with_value}
use Rattle.frame_values.proofs.Items as items
use Rattle.frame_values.proofs.Settling.{of_effect, puts_steps, moved, leaves}
use Rattle.frame_values.proofs.names.load_name.Goals as goal

pub returns-clause-name : goal.returns-clause-name
returns-clause-name g c =
    let texts = g.C.Constants.text_of c.args.consts.now in
    let tuples = g.C.Constants.items_of c.args.consts.now in
    let before = c.args.arena.now in
    let old = c.args.frames.now in
    puts_steps texts tuples c.args.end 0 before c.args.arena.now old c.put.new.frames c.put.result c.load_global-given.result 0 _
    (of_effect texts tuples before before c.load_global-given.result _ c.load_global-given.ensures)
    (Names ops.LoadName (or_nothing (texts c.args.name))) (λ (d : Call). c.running.result.2 ≡ d.names) (c.running.ensures.names)
    (λ layout library place paid d frames w h.
    let view = view_of (tables_of texts tuples layout) in
    ap (λ (z : DictNo). items.Gave view (starts_of view d) library place paid (frame_of view d) frames (world_over texts tuples w before) (drop 0 d.slots) (effects.load_global (world_over texts tuples w before) z.cell (or_nothing (texts c.args.name)))) (sym h))
    c.put.ensures

pub returns-clause-global : goal.returns-clause-global
returns-clause-global g c =
    let texts = g.C.Constants.text_of c.args.consts.now in
    let tuples = g.C.Constants.items_of c.args.consts.now in
    let before = c.args.arena.now in
    let old = c.args.frames.now in
    puts_steps texts tuples c.args.end 0 before c.args.arena.now old c.put.new.frames c.put.result c.load_global-given.result 0 _
    (of_effect texts tuples before before c.load_global-given.result _ c.load_global-given.ensures)
    (Names ops.LoadGlobal (or_nothing (texts c.args.name))) (λ (d : Call). c.running.result.2 ≡ d.names) (c.running.ensures.names)
    (λ layout library place paid d frames w h.
    let view = view_of (tables_of texts tuples layout) in
    ap (λ (z : DictNo). items.Gave view (starts_of view d) library place paid (frame_of view d) frames (world_over texts tuples w before) (drop 0 d.slots) (effects.load_global (world_over texts tuples w before) z.cell (or_nothing (texts c.args.name)))) (sym h))
    c.put.ensures

pub returns-clause-moved : goal.returns-clause-moved
returns-clause-moved g c =
    let texts = g.C.Constants.text_of c.args.consts.now in
    let tuples = g.C.Constants.items_of c.args.consts.now in
    let before = c.args.arena.now in
    let old = c.args.frames.now in
    moved texts tuples (with_value c.args.end 0) old c.put.new.frames c.put.result before c.args.arena.now c.load_global-given.result 0 _
    (of_effect texts tuples before before c.load_global-given.result _ c.load_global-given.ensures) c.put.ensures

pub returns-clause-leaves : goal.returns-clause-leaves
returns-clause-leaves g c =
    let texts = g.C.Constants.text_of c.args.consts.now in
    let tuples = g.C.Constants.items_of c.args.consts.now in
    let before = c.args.arena.now in
    let old = c.args.frames.now in
    leaves texts tuples (with_value c.args.end 0) old c.put.new.frames c.put.result before c.args.arena.now c.load_global-given.result 0 _
    (of_effect texts tuples before before c.load_global-given.result _ c.load_global-given.ensures) c.put.ensures
