use Rattle.std.proofs.Common.{◌≡◌, drop, Some, slice_get, sym, ap, ◌∙◌}
use Rattle.frame_moves.specs.bc_ops.declared.instr.Op.TheVariants as ops
use Rattle.prim_names.specs.arena_heap.declared.value.Value.{Value}
use Rattle.prim_names.specs.arena_heap.declared.value.DictNo.{DictNo}
use Rattle.prim_names.specs.arena_objects.Iterables.{or_nothing}
use Rattle.frame_moves.specs.py_effects.Names as effects
use Rattle.prim_names.specs.prim_walks.Plain.{plain}
use Rattle.prim_names.specs.prim_faults.Sights.{world_over}
use Rattle.frame_moves.specs.vm_frames.declared.slot.Slot.TheVariants as slots
use Rattle.frame_moves.specs.vm_frames.Calls.{Call}
use Rattle.frame_moves.specs.vm_frames.Views.{starts_of, frame_of}
use Rattle.frame_moves.specs.bc_machine.Library.{Names}
use Rattle.frame_moves.specs.Shown.{view_of}
use Rattle.frame_moves.proofs.Stepping.{both}
use Rattle.frame_values.specs.Effects.{tables_of}
use Rattle.frame_values.specs.Slots.{without}
use Rattle.frame_values.proofs.Items as items
use Rattle.frame_values.proofs.Settling.{of_effect, takes_steps, changed, leaves}
use Rattle.frame_values.proofs.names.store_name.Goals as goal

pub returns-clause-name : goal.returns-clause-name
returns-clause-name g c =
    let texts = g.C.Constants.text_of c.args.consts.now in
    let tuples = g.C.Constants.items_of c.args.consts.now in
    let before = c.args.arena.now in
    let old = c.args.frames.now in
    takes_steps texts tuples c.args.end 1 before c.store_global-given.new.arena old c.take.new.frames c.take.result c.store_global-given.result 0 _
    (of_effect texts tuples before c.store_global-given.new.arena c.store_global-given.result _ c.store_global-given.ensures)
    (Names ops.StoreName (or_nothing (texts c.args.name))) (λ (d : Call). c.running.result.2 ≡ d.names × (slice_get d.slots 0 ≡ Some (slots.Value c.value_at-v.result))) (both (λ (d : Call). c.running.result.2 ≡ d.names) (λ (d : Call). slice_get d.slots 0 ≡ Some (slots.Value c.value_at-v.result)) old.calls (c.running.ensures.names) (c.value_at-v.ensures.there))
    (λ layout library place paid d frames w h.
    let view = view_of (tables_of texts tuples layout) in
    items.store_name view (starts_of view d) library place paid (frame_of view d) frames (world_over texts tuples w before) (or_nothing (texts c.args.name)) d.slots c.value_at-v.result h.1
    ∙ ap (λ (z : DictNo). items.Dropped view (starts_of view d) library place paid (frame_of view d) frames (world_over texts tuples w before) (drop 1 d.slots) (effects.store_global (world_over texts tuples w before) z.cell (or_nothing (texts c.args.name)) (plain texts tuples c.value_at-v.result))) (sym h.0))
    c.take.ensures

pub returns-clause-global : goal.returns-clause-global
returns-clause-global g c =
    let texts = g.C.Constants.text_of c.args.consts.now in
    let tuples = g.C.Constants.items_of c.args.consts.now in
    let before = c.args.arena.now in
    let old = c.args.frames.now in
    takes_steps texts tuples c.args.end 1 before c.store_global-given.new.arena old c.take.new.frames c.take.result c.store_global-given.result 0 _
    (of_effect texts tuples before c.store_global-given.new.arena c.store_global-given.result _ c.store_global-given.ensures)
    (Names ops.StoreGlobal (or_nothing (texts c.args.name))) (λ (d : Call). c.running.result.2 ≡ d.names × (slice_get d.slots 0 ≡ Some (slots.Value c.value_at-v.result))) (both (λ (d : Call). c.running.result.2 ≡ d.names) (λ (d : Call). slice_get d.slots 0 ≡ Some (slots.Value c.value_at-v.result)) old.calls (c.running.ensures.names) (c.value_at-v.ensures.there))
    (λ layout library place paid d frames w h.
    let view = view_of (tables_of texts tuples layout) in
    items.store_global_name view (starts_of view d) library place paid (frame_of view d) frames (world_over texts tuples w before) (or_nothing (texts c.args.name)) d.slots c.value_at-v.result h.1
    ∙ ap (λ (z : DictNo). items.Dropped view (starts_of view d) library place paid (frame_of view d) frames (world_over texts tuples w before) (drop 1 d.slots) (effects.store_global (world_over texts tuples w before) z.cell (or_nothing (texts c.args.name)) (plain texts tuples c.value_at-v.result))) (sym h.0))
    c.take.ensures

pub returns-clause-moved : goal.returns-clause-moved
returns-clause-moved g c =
    let texts = g.C.Constants.text_of c.args.consts.now in
    let tuples = g.C.Constants.items_of c.args.consts.now in
    let before = c.args.arena.now in
    let old = c.args.frames.now in
    changed texts tuples (without c.args.end 1) old c.take.new.frames c.take.result c.store_global-given.result c.take.ensures

pub returns-clause-leaves : goal.returns-clause-leaves
returns-clause-leaves g c =
    let texts = g.C.Constants.text_of c.args.consts.now in
    let tuples = g.C.Constants.items_of c.args.consts.now in
    let before = c.args.arena.now in
    let old = c.args.frames.now in
    leaves texts tuples (λ (v : Value). without c.args.end 1) old c.take.new.frames c.take.result before c.store_global-given.new.arena c.store_global-given.result 0 _
    (of_effect texts tuples before c.store_global-given.new.arena c.store_global-given.result _ c.store_global-given.ensures) c.take.ensures
