use Rattle.std.proofs.Common.{ℕ, ◌-◌, ◌<◌, ◌≤◌, suc, length, map, sym, subst}
use Rattle.frame_moves.specs.bc_ops.declared.instr.Op.TheVariants as ops
use Rattle.frame_moves.specs.bc_ops.declared.instr.Instr.TheVariants as instrs
use Rattle.prim_names.specs.prim_types.py_primitives.Outcome.{making_tuple}
use Rattle.prim_names.specs.prim_walks.Plain.{plain, plain_heap}
use Rattle.prim_names.specs.prim_faults.Sights.{world_over}
use Rattle.frame_moves.specs.vm_frames.Calls.{Call, OfRunning}
use Rattle.frame_moves.specs.bc_machine.Library.{Plain}
use Rattle.frame_moves.specs.Shown.{view_of}
use Rattle.frame_values.specs.Effects.{tables_of, Steps}
use Rattle.frame_values.specs.Slots.{HasValue}
use Rattle.frame_values.proofs.Visits.{tuple_free}
use Rattle.frame_values.proofs.Displaying.{lie, built, Lies, enough_slots}
use Rattle.frame_values.proofs.Settling.{of_outcome, puts_steps}
use Rattle.frame_values.proofs.displays.build_tuple.Goals as goal

pub returns-clause-steps : goal.returns-clause-steps
returns-clause-steps g c =
    let texts = g.C.Constants.text_of c.args.consts.now in
    let tuples = g.C.Constants.items_of c.args.consts.now in
    let before = c.args.arena.now in
    let old = c.args.frames.now in
    let items = c.gather.new.items in
    let n = length c.args.items.now in
    let behind = c.make_tuple-given.new.arena in
    let there = enough_slots texts tuples before.objects n old.calls (λ (d : Call). length d.slots < old.slot_room) c.requires.known c.requires.room in
    let lies : OfRunning (Lies items) old.calls =
    lie items old.calls (subst (λ (k : ℕ). OfRunning (λ (d : Call). k ≤ length d.slots) old.calls) (sym c.gather.ensures.count) there)
    (λ at v e. subst (λ (k : ℕ). HasValue (k - suc at) v old.calls) (sym c.gather.ensures.count) (c.gather.ensures.values at v e)) in
    subst (λ (k : ℕ). Steps texts tuples (Plain (instrs.Num ops.BuildTuple k)) 0 c.args.end before behind old.calls c.put.new.frames.calls c.put.result) c.gather.ensures.count
    (puts_steps texts tuples c.args.end (length items) before behind old c.put.new.frames c.put.result c.make_tuple-given.result 0 _
    (of_outcome texts tuples before behind c.make_tuple-given.result 0 (λ heap. making_tuple heap (map (plain texts tuples) items)) c.make_tuple-given.ensures.outcome (tuple_free (plain_heap texts tuples before) (map (plain texts tuples) items)))
    (Plain (instrs.Num ops.BuildTuple (length items))) (Lies items) lies
    (λ layout library place paid d frames w h.
    let view = view_of (tables_of texts tuples layout) in
    let world = world_over texts tuples w before in
    built view library place paid frames world items d h (making_tuple world.heap))
    c.put.ensures)
