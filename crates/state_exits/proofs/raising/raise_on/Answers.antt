use Rattle.std.proofs.Common.{◌≡◌, List, Some, slice_get, ap, subst}
use Rattle.vm_states.specs.bc_ops.declared.instr.Op.TheVariants as ops
use Rattle.vm_states.specs.bc_ops.declared.instr.Instr.TheVariants as instrs
use Rattle.bc_progress.specs.py_effects.Effect.{Place}
use Rattle.prim_faults.specs.arena_objects.Keys.{AllTold}
use Rattle.vm_states.specs.bc_machine.Library.{Plain}
use Rattle.prim_faults.specs.Faults.{IsKnown}
use Rattle.vm_states.specs.vm_frames.declared.slot.Slot.{Slot}
use Rattle.vm_states.specs.vm_frames.declared.slot.Slot.TheVariants as slots
use Rattle.vm_states.specs.vm_frames.Views.{starts_of}
use Rattle.vm_states.specs.frame_moves.Shown.{view_of, step_of}
use Rattle.vm_states.specs.frame_moves.Outcomes.{world_of}
use Rattle.vm_states.specs.frame_exits.Ends.{with_modules, state_of}
use Rattle.vm_states.specs.vm_fetching.declared.operations.LeaveOp.TheVariants as leave_ops
use Rattle.state_exits.specs.Modules.{registered_names}
use Rattle.state_exits.specs.Running.{fetched_leave}
use Rattle.state_exits.proofs.Registered.{own_fewer}
use Rattle.state_exits.proofs.Sounds.{raising_in}
use Rattle.state_exits.proofs.Tellings.{out, tables_are, counted}
use Rattle.state_exits.proofs.Places.{some_run, on_first, place_here}
use Rattle.state_exits.proofs.Found.{top_known, first_known}
use Rattle.state_exits.proofs.Ends.{thrown_same}
use Rattle.state_exits.proofs.Raises.{raises_on}
use Rattle.state_exits.proofs.raising.raise_on.Goals as goal

pub place_in-place-requires-clause-running : goal.place_in-place-requires-clause-running
place_in-place-requires-clause-running g c =
    let h = c.requires.runs.1 in some_run h.program c.args.frames.now c.args.row.now (fetched_leave leave_ops.RaiseObj c.requires.runs.0) h.ready

pub place_in-place-requires-clause-row : goal.place_in-place-requires-clause-row
place_in-place-requires-clause-row g c = let h = c.requires.runs.1 in (h.program.shelf, h.number, h.verified)

pub raise_obj-requires-clause-value : goal.raise_obj-requires-clause-value
raise_obj-requires-clause-value g c =
    let h = c.requires.runs.1 in
    let r = h.ready in
    let f = fetched_leave leave_ops.RaiseObj c.requires.runs.0 in
    let s = c.args.frames.now in
    let view = view_of h.program.tables in
    let t = c.tops_law.ensures.one view (starts_of view r.first) r.first.slots r.finds in
    let objects = c.args.arena.now.objects in (
      t.top,
      on_first h.program s c.args.row.now f r (λ d. slice_get d.slots 0 ≡ Some (slots.Value t.top)) (ap (λ (z : List Slot). slice_get z 0) t.are),
      out (g.C.Constants.text_of c.args.consts.now) (g.C.Constants.items_of c.args.consts.now) h.program h.tells (λ x y. IsKnown x y objects t.top)
          (top_known h.program objects r.first.slots t.top t.below t.are (first_known h.program objects s c.args.row.now f r h.state).slots),
    )

pub raise_obj-requires-clause-named : goal.raise_obj-requires-clause-named
raise_obj-requires-clause-named g c =
    let h = c.requires.runs.1 in
    counted (g.C.Constants.text_of c.args.consts.now) (g.C.Constants.items_of c.args.consts.now) h.program h.tells c.args.names.now h.named c.args.frames.now.calls h.state.running.of_modules

pub raise_obj-requires-clause-all_told : goal.raise_obj-requires-clause-all_told
raise_obj-requires-clause-all_told g c =
    let h = c.requires.runs.1 in
    out (g.C.Constants.text_of c.args.consts.now) (g.C.Constants.items_of c.args.consts.now) h.program h.tells (λ x y. AllTold x y c.args.arena.now.objects) h.state.all_told

pub returns-clause-comes : goal.returns-clause-comes
returns-clause-comes g c p end means tells named state registered r =
    let texts = g.C.Constants.text_of c.args.consts.now in
    let tuples = g.C.Constants.items_of c.args.consts.now in
    let old = c.args.frames.now in
    let new = c.raise_obj.new.frames in
    let a0 = c.args.arena.now in
    let a1 = c.raise_obj.new.arena in
    let m0 = c.args.modules.now in
    let m1 = c.raise_obj.new.modules in
    let f = fetched_leave leave_ops.RaiseObj end in
    let item = Plain (instrs.Plain ops.RaiseObj) in
    raises_on c.keeps_law.ensures.went c.sound_law.ensures.steps texts tuples c.args.names.now p means tells named a0 a1 m0 m1 old new c.raise_obj.result
    c.raise_obj.ensures.thrown c.raise_obj.ensures.placed c.raise_obj.ensures.keeps c.raise_obj.ensures.forgets state.known c.args.row.now f state registered r
    (λ paid w h. raising_in (registered_names p) p.tables (own_fewer (registered_names p)) p.library r.place paid w h old.calls)
    (λ paid w. subst (λ (z : Place). step_of p.tables p.library z paid old.calls (world_of p.tables (with_modules p.tables w m0) a0) item ≡ state_of p.tables c.raise_obj.result new.calls (world_of p.tables (with_modules p.tables w m1) a1))
    (place_here p old c.args.row.now f r means c.place_in-place.result c.place_in-place.ensures)
    (c.raise_obj.ensures.steps p.tables w (tables_are texts tuples p tells c.args.names.now named) state.running.placed p.library paid))

pub returns-clause-rooms : goal.returns-clause-rooms
returns-clause-rooms g c = thrown_same c.raise_obj.new.arena.objects c.args.frames.now c.raise_obj.new.frames c.raise_obj.result c.raise_obj.ensures.thrown

pub returns-clause-registry : goal.returns-clause-registry
returns-clause-registry g c = c.raise_obj.ensures.forgets.room
