use Rattle.std.proofs.Common.{◌≡◌, ◌<◌, List, Some, length, slice_get, refl, ap}
use Rattle.prim_faults.specs.arena_objects.Keys.{AllTold}
use Rattle.vm_states.specs.vm_frames.declared.slot.Slot.{Slot}
use Rattle.vm_states.specs.vm_frames.declared.slot.Slot.TheVariants as slots
use Rattle.vm_states.specs.vm_frames.Calls.{Call}
use Rattle.vm_states.specs.vm_frames.Views.{starts_of}
use Rattle.vm_states.specs.vm_frames.Placed.{IsPlaced}
use Rattle.vm_states.specs.frame_moves.Shown.{view_of}
use Rattle.vm_states.specs.frame_exits.Known.{HasModule}
use Rattle.vm_states.specs.vm_fetching.declared.operations.LeaveOp.TheVariants as leave_ops
use Rattle.state_exits.specs.Running.{fetched_leave}
use Rattle.state_exits.proofs.Tellings.{out, tables_are, counted, known_out, last_out, registered_out}
use Rattle.state_exits.proofs.Places.{on_first, all_first}
use Rattle.state_exits.proofs.Found.{first_known}
use Rattle.state_exits.proofs.Returns.{same_calls, same_through, waits_so, settled_so}
use Rattle.state_exits.proofs.returning.return_on.Goals as goal

pub return_value-after-requires-clause-value : goal.return_value-after-requires-clause-value
return_value-after-requires-clause-value g c =
    let h = c.requires.runs.2.runs in
    let r = h.ready in
    let t = c.tops_law.ensures.one (view_of h.program.tables) (starts_of (view_of h.program.tables) r.first) r.first.slots r.finds in
    (t.top, on_first h.program c.args.frames.now c.requires.runs.1 (fetched_leave leave_ops.ReturnValue c.requires.runs.0) r (λ d. slice_get d.slots 0 ≡ Some (slots.Value t.top)) (ap (λ (z : List Slot). slice_get z 0) t.are))

pub return_value-after-requires-clause-named : goal.return_value-after-requires-clause-named
return_value-after-requires-clause-named g c =
    let h = c.requires.runs.2.runs in
    let f = fetched_leave leave_ops.ReturnValue c.requires.runs.0 in
    let N : Call → Type 0 = λ d. d.module_number < length c.args.names.now in
    let all = counted (g.C.Constants.text_of c.args.consts.now) (g.C.Constants.items_of c.args.consts.now) h.program h.tells c.args.names.now h.named c.args.frames.now.calls h.state.running.of_modules in
    on_first h.program c.args.frames.now c.requires.runs.1 f h.ready N (all_first h.program c.args.frames.now c.requires.runs.1 f h.ready N all)

pub return_value-after-requires-clause-role : goal.return_value-after-requires-clause-role
return_value-after-requires-clause-role g c =
    let h = c.requires.runs.2.runs in
    let f = fetched_leave leave_ops.ReturnValue c.requires.runs.0 in
    let objects = c.args.arena.now.objects in
    on_first h.program c.args.frames.now c.requires.runs.1 f h.ready (λ d. HasModule objects d.role) (first_known h.program objects c.args.frames.now c.requires.runs.1 f h.ready h.state).role

pub return_value-after-requires-clause-last : goal.return_value-after-requires-clause-last
return_value-after-requires-clause-last g c =
    let h = c.requires.runs.2.runs in
    last_out (g.C.Constants.text_of c.args.consts.now) (g.C.Constants.items_of c.args.consts.now) h.program h.tells c.args.names.now h.named

pub return_value-after-requires-clause-registered : goal.return_value-after-requires-clause-registered
return_value-after-requires-clause-registered g c =
    let h = c.requires.runs.2 in
    registered_out (g.C.Constants.text_of c.args.consts.now) (g.C.Constants.items_of c.args.consts.now) h.runs.program h.runs.tells c.args.names.now h.runs.named c.args.arena.now c.args.modules.now h.registered

pub return_value-after-requires-clause-all_told : goal.return_value-after-requires-clause-all_told
return_value-after-requires-clause-all_told g c =
    let h = c.requires.runs.2.runs in
    out (g.C.Constants.text_of c.args.consts.now) (g.C.Constants.items_of c.args.consts.now) h.program h.tells (λ x y. AllTold x y c.args.arena.now.objects) h.state.all_told

pub settle-requires-clause-waits : goal.settle-requires-clause-waits
settle-requires-clause-waits g c =
    let h = c.requires.runs.2 in
    let p = h.runs.program in
    let r = h.runs.ready in
    let texts = g.C.Constants.text_of c.args.consts.now in
    let tuples = g.C.Constants.items_of c.args.consts.now in
    let old = c.args.frames.now in
    let u = c.return_value-after.ensures in
    let t = c.tops_law.ensures.one (view_of p.tables) (starts_of (view_of p.tables) r.first) r.first.slots r.finds in
    let f = fetched_leave leave_ops.ReturnValue c.requires.runs.0 in
    let row = c.requires.runs.1 in
    let top = on_first p old row f r (λ d. slice_get d.slots 0 ≡ Some (slots.Value t.top)) (ap (λ (z : List Slot). slice_get z 0) t.are) in
    let P : Call → Type 0 = λ d. IsPlaced (view_of p.tables) d in (
      p,
      h.runs.means,
      h.shelf_is,
      waits_so c.keeps_law.ensures.went c.sound_law.ensures.steps c.progress_law.ensures.step texts tuples c.args.names.now p h.runs.means h.runs.tells h.runs.named
          c.args.arena.now c.return_value-after.new.arena c.args.modules.now c.args.modules.now old c.return_value-after.new.frames c.return_value-after.result h.runs.state h.registered row f r
          (λ paid w. u.steps p.tables r.place w (tables_are texts tuples p h.runs.tells c.args.names.now h.runs.named) (on_first p old row f r P (all_first p old row f r P h.runs.state.running.placed)) p.library paid)
          (u.placed (view_of p.tables)) u.keeps (same_calls old c.return_value-after.new.frames _ (u.calls t.top top)),
    )

pub returns-clause-comes : goal.returns-clause-comes
returns-clause-comes g c p end row same means tells named state registered r =
    let texts = g.C.Constants.text_of c.args.consts.now in
    let tuples = g.C.Constants.items_of c.args.consts.now in
    let old = c.args.frames.now in
    let mid = c.return_value-after.new.frames in
    let u = c.return_value-after.ensures in
    let t = c.tops_law.ensures.one (view_of p.tables) (starts_of (view_of p.tables) r.first) r.first.slots r.finds in
    let f = fetched_leave leave_ops.ReturnValue end in
    let top = on_first p old row f r (λ d. slice_get d.slots 0 ≡ Some (slots.Value t.top)) (ap (λ (z : List Slot). slice_get z 0) t.are) in
    let P : Call → Type 0 = λ d. IsPlaced (view_of p.tables) d in
    let moved = same_calls old mid _ (u.calls t.top top) in
    settled_so c.keeps_law.ensures.went c.sound_law.ensures.steps c.progress_law.ensures.step texts tuples c.args.names.now p means tells named
    c.args.arena.now c.return_value-after.new.arena c.args.modules.now c.args.modules.now old mid c.return_value-after.result state registered row f r (λ paid w. u.steps p.tables r.place w (tables_are texts tuples p tells c.args.names.now named) (on_first p old row f r P (all_first p old row f r P state.running.placed)) p.library paid) (u.placed (view_of p.tables)) u.keeps moved
    c.settle.new.frames c.settle.result
    (c.settle.ensures.settles p means same (waits_so c.keeps_law.ensures.went c.sound_law.ensures.steps c.progress_law.ensures.step texts tuples c.args.names.now p means tells named
    c.args.arena.now c.return_value-after.new.arena c.args.modules.now c.args.modules.now old mid c.return_value-after.result state registered row f r (λ paid w. u.steps p.tables r.place w (tables_are texts tuples p tells c.args.names.now named) (on_first p old row f r P (all_first p old row f r P state.running.placed)) p.library paid) (u.placed (view_of p.tables)) u.keeps moved))
    c.settle.ensures.same (λ x y modules objects. c.settle.ensures.known x y modules objects) c.settle.ensures.ended
    (u.after (known_out texts tuples p tells c.args.names.now named c.args.arena.now.objects old.calls state.known)) registered.own refl

pub returns-clause-rooms : goal.returns-clause-rooms
returns-clause-rooms g c =
    let h = c.requires.runs.2.runs in
    let r = h.ready in
    let old = c.args.frames.now in
    let mid = c.return_value-after.new.frames in
    let t = c.tops_law.ensures.one (view_of h.program.tables) (starts_of (view_of h.program.tables) r.first) r.first.slots r.finds in
    let top = on_first h.program old c.requires.runs.1 (fetched_leave leave_ops.ReturnValue c.requires.runs.0) r (λ d. slice_get d.slots 0 ≡ Some (slots.Value t.top)) (ap (λ (z : List Slot). slice_get z 0) t.are) in
    same_through old mid c.settle.new.frames (same_calls old mid _ (c.return_value-after.ensures.calls t.top top)) c.settle.ensures.same
