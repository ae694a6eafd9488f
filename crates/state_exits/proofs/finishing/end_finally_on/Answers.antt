use Rattle.std.proofs.Common.{◌≡◌, ◌<◌, length, [], Some, slice_get}
use Rattle.prim_faults.specs.arena_objects.Keys.{AllTold}
use Rattle.vm_states.specs.mpy_base.Val.{PlainWorld}
use Rattle.vm_states.specs.bc_ops.declared.instr.Op.TheVariants as ops
use Rattle.vm_states.specs.bc_ops.declared.instr.Instr.TheVariants as instrs
use Rattle.bc_progress.specs.py_effects.Ends.{new_world}
use Rattle.vm_states.specs.bc_machine.Library.{Plain}
use Rattle.vm_states.specs.vm_frames.Views.{starts_of, position_of}
use Rattle.vm_states.specs.frame_moves.Shown.{view_of, step_of}
use Rattle.vm_states.specs.frame_moves.Outcomes.{world_of}
use Rattle.vm_states.specs.frame_exits.Causes.{cause_slot, FitsEntries, GoesOn, unkept}
use Rattle.vm_states.specs.frame_exits.Ends.{with_modules}
use Rattle.vm_states.specs.frame_exits.Known.{HasModule}
use Rattle.state_exits.specs.Keeping.{TargetStarts}
use Rattle.state_exits.specs.Modules.{registered_names}
use Rattle.state_exits.specs.Running.{fetched_finish}
use Rattle.state_exits.proofs.Registered.{own_fewer}
use Rattle.state_exits.proofs.Sounds.{ending_in}
use Rattle.state_exits.proofs.Tellings.{out, tables_are, counted, known_out, last_out, registered_out}
use Rattle.state_exits.proofs.Places.{on_first, of_first}
use Rattle.state_exits.proofs.Found.{first_known}
use Rattle.state_exits.proofs.Returns.{same_calls, same_through, waits_so, settled_so}
use Rattle.state_exits.proofs.Finallys.{own_after, fits_here, some_entry, goes_on_here}
use Rattle.state_exits.proofs.finishing.end_finally_on.Goals as goal

pub end_finally-after-requires-clause-cause : goal.end_finally-after-requires-clause-cause
end_finally-after-requires-clause-cause g c =
    let h = c.requires.runs.1 in
    let k = c.requires.runs.2 in
    let p = h.runs.program in
    let r = h.runs.ready in
    let row = c.requires.runs.0 in
    let s = c.args.frames.now in
    let f = fetched_finish c.args.end in
    let view = view_of p.tables in
    let texts = g.C.Constants.text_of c.args.consts.now in
    let tuples = g.C.Constants.items_of c.args.consts.now in
    let objects = c.args.arena.now.objects in
    let ending = c.tops_law.ensures.ending view (starts_of view r.first) (position_of view r.first) r.first.slots r.first.entries r.finds in
    let top = of_first p s row f r (λ d. slice_get d.slots 0 ≡ Some (cause_slot k.cause)) k.top in
    (k.cause, k.top, on_first p s row f r (λ d. FitsEntries k.cause (unkept d)) (fits_here view r.first k.cause ending top))

pub end_finally-after-requires-clause-entry : goal.end_finally-after-requires-clause-entry
end_finally-after-requires-clause-entry g c =
    let h = c.requires.runs.1 in
    let k = c.requires.runs.2 in
    let p = h.runs.program in
    let r = h.runs.ready in
    let row = c.requires.runs.0 in
    let s = c.args.frames.now in
    let f = fetched_finish c.args.end in
    let view = view_of p.tables in
    let texts = g.C.Constants.text_of c.args.consts.now in
    let tuples = g.C.Constants.items_of c.args.consts.now in
    let objects = c.args.arena.now.objects in
    let ending = c.tops_law.ensures.ending view (starts_of view r.first) (position_of view r.first) r.first.slots r.first.entries r.finds in
    on_first p s row f r (λ d. 0 < length d.entries) (some_entry view r.first ending)

pub end_finally-after-requires-clause-named : goal.end_finally-after-requires-clause-named
end_finally-after-requires-clause-named g c =
    let h = c.requires.runs.1 in
    let k = c.requires.runs.2 in
    let p = h.runs.program in
    let r = h.runs.ready in
    let row = c.requires.runs.0 in
    let s = c.args.frames.now in
    let f = fetched_finish c.args.end in
    let view = view_of p.tables in
    let texts = g.C.Constants.text_of c.args.consts.now in
    let tuples = g.C.Constants.items_of c.args.consts.now in
    let objects = c.args.arena.now.objects in
    let ending = c.tops_law.ensures.ending view (starts_of view r.first) (position_of view r.first) r.first.slots r.first.entries r.finds in
    counted texts tuples p h.runs.tells c.args.names.now h.runs.named s.calls h.runs.state.running.of_modules

pub end_finally-after-requires-clause-role : goal.end_finally-after-requires-clause-role
end_finally-after-requires-clause-role g c =
    let h = c.requires.runs.1 in
    let k = c.requires.runs.2 in
    let p = h.runs.program in
    let r = h.runs.ready in
    let row = c.requires.runs.0 in
    let s = c.args.frames.now in
    let f = fetched_finish c.args.end in
    let view = view_of p.tables in
    let texts = g.C.Constants.text_of c.args.consts.now in
    let tuples = g.C.Constants.items_of c.args.consts.now in
    let objects = c.args.arena.now.objects in
    let ending = c.tops_law.ensures.ending view (starts_of view r.first) (position_of view r.first) r.first.slots r.first.entries r.finds in
    on_first p s row f r (λ d. HasModule objects d.role) (first_known p objects s row f r h.runs.state).role

pub end_finally-after-requires-clause-last : goal.end_finally-after-requires-clause-last
end_finally-after-requires-clause-last g c =
    let h = c.requires.runs.1 in
    let k = c.requires.runs.2 in
    let p = h.runs.program in
    let r = h.runs.ready in
    let row = c.requires.runs.0 in
    let s = c.args.frames.now in
    let f = fetched_finish c.args.end in
    let view = view_of p.tables in
    let texts = g.C.Constants.text_of c.args.consts.now in
    let tuples = g.C.Constants.items_of c.args.consts.now in
    let objects = c.args.arena.now.objects in
    let ending = c.tops_law.ensures.ending view (starts_of view r.first) (position_of view r.first) r.first.slots r.first.entries r.finds in
    last_out texts tuples p h.runs.tells c.args.names.now h.runs.named

pub end_finally-after-requires-clause-registered : goal.end_finally-after-requires-clause-registered
end_finally-after-requires-clause-registered g c =
    let h = c.requires.runs.1 in
    let k = c.requires.runs.2 in
    let p = h.runs.program in
    let r = h.runs.ready in
    let row = c.requires.runs.0 in
    let s = c.args.frames.now in
    let f = fetched_finish c.args.end in
    let view = view_of p.tables in
    let texts = g.C.Constants.text_of c.args.consts.now in
    let tuples = g.C.Constants.items_of c.args.consts.now in
    let objects = c.args.arena.now.objects in
    let ending = c.tops_law.ensures.ending view (starts_of view r.first) (position_of view r.first) r.first.slots r.first.entries r.finds in
    registered_out texts tuples p h.runs.tells c.args.names.now h.runs.named c.args.arena.now c.args.modules.now h.registered

pub end_finally-after-requires-clause-all_told : goal.end_finally-after-requires-clause-all_told
end_finally-after-requires-clause-all_told g c =
    let h = c.requires.runs.1 in
    let k = c.requires.runs.2 in
    let p = h.runs.program in
    let r = h.runs.ready in
    let row = c.requires.runs.0 in
    let s = c.args.frames.now in
    let f = fetched_finish c.args.end in
    let view = view_of p.tables in
    let texts = g.C.Constants.text_of c.args.consts.now in
    let tuples = g.C.Constants.items_of c.args.consts.now in
    let objects = c.args.arena.now.objects in
    let ending = c.tops_law.ensures.ending view (starts_of view r.first) (position_of view r.first) r.first.slots r.first.entries r.finds in
    out texts tuples p h.runs.tells (λ x y. AllTold x y objects) h.runs.state.all_told

pub settle-requires-clause-waits : goal.settle-requires-clause-waits
settle-requires-clause-waits g c =
    let h = c.requires.runs.1 in
    let k = c.requires.runs.2 in
    let p = h.runs.program in
    let r = h.runs.ready in
    let row = c.requires.runs.0 in
    let s = c.args.frames.now in
    let f = fetched_finish c.args.end in
    let view = view_of p.tables in
    let texts = g.C.Constants.text_of c.args.consts.now in
    let tuples = g.C.Constants.items_of c.args.consts.now in
    let objects = c.args.arena.now.objects in
    let ending = c.tops_law.ensures.ending view (starts_of view r.first) (position_of view r.first) r.first.slots r.first.entries r.finds in
    let u = c.end_finally-after.ensures in (
      p,
      h.runs.means,
      h.shelf_is,
      waits_so c.keeps_law.ensures.went c.sound_law.ensures.steps c.progress_law.ensures.step texts tuples c.args.names.now p h.runs.means h.runs.tells h.runs.named
          c.args.arena.now c.end_finally-after.new.arena c.args.modules.now c.end_finally-after.new.modules s c.end_finally-after.new.frames c.end_finally-after.result h.runs.state h.registered row f r
          (λ paid w. u.steps p.tables r.place w (tables_are texts tuples p h.runs.tells c.args.names.now h.runs.named) r.next h.runs.state.running.placed p.library paid)
          (u.placed view k.cause k.top (on_first p s row f r (GoesOn view c.args.end k.cause) (goes_on_here view c.args.end k.cause r.first (r.begins tt) (of_first p s row f r (TargetStarts view k.cause) k.target)))) u.keeps (same_calls s c.end_finally-after.new.frames _ (u.calls k.cause k.top)),
    )

pub returns-clause-comes : goal.returns-clause-comes
returns-clause-comes g c p row same k means tells named state registered r =
    let s = c.args.frames.now in
    let mid = c.end_finally-after.new.frames in
    let m0 = c.args.modules.now in
    let m1 = c.end_finally-after.new.modules in
    let u = c.end_finally-after.ensures in
    let f = fetched_finish c.args.end in
    let view = view_of p.tables in
    let texts = g.C.Constants.text_of c.args.consts.now in
    let tuples = g.C.Constants.items_of c.args.consts.now in
    let moved = same_calls s mid _ (u.calls k.cause k.top) in
    let w0 = new_world 0 0 [] in
    let before : PlainWorld = world_of p.tables (with_modules p.tables w0 m0) c.args.arena.now in
    let behind : PlainWorld = world_of p.tables (with_modules p.tables w0 m1) c.end_finally-after.new.arena in
    settled_so c.keeps_law.ensures.went c.sound_law.ensures.steps c.progress_law.ensures.step texts tuples c.args.names.now p means tells named
    c.args.arena.now c.end_finally-after.new.arena m0 m1 s mid c.end_finally-after.result state registered row f r
    (λ paid w. u.steps p.tables r.place w (tables_are texts tuples p tells c.args.names.now named) r.next state.running.placed p.library paid)
    (u.placed view k.cause k.top (on_first p s row f r (GoesOn view c.args.end k.cause) (goes_on_here view c.args.end k.cause r.first (r.begins tt) (of_first p s row f r (TargetStarts view k.cause) k.target)))) u.keeps moved
    c.settle.new.frames c.settle.result
    (c.settle.ensures.settles p means same (waits_so c.keeps_law.ensures.went c.sound_law.ensures.steps c.progress_law.ensures.step texts tuples c.args.names.now p means tells named
    c.args.arena.now c.end_finally-after.new.arena m0 m1 s mid c.end_finally-after.result state registered row f r
    (λ paid w. u.steps p.tables r.place w (tables_are texts tuples p tells c.args.names.now named) r.next state.running.placed p.library paid)
    (u.placed view k.cause k.top (on_first p s row f r (GoesOn view c.args.end k.cause) (goes_on_here view c.args.end k.cause r.first (r.begins tt) (of_first p s row f r (TargetStarts view k.cause) k.target)))) u.keeps moved))
    c.settle.ensures.same (λ x y modules objects. c.settle.ensures.known x y modules objects) c.settle.ensures.ended
    (u.after (known_out texts tuples p tells c.args.names.now named c.args.arena.now.objects s.calls state.known))
    (own_after p c.end_finally-after.result mid.calls behind (step_of p.tables p.library r.place 0 s.calls before (Plain (instrs.Plain ops.EndFinally)))
    (u.steps p.tables r.place w0 (tables_are texts tuples p tells c.args.names.now named) r.next state.running.placed p.library 0)
    (ending_in (registered_names p) p.tables (own_fewer (registered_names p)) p.library r.place 0 before registered.own s.calls))
    u.forgets.room

pub returns-clause-rooms : goal.returns-clause-rooms
returns-clause-rooms g c =
    let k = c.requires.runs.2 in
    let old = c.args.frames.now in
    let mid = c.end_finally-after.new.frames in
    same_through old mid c.settle.new.frames (same_calls old mid _ (c.end_finally-after.ensures.calls k.cause k.top)) c.settle.ensures.same

pub returns-clause-registry : goal.returns-clause-registry
returns-clause-registry g c = c.end_finally-after.ensures.forgets.room
