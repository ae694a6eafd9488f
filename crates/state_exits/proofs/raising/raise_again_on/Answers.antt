use Rattle.std.proofs.Common.{◌≡◌, All, subst}
use Rattle.vm_states.specs.bc_ops.declared.instr.Op.TheVariants as ops
use Rattle.vm_states.specs.bc_ops.declared.instr.Instr.TheVariants as instrs
use Rattle.bc_progress.specs.py_effects.Effect.{Place}
use Rattle.prim_faults.specs.arena_objects.Keys.{AllTold}
use Rattle.vm_states.specs.bc_machine.Library.{Plain}
use Rattle.vm_states.specs.frame_moves.Shown.{step_of}
use Rattle.vm_states.specs.frame_moves.Outcomes.{world_of}
use Rattle.vm_states.specs.frame_exits.Known.{KeepsException}
use Rattle.vm_states.specs.frame_exits.Ends.{with_modules, state_of}
use Rattle.vm_states.specs.vm_fetching.declared.operations.LeaveOp.TheVariants as leave_ops
use Rattle.state_exits.specs.Modules.{registered_names}
use Rattle.state_exits.specs.Running.{fetched_leave}
use Rattle.state_exits.proofs.Registered.{own_fewer}
use Rattle.state_exits.proofs.Sounds.{again_in}
use Rattle.state_exits.proofs.Tellings.{out, tables_are, counted}
use Rattle.state_exits.proofs.Places.{some_run, on_first, place_here}
use Rattle.state_exits.proofs.Found.{first_known}
use Rattle.state_exits.proofs.Ends.{thrown_same}
use Rattle.state_exits.proofs.Raises.{raises_on}
use Rattle.state_exits.proofs.raising.raise_again_on.Goals as goal

pub place_in-place-requires-clause-running : goal.place_in-place-requires-clause-running
place_in-place-requires-clause-running g c =
    let h = c.requires.runs.1 in some_run h.program c.args.frames.now c.args.row.now (fetched_leave leave_ops.RaiseLast c.requires.runs.0) h.ready

pub place_in-place-requires-clause-row : goal.place_in-place-requires-clause-row
place_in-place-requires-clause-row g c = let h = c.requires.runs.1 in (h.program.shelf, h.number, h.verified)

pub raise_last-requires-clause-entries : goal.raise_last-requires-clause-entries
raise_last-requires-clause-entries g c =
    let h = c.requires.runs.1 in
    let r = h.ready in
    let f = fetched_leave leave_ops.RaiseLast c.requires.runs.0 in
    let objects = c.args.arena.now.objects in
    on_first h.program c.args.frames.now c.args.row.now f r (λ d. All (KeepsException objects) d.entries) (first_known h.program objects c.args.frames.now c.args.row.now f r h.state).entries

pub raise_last-requires-clause-named : goal.raise_last-requires-clause-named
raise_last-requires-clause-named g c =
    let h = c.requires.runs.1 in
    counted (g.C.Constants.text_of c.args.consts.now) (g.C.Constants.items_of c.args.consts.now) h.program h.tells c.args.names.now h.named c.args.frames.now.calls h.state.running.of_modules

pub raise_last-requires-clause-all_told : goal.raise_last-requires-clause-all_told
raise_last-requires-clause-all_told g c =
    let h = c.requires.runs.1 in
    out (g.C.Constants.text_of c.args.consts.now) (g.C.Constants.items_of c.args.consts.now) h.program h.tells (λ x y. AllTold x y c.args.arena.now.objects) h.state.all_told

pub returns-clause-comes : goal.returns-clause-comes
returns-clause-comes g c p end means tells named state registered r =
    let texts = g.C.Constants.text_of c.args.consts.now in
    let tuples = g.C.Constants.items_of c.args.consts.now in
    let old = c.args.frames.now in
    let new = c.raise_last.new.frames in
    let a0 = c.args.arena.now in
    let a1 = c.raise_last.new.arena in
    let m0 = c.args.modules.now in
    let m1 = c.raise_last.new.modules in
    let f = fetched_leave leave_ops.RaiseLast end in
    let item = Plain (instrs.Plain ops.RaiseLast) in
    raises_on c.keeps_law.ensures.went c.sound_law.ensures.steps texts tuples c.args.names.now p means tells named a0 a1 m0 m1 old new c.raise_last.result
    c.raise_last.ensures.thrown c.raise_last.ensures.placed c.raise_last.ensures.keeps c.raise_last.ensures.forgets state.known c.args.row.now f state registered r
    (λ paid w h. again_in (registered_names p) p.tables (own_fewer (registered_names p)) p.library r.place paid w h old.calls)
    (λ paid w. subst (λ (z : Place). step_of p.tables p.library z paid old.calls (world_of p.tables (with_modules p.tables w m0) a0) item ≡ state_of p.tables c.raise_last.result new.calls (world_of p.tables (with_modules p.tables w m1) a1))
    (place_here p old c.args.row.now f r means c.place_in-place.result c.place_in-place.ensures)
    (c.raise_last.ensures.steps p.tables w (tables_are texts tuples p tells c.args.names.now named) state.running.placed p.library paid))

pub returns-clause-rooms : goal.returns-clause-rooms
returns-clause-rooms g c = thrown_same c.raise_last.new.arena.objects c.args.frames.now c.raise_last.new.frames c.raise_last.result c.raise_last.ensures.thrown

pub returns-clause-registry : goal.returns-clause-registry
returns-clause-registry g c = c.raise_last.ensures.forgets.room
