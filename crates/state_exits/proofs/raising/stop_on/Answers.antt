use Rattle.std.proofs.Common.{◌≡◌, subst}
use Rattle.bc_progress.specs.py_effects.Effect.{Place}
use Rattle.prim_faults.specs.arena_objects.Keys.{AllTold}
use Rattle.vm_states.specs.frame_moves.Outcomes.{world_of, stopping_of}
use Rattle.vm_states.specs.frame_exits.Ends.{with_modules, state_of}
use Rattle.state_exits.proofs.Tellings.{out, tables_are, counted}
use Rattle.state_exits.proofs.Places.{some_run, place_here}
use Rattle.state_exits.proofs.Ends.{thrown_same}
use Rattle.state_exits.proofs.Raises.{stops_on}
use Rattle.state_exits.proofs.raising.stop_on.Goals as goal

pub place_in-place-requires-clause-running : goal.place_in-place-requires-clause-running
place_in-place-requires-clause-running g c = let h = c.requires.runs.1 in some_run h.program c.args.frames.now c.args.row.now c.requires.runs.0 h.ready

pub place_in-place-requires-clause-row : goal.place_in-place-requires-clause-row
place_in-place-requires-clause-row g c = let h = c.requires.runs.1 in (h.program.shelf, h.number, h.verified)

pub raise-requires-clause-running : goal.raise-requires-clause-running
raise-requires-clause-running g c = let h = c.requires.runs.1 in some_run h.program c.args.frames.now c.args.row.now c.requires.runs.0 h.ready

pub raise-requires-clause-named : goal.raise-requires-clause-named
raise-requires-clause-named g c =
    let h = c.requires.runs.1 in
    counted (g.C.Constants.text_of c.args.consts.now) (g.C.Constants.items_of c.args.consts.now) h.program h.tells c.args.names.now h.named c.args.frames.now.calls h.state.running.of_modules

pub raise-requires-clause-all_told : goal.raise-requires-clause-all_told
raise-requires-clause-all_told g c =
    let h = c.requires.runs.1 in
    out (g.C.Constants.text_of c.args.consts.now) (g.C.Constants.items_of c.args.consts.now) h.program h.tells (λ x y. AllTold x y c.args.arena.now.objects) h.state.all_told

pub returns-clause-comes : goal.returns-clause-comes
returns-clause-comes g c p fetched means tells named state r =
    let texts = g.C.Constants.text_of c.args.consts.now in
    let tuples = g.C.Constants.items_of c.args.consts.now in
    let old = c.args.frames.now in
    let new = c.raise.new.frames in
    let a0 = c.args.arena.now in
    let a1 = c.raise.new.arena in
    let m0 = c.args.modules.now in
    let m1 = c.raise.new.modules in
    stops_on c.keeps_law.ensures.went c.sound_law.ensures.steps texts tuples c.args.names.now p means tells named a0 a1 m0 m1 old new c.raise.result
    c.raise.ensures.thrown c.raise.ensures.placed c.raise.ensures.keeps c.raise.ensures.forgets state.known r.place c.args.stop
    (λ w. subst (λ (z : Place). stopping_of p.tables z (with_modules p.tables w m0) a0 old.calls c.args.stop ≡ state_of p.tables c.raise.result new.calls (world_of p.tables (with_modules p.tables w m1) a1))
    (place_here p old c.args.row.now fetched r means c.place_in-place.result c.place_in-place.ensures)
    (c.raise.ensures.state p.tables w (tables_are texts tuples p tells c.args.names.now named) state.running.placed))

pub returns-clause-rooms : goal.returns-clause-rooms
returns-clause-rooms g c = thrown_same c.raise.new.arena.objects c.args.frames.now c.raise.new.frames c.raise.result c.raise.ensures.thrown

pub returns-clause-registry : goal.returns-clause-registry
returns-clause-registry g c = c.raise.ensures.forgets.room
