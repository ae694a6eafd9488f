use Rattle.std.proofs.Common.{None, refl, arith}
use Rattle.state_steps.specs.Calling.{Went}
use Rattle.vm_machine.proofs.Called.{at_call}
use Rattle.vm_machine.proofs.Fetched.{few, in_program, in_ready, runs_with}
use Rattle.vm_machine.proofs.Moves.{Laws, went_kept}
use Rattle.vm_machine.proofs.stepping.make_call.Goals as goal

pub call-requires-clause-runs : goal.call-requires-clause-runs
call-requires-clause-runs g c = runs_with c.args.library.now c.args.vm.now c.args.row.now (at_call c.args.op c.args.number c.args.end) c.requires.fetched c.deref.result.now c.deref.ensures.value

pub call-requires-clause-read : goal.call-requires-clause-read
call-requires-clause-read g c = c.requires.fetched.read

pub call-requires-clause-few : goal.call-requires-clause-few
call-requires-clause-few g c = few c.args.library.now c.args.vm.now c.requires.fetched.is_vm

pub call-requires-clause-roomy : goal.call-requires-clause-roomy
call-requires-clause-roomy g c =
    let m = c.requires.fetched.is_vm.memory in
    let room = m.slot_room in
    let bindings = m.bindings in
    omega (arith, room, bindings)

pub call-requires-clause-rows : goal.call-requires-clause-rows
call-requires-clause-rows g c = c.requires.rows

pub call-requires-clause-taken : goal.call-requires-clause-taken
call-requires-clause-taken g c = c.requires.taken

pub returns-in-Ok-clause-called : goal.returns-in-Ok-clause-called
returns-in-Ok-clause-called g c = record {
  calls = λ p of. in_program c.args.library.now c.args.vm.now c.args.row.now (at_call c.args.op c.args.number c.args.end) c.requires.fetched p of c.deref.result.now c.deref.ensures.value (c.in-Ok.ensures.comes p of.shelf_is);
  memory = record { frames = c.in-Ok.ensures.rooms; modules = c.in-Ok.ensures.registry; names = refl; operands = refl; bindings = c.in-Ok.ensures.room; items = refl };
  paid = refl;
  stays = tt;
}

pub returns-in-Ok-clause-kept : goal.returns-in-Ok-clause-kept
returns-in-Ok-clause-kept g c goes_on p of =
    let h = c.requires.fetched in
    let laws : Laws = record { step = c.step_law.ensures; raise = c.raises_law.ensures; give = c.gives_law.ensures } in
    let on = in_program c.args.library.now c.args.vm.now c.args.row.now (at_call c.args.op c.args.number c.args.end) c.requires.fetched p of c.deref.result.now c.deref.ensures.value (c.in-Ok.ensures.comes p of.shelf_is) in
    went_kept laws p of.means c.args.row.now c.args.op c.args.number c.args.end c.args.invocation.size c.requires.taken.size c.args.vm.now.arena c.call.new.arena c.args.vm.now.modules c.call.new.modules c.args.vm.now.frames c.call.new.frames
    (h.ready p of) (h.is_vm.runs h.goes_on p of).kept on.objects c.in-Ok.ended
    (in_ready c.args.library.now c.args.vm.now c.args.row.now (at_call c.args.op c.args.number c.args.end) c.requires.fetched p of c.deref.result.now c.deref.ensures.value (λ r. Went p r.place c.args.end c.args.invocation.size c.args.vm.now.arena c.call.new.arena c.args.vm.now.modules c.call.new.modules c.args.vm.now.frames c.call.new.frames c.in-Ok.ended) (c.in-Ok.ensures.went p of.shelf_is))
    goes_on

pub returns-in-Ok-clause-counts : goal.returns-in-Ok-clause-counts
returns-in-Ok-clause-counts g c = c.in-Ok.ensures.counts

pub returns-in-Err-clause-called : goal.returns-in-Err-clause-called
returns-in-Err-clause-called g c = record {
  calls = λ p of. in_program c.args.library.now c.args.vm.now c.args.row.now (at_call c.args.op c.args.number c.args.end) c.requires.fetched p of c.deref.result.now c.deref.ensures.value (c.in-Err.ensures.comes p of.shelf_is);
  memory = record { frames = c.in-Err.ensures.rooms; modules = c.in-Err.ensures.registry; names = refl; operands = refl; bindings = c.in-Err.ensures.room; items = refl };
  paid = refl;
  stays = refl;
}

pub returns-in-Err-clause-kept : goal.returns-in-Err-clause-kept
returns-in-Err-clause-kept g c goes_on p of =
    let h = c.requires.fetched in
    let laws : Laws = record { step = c.step_law.ensures; raise = c.raises_law.ensures; give = c.gives_law.ensures } in
    let on = in_program c.args.library.now c.args.vm.now c.args.row.now (at_call c.args.op c.args.number c.args.end) c.requires.fetched p of c.deref.result.now c.deref.ensures.value (c.in-Err.ensures.comes p of.shelf_is) in
    went_kept laws p of.means c.args.row.now c.args.op c.args.number c.args.end c.args.invocation.size c.requires.taken.size c.args.vm.now.arena c.call.new.arena c.args.vm.now.modules c.call.new.modules c.args.vm.now.frames c.call.new.frames
    (h.ready p of) (h.is_vm.runs h.goes_on p of).kept on.objects None
    (in_ready c.args.library.now c.args.vm.now c.args.row.now (at_call c.args.op c.args.number c.args.end) c.requires.fetched p of c.deref.result.now c.deref.ensures.value (λ r. Went p r.place c.args.end c.args.invocation.size c.args.vm.now.arena c.call.new.arena c.args.vm.now.modules c.call.new.modules c.args.vm.now.frames c.call.new.frames None) (c.in-Err.ensures.went p of.shelf_is))
    refl

pub returns-in-Err-clause-counts : goal.returns-in-Err-clause-counts
returns-in-Err-clause-counts g c = c.in-Err.ensures.counts

pub returns-in-Ok-clause-faults : goal.returns-in-Ok-clause-faults
returns-in-Ok-clause-faults g c = c.call.ensures.faults

pub returns-in-Err-clause-faults : goal.returns-in-Err-clause-faults
returns-in-Err-clause-faults g c = c.call.ensures.faults
