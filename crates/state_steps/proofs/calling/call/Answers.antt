use Rattle.std.proofs.Common.{◌≡◌, map, true, Result, Err, refl, sym, ap, ◌∙◌, subst}
use Rattle.std.specs.Prelude.{OnErr}
use Rattle.mpy_io.specs.Count.{Counts}
use Rattle.state_values.specs.bc_library.Constants.{items_at, text_at}
use Rattle.state_calls.specs.prim_calls.declared.calls.CallStop.{CallStop}
use Rattle.state_calls.specs.vm_fetching.Instructions as fetched
use Rattle.state_calls.specs.frame_calls.Built.{IsKnownCallStop}
use Rattle.state_calls.specs.Called.{is_out, CallsIn, HeapComesIn}
use Rattle.state_steps.specs.Calling as went
use Rattle.state_steps.proofs.Called.{roomy, call_stopped, call_known, called, called_went, call_refused, call_raised, call_went}
use Rattle.state_steps.proofs.Rooms.{rooms_through}
use Rattle.state_steps.proofs.calling.call.Goals as goal

pub call_on-requires-clause-runs : goal.call_on-requires-clause-runs
call_on-requires-clause-runs g c =
    roomy g.S.Sink.told g.S.Sink.count c.args.library.now c.args.names.now c.args.row.now (record { instruction = fetched.call c.args.op c.args.number; end = c.args.end }) c.args.call.callee c.args.operands.now c.args.call.size c.args.arena.now c.args.arena.now c.args.out.now c.args.out.now (map g.P.Port.seen c.args.ports.now) (map g.P.Port.seen c.args.ports.now) c.args.modules.now c.args.frames.now c.args.frames.now
    c.args.bindings.now.room c.requires.roomy c.requires.runs

pub call_on-requires-clause-read : goal.call_on-requires-clause-read
call_on-requires-clause-read g c = c.requires.read

pub call_on-requires-clause-few : goal.call_on-requires-clause-few
call_on-requires-clause-few g c = c.requires.few

pub call_on-requires-clause-rows : goal.call_on-requires-clause-rows
call_on-requires-clause-rows g c = c.requires.rows

pub call_on-requires-clause-taken : goal.call_on-requires-clause-taken
call_on-requires-clause-taken g c = c.requires.taken

pub stop_on-requires-clause-runs : goal.stop_on-requires-clause-runs
stop_on-requires-clause-runs g c = (
  (record { instruction = fetched.call c.args.op c.args.number; end = c.args.end }),
  call_stopped g.S.Sink.told g.S.Sink.count c.args.library.now c.args.names.now c.args.row.now (record { instruction = fetched.call c.args.op c.args.number; end = c.args.end }) c.args.call.callee c.args.operands.now c.args.call.size c.args.arena.now c.call_on.new.arena c.args.out.now c.call_on.new.out (map g.P.Port.seen c.args.ports.now) (map g.P.Port.seen c.call_on.new.ports) c.args.modules.now c.args.frames.now c.call_on.new.frames
      c.call_on.ensures.again (subst (λ (r : Result (Unit {0}) CallStop). OnErr r (c.call_on.new.frames ≡ c.args.frames.now)) (c.in-Err-Stops.is ∙ ap (λ (z : CallStop). Err z) c.in-Err-Stops.field-0-is) c.call_on.ensures.stays) c.requires.runs,
)

pub stop_on-requires-clause-stop : goal.stop_on-requires-clause-stop
stop_on-requires-clause-stop g c =
    call_known g.S.Sink.told g.S.Sink.count c.args.library.now c.args.names.now c.args.row.now (record { instruction = fetched.call c.args.op c.args.number; end = c.args.end }) c.args.call.callee c.args.operands.now c.args.call.size c.args.arena.now c.call_on.new.arena c.args.out.now c.call_on.new.out (map g.P.Port.seen c.args.ports.now) (map g.P.Port.seen c.call_on.new.ports) c.args.modules.now c.args.frames.now c.call_on.new.frames
    c.call_on.ensures.again c.in-Err-Stops.stop (subst (λ (r : Result (Unit {0}) CallStop). IsKnownCallStop (text_at c.args.library.now) (items_at c.args.library.now) c.call_on.new.arena.objects r) (c.in-Err-Stops.is ∙ ap (λ (z : CallStop). Err z) c.in-Err-Stops.field-0-is) c.call_on.ensures.stop)

pub returns-in-Ok-clause-comes : goal.returns-in-Ok-clause-comes
returns-in-Ok-clause-comes g c p same means tells named state registered r =
    called g.S.Sink.told g.S.Sink.count c.args.library.now c.args.names.now c.args.row.now (record { instruction = fetched.call c.args.op c.args.number; end = c.args.end }) c.args.call.callee c.args.operands.now c.args.call.size c.args.arena.now c.call_on.new.arena c.args.out.now c.call_on.new.out (map g.P.Port.seen c.args.ports.now) (map g.P.Port.seen c.call_on.new.ports) c.args.modules.now c.args.frames.now c.call_on.new.frames
    c.call_on.ensures.again c.registered_law.ensures.stays c.call_on.ensures.later p same means tells named state registered r
    (subst (λ (r : Result (Unit {0}) CallStop). CallsIn g.S.Sink.told g.S.Sink.count c.args.library.now (record { instruction = fetched.call c.args.op c.args.number; end = c.args.end }) c.args.call.callee c.args.operands.now (record { heap = c.args.arena.now; out = c.args.out.now; ports = map g.P.Port.seen c.args.ports.now }) (record { heap = c.call_on.new.arena; out = c.call_on.new.out; ports = map g.P.Port.seen c.call_on.new.ports }) c.args.frames.now c.call_on.new.frames r) c.in-Ok.is c.call_on.ensures.called)
    (subst (λ (r : Result (Unit {0}) CallStop). HeapComesIn c.args.library.now (record { instruction = fetched.call c.args.op c.args.number; end = c.args.end }) c.args.call.size c.args.arena.now c.call_on.new.arena c.args.frames.now c.call_on.new.frames r) c.in-Ok.is c.call_on.ensures.heap)

pub returns-in-Ok-clause-counts : goal.returns-in-Ok-clause-counts
returns-in-Ok-clause-counts g c =
    subst (λ (r : Result (Unit {0}) CallStop). Counts (g.S.Sink.count c.args.out.now) (g.S.Sink.count c.call_on.new.out) (is_out r)) c.in-Ok.is c.call_on.ensures.counts

pub returns-in-Ok-clause-faults : goal.returns-in-Ok-clause-faults
returns-in-Ok-clause-faults g c = c.call_on.ensures.faults

pub returns-in-Ok-clause-rooms : goal.returns-in-Ok-clause-rooms
returns-in-Ok-clause-rooms g c = c.call_on.ensures.keeps.rooms

pub returns-in-Ok-clause-registry : goal.returns-in-Ok-clause-registry
returns-in-Ok-clause-registry g c = refl

pub returns-in-Ok-clause-room : goal.returns-in-Ok-clause-room
returns-in-Ok-clause-room g c = c.call_on.ensures.room

pub returns-in-Err-Stops-clause-comes : goal.returns-in-Err-Stops-clause-comes
returns-in-Err-Stops-clause-comes g c p same means tells named state registered r =
    call_raised g.S.Sink.told g.S.Sink.count c.args.library.now c.args.names.now c.args.row.now (record { instruction = fetched.call c.args.op c.args.number; end = c.args.end }) c.args.call.callee c.args.operands.now c.args.call.size c.args.arena.now c.call_on.new.arena c.args.out.now c.call_on.new.out (map g.P.Port.seen c.args.ports.now) (map g.P.Port.seen c.call_on.new.ports) c.args.modules.now c.args.frames.now c.call_on.new.frames
    c.call_on.ensures.again c.registered_law.ensures.stays c.call_on.ensures.later p same means tells named state registered r
    c.in-Err-Stops.stop (subst (λ (r : Result (Unit {0}) CallStop). OnErr r (c.call_on.new.frames ≡ c.args.frames.now)) (c.in-Err-Stops.is ∙ ap (λ (z : CallStop). Err z) c.in-Err-Stops.field-0-is) c.call_on.ensures.stays) c.stop_on.new.arena c.stop_on.new.modules c.stop_on.new.frames c.stop_on.result
    c.stop_on.ensures.comes
    (subst (λ (r : Result (Unit {0}) CallStop). CallsIn g.S.Sink.told g.S.Sink.count c.args.library.now (record { instruction = fetched.call c.args.op c.args.number; end = c.args.end }) c.args.call.callee c.args.operands.now (record { heap = c.args.arena.now; out = c.args.out.now; ports = map g.P.Port.seen c.args.ports.now }) (record { heap = c.call_on.new.arena; out = c.call_on.new.out; ports = map g.P.Port.seen c.call_on.new.ports }) c.args.frames.now c.call_on.new.frames r) (c.in-Err-Stops.is ∙ ap (λ (z : CallStop). Err z) c.in-Err-Stops.field-0-is) c.call_on.ensures.called)
    (subst (λ (r : Result (Unit {0}) CallStop). HeapComesIn c.args.library.now (record { instruction = fetched.call c.args.op c.args.number; end = c.args.end }) c.args.call.size c.args.arena.now c.call_on.new.arena c.args.frames.now c.call_on.new.frames r) (c.in-Err-Stops.is ∙ ap (λ (z : CallStop). Err z) c.in-Err-Stops.field-0-is) c.call_on.ensures.heap)

pub returns-in-Err-Stops-clause-counts : goal.returns-in-Err-Stops-clause-counts
returns-in-Err-Stops-clause-counts g c =
    subst (λ (r : Result (Unit {0}) CallStop). Counts (g.S.Sink.count c.args.out.now) (g.S.Sink.count c.call_on.new.out) (is_out r)) (c.in-Err-Stops.is ∙ ap (λ (z : CallStop). Err z) c.in-Err-Stops.field-0-is) c.call_on.ensures.counts

pub returns-in-Err-Stops-clause-faults : goal.returns-in-Err-Stops-clause-faults
returns-in-Err-Stops-clause-faults g c = c.call_on.ensures.faults

pub returns-in-Err-Stops-clause-rooms : goal.returns-in-Err-Stops-clause-rooms
returns-in-Err-Stops-clause-rooms g c = rooms_through c.args.frames.now c.call_on.new.frames c.stop_on.new.frames c.call_on.ensures.keeps.rooms c.stop_on.ensures.rooms

pub returns-in-Err-Stops-clause-registry : goal.returns-in-Err-Stops-clause-registry
returns-in-Err-Stops-clause-registry g c = c.stop_on.ensures.registry

pub returns-in-Err-Stops-clause-room : goal.returns-in-Err-Stops-clause-room
returns-in-Err-Stops-clause-room g c = c.call_on.ensures.room

pub returns-in-Err-Out-clause-comes : goal.returns-in-Err-Out-clause-comes
returns-in-Err-Out-clause-comes g c p same means tells named state registered r =
    call_refused g.S.Sink.told g.S.Sink.count c.args.library.now c.args.names.now c.args.row.now (record { instruction = fetched.call c.args.op c.args.number; end = c.args.end }) c.args.call.callee c.args.operands.now c.args.call.size c.args.arena.now c.call_on.new.arena c.args.out.now c.call_on.new.out (map g.P.Port.seen c.args.ports.now) (map g.P.Port.seen c.call_on.new.ports) c.args.modules.now c.args.frames.now c.call_on.new.frames
    c.call_on.ensures.again c.registered_law.ensures.stays c.call_on.ensures.later p same means tells named state registered r
    c.in-Err-Out.failed (subst (λ (r : Result (Unit {0}) CallStop). OnErr r (c.call_on.new.frames ≡ c.args.frames.now)) (c.in-Err-Out.is ∙ ap (λ (z : CallStop). Err z) c.in-Err-Out.field-0-is) c.call_on.ensures.stays)
    (c.call_on.ensures.ports (subst (λ (r : Result (Unit {0}) CallStop). is_out r ≡ true) (sym (c.in-Err-Out.is ∙ ap (λ (z : CallStop). Err z) c.in-Err-Out.field-0-is)) refl))
    (subst (λ (r : Result (Unit {0}) CallStop). CallsIn g.S.Sink.told g.S.Sink.count c.args.library.now (record { instruction = fetched.call c.args.op c.args.number; end = c.args.end }) c.args.call.callee c.args.operands.now (record { heap = c.args.arena.now; out = c.args.out.now; ports = map g.P.Port.seen c.args.ports.now }) (record { heap = c.call_on.new.arena; out = c.call_on.new.out; ports = map g.P.Port.seen c.call_on.new.ports }) c.args.frames.now c.call_on.new.frames r) (c.in-Err-Out.is ∙ ap (λ (z : CallStop). Err z) c.in-Err-Out.field-0-is) c.call_on.ensures.called)
    (subst (λ (r : Result (Unit {0}) CallStop). HeapComesIn c.args.library.now (record { instruction = fetched.call c.args.op c.args.number; end = c.args.end }) c.args.call.size c.args.arena.now c.call_on.new.arena c.args.frames.now c.call_on.new.frames r) (c.in-Err-Out.is ∙ ap (λ (z : CallStop). Err z) c.in-Err-Out.field-0-is) c.call_on.ensures.heap)

pub returns-in-Err-Out-clause-counts : goal.returns-in-Err-Out-clause-counts
returns-in-Err-Out-clause-counts g c =
    subst (λ (r : Result (Unit {0}) CallStop). Counts (g.S.Sink.count c.args.out.now) (g.S.Sink.count c.call_on.new.out) (is_out r)) (c.in-Err-Out.is ∙ ap (λ (z : CallStop). Err z) c.in-Err-Out.field-0-is) c.call_on.ensures.counts

pub returns-in-Err-Out-clause-faults : goal.returns-in-Err-Out-clause-faults
returns-in-Err-Out-clause-faults g c = c.call_on.ensures.faults

pub returns-in-Err-Out-clause-rooms : goal.returns-in-Err-Out-clause-rooms
returns-in-Err-Out-clause-rooms g c = c.call_on.ensures.keeps.rooms

pub returns-in-Err-Out-clause-registry : goal.returns-in-Err-Out-clause-registry
returns-in-Err-Out-clause-registry g c = refl

pub returns-in-Err-Out-clause-room : goal.returns-in-Err-Out-clause-room
returns-in-Err-Out-clause-room g c = c.call_on.ensures.room

pub returns-in-Ok-clause-went : goal.returns-in-Ok-clause-went
returns-in-Ok-clause-went g c p same means tells named state registered r =
    called_went g.S.Sink.told g.S.Sink.count c.args.library.now c.args.names.now c.args.row.now (record { instruction = fetched.call c.args.op c.args.number; end = c.args.end }) c.args.call.callee c.args.operands.now c.args.call.size c.args.arena.now c.call_on.new.arena c.args.out.now c.call_on.new.out (map g.P.Port.seen c.args.ports.now) (map g.P.Port.seen c.call_on.new.ports) c.args.modules.now c.args.frames.now c.call_on.new.frames
    c.call_on.ensures.again c.registered_law.ensures.stays c.call_on.ensures.later p same means tells named state registered r
    (subst (λ (r : Result (Unit {0}) CallStop). HeapComesIn c.args.library.now (record { instruction = fetched.call c.args.op c.args.number; end = c.args.end }) c.args.call.size c.args.arena.now c.call_on.new.arena c.args.frames.now c.call_on.new.frames r) c.in-Ok.is c.call_on.ensures.heap)

pub returns-in-Err-Stops-clause-went : goal.returns-in-Err-Stops-clause-went
returns-in-Err-Stops-clause-went g c p same means tells named state registered r =
    call_went g.S.Sink.told g.S.Sink.count c.args.library.now c.args.names.now c.args.row.now (record { instruction = fetched.call c.args.op c.args.number; end = c.args.end }) c.args.call.callee c.args.operands.now c.args.call.size c.args.arena.now c.call_on.new.arena c.args.out.now c.call_on.new.out (map g.P.Port.seen c.args.ports.now) (map g.P.Port.seen c.call_on.new.ports) c.args.modules.now c.args.frames.now c.call_on.new.frames
    c.call_on.ensures.again c.registered_law.ensures.stays c.call_on.ensures.later p same means tells named state registered r
    c.in-Err-Stops.stop (subst (λ (r : Result (Unit {0}) CallStop). OnErr r (c.call_on.new.frames ≡ c.args.frames.now)) (c.in-Err-Stops.is ∙ ap (λ (z : CallStop). Err z) c.in-Err-Stops.field-0-is) c.call_on.ensures.stays) c.stop_on.new.arena c.stop_on.new.modules c.stop_on.new.frames c.stop_on.result
    c.stop_on.ensures.comes
    (subst (λ (r : Result (Unit {0}) CallStop). HeapComesIn c.args.library.now (record { instruction = fetched.call c.args.op c.args.number; end = c.args.end }) c.args.call.size c.args.arena.now c.call_on.new.arena c.args.frames.now c.call_on.new.frames r) (c.in-Err-Stops.is ∙ ap (λ (z : CallStop). Err z) c.in-Err-Stops.field-0-is) c.call_on.ensures.heap)

pub returns-in-Err-Out-clause-went : goal.returns-in-Err-Out-clause-went
returns-in-Err-Out-clause-went g c p same means tells named state registered r =
    went.same (subst (λ (r : Result (Unit {0}) CallStop). OnErr r (c.call_on.new.frames ≡ c.args.frames.now)) (c.in-Err-Out.is ∙ ap (λ (z : CallStop). Err z) c.in-Err-Out.field-0-is) c.call_on.ensures.stays) ((subst (λ (r : Result (Unit {0}) CallStop). HeapComesIn c.args.library.now (record { instruction = fetched.call c.args.op c.args.number; end = c.args.end }) c.args.call.size c.args.arena.now c.call_on.new.arena c.args.frames.now c.call_on.new.frames r) (c.in-Err-Out.is ∙ ap (λ (z : CallStop). Err z) c.in-Err-Out.field-0-is) c.call_on.ensures.heap) p c.args.row.now means same state r)
