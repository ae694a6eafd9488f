use Rattle.std.proofs.Common.{◌≡◌, map, Err, inl, refl, sym, subst, arith, ◌∙◌}
use Rattle.std.specs.Prelude.{OnErr}
use Rattle.vm_states.specs.mpy_base.declared.builtin.Builtin.{Builtin}
use Rattle.vm_states.specs.bc_library.Constants.{items_at, text_at}
use Rattle.mpy_io.specs.Count.{Counts}
use Rattle.port_set.proofs.Counting.{counts_same}
use Rattle.frame_calls.specs.prim_calls.Calls.{Seen}
use Rattle.frame_calls.specs.prim_calls.Callees.{IsKnownCallee}
use Rattle.frame_calls.specs.prim_calls.declared.calls.CallStop.TheVariants as calls
use Rattle.frame_calls.specs.prim_calls.declared.callees.Callee.{Callee}
use Rattle.frame_calls.specs.prim_calls.declared.callees.Callee.TheVariants as callees
use Rattle.vm_states.specs.vm_fetching.Instructions as fetched
use Rattle.frame_calls.specs.Built.{IsCalled, IsKnownCallStop}
use Rattle.state_calls.specs.Called.{is_out, CallComes, HeapComes}
use Rattle.state_calls.proofs.Heaps as heaps
use Rattle.state_calls.proofs.Acted as acted
use Rattle.state_calls.proofs.Comings as comings
use Rattle.state_calls.proofs.Puttings as puttings
use Rattle.state_calls.proofs.Takings as takings
use Rattle.state_calls.proofs.Keepings as keepings
use Rattle.state_calls.proofs.calling.call_on.Goals as goal

pub act_method-requires-clause-some : goal.act_method-requires-clause-some
act_method-requires-clause-some g c =
    let n = c.requires.taken.size in let some = takings.some_slots c.args.op in omega (arith, n, some)

pub act_method-requires-clause-there : goal.act_method-requires-clause-there
act_method-requires-clause-there g c =
    c.requires.taken.there

pub act_method-requires-clause-method : goal.act_method-requires-clause-method
act_method-requires-clause-method g c =
    let known = subst (IsKnownCallee (text_at c.args.library.now) (items_at c.args.library.now) c.args.arena.now.objects) c.in-Method.is c.requires.taken.callee in known.of_type

pub act_method-requires-clause-object : goal.act_method-requires-clause-object
act_method-requires-clause-object g c =
    let known = subst (IsKnownCallee (text_at c.args.library.now) (items_at c.args.library.now) c.args.arena.now.objects) c.in-Method.is c.requires.taken.callee in known.known

pub act_method-requires-clause-few : goal.act_method-requires-clause-few
act_method-requires-clause-few g c =
    let n = c.requires.taken.few in omega (arith, n)

pub act_method-requires-clause-known : goal.act_method-requires-clause-known
act_method-requires-clause-known g c =
    c.requires.taken.operands

pub act_method-requires-clause-all_told : goal.act_method-requires-clause-all_told
act_method-requires-clause-all_told g c =
    takings.told_there c.args.library.now c.args.arena.now c.args.frames.now (record { instruction = fetched.call c.args.op c.args.number; end = c.args.end }) c.requires.runs.runs

pub act_builtin-requires-clause-some : goal.act_builtin-requires-clause-some
act_builtin-requires-clause-some g c =
    let n = c.requires.taken.size in let some = takings.some_slots c.args.op in omega (arith, n, some)

pub act_builtin-requires-clause-there : goal.act_builtin-requires-clause-there
act_builtin-requires-clause-there g c =
    c.requires.taken.there

pub act_builtin-requires-clause-few : goal.act_builtin-requires-clause-few
act_builtin-requires-clause-few g c =
    let n = c.requires.taken.few in omega (arith, n)

pub act_builtin-requires-clause-known : goal.act_builtin-requires-clause-known
act_builtin-requires-clause-known g c =
    c.requires.taken.operands

pub act_builtin-requires-clause-all_told : goal.act_builtin-requires-clause-all_told
act_builtin-requires-clause-all_told g c =
    takings.told_there c.args.library.now c.args.arena.now c.args.frames.now (record { instruction = fetched.call c.args.op c.args.number; end = c.args.end }) c.requires.runs.runs

pub returns-in-Method-clause-called : goal.returns-in-Method-clause-called
returns-in-Method-clause-called g c p row means shelf_is state r w told tell =
    let shelf = c.args.library.now in
    let before = c.args.arena.now in
    let behind = c.act_method.new.arena in
    let s = c.args.frames.now in
    let new = c.act_method.new.frames in
    let given = c.args.operands.now in
    let laws : puttings.Laws = record { stays = c.known_law.ensures.stays; puts = c.known_law.ensures.puts; goes_on = c.keeps_law.ensures.goes_on } in
    let old_seen : Seen _ = record { heap = before; out = c.args.out.now; ports = map g.P.Port.seen c.args.ports.now } in
    let new_seen : Seen _ = record { heap = behind; out = c.args.out.now; ports = map g.P.Port.seen c.args.ports.now } in
    let does = acted.method_does p row means shelf shelf_is c.args.op c.args.number c.args.end before behind s new state r given c.args.call c.requires.taken c.in-Method.object c.in-Method.method c.in-Method.is c.act_method.result c.act_method.ensures.steps in
    subst (λ (k : Callee). CallComes g.S.Sink.told g.S.Sink.count p r.place k given old_seen new_seen s new w c.stopped.result) (sym c.in-Method.is)
    (subst (CallComes g.S.Sink.told g.S.Sink.count p r.place (callees.Method c.in-Method.object c.in-Method.method) given old_seen new_seen s new w) (sym c.stopped.ensures)
    (comings.alone g.S.Sink.told g.S.Sink.count p r.place (callees.Method c.in-Method.object c.in-Method.method) given old_seen new_seen s new w refl refl told tell c.act_method.result
    (acted.method_comes p row means shelf shelf_is c.args.op c.args.number c.args.end before behind s new state r given c.args.call c.requires.taken c.in-Method.object c.in-Method.method c.in-Method.is c.act_method.result does w)))

pub returns-in-Method-clause-again : goal.returns-in-Method-clause-again
returns-in-Method-clause-again g c p row means shelf_is state r =
    let shelf = c.args.library.now in
    let before = c.args.arena.now in
    let behind = c.act_method.new.arena in
    let s = c.args.frames.now in
    let new = c.act_method.new.frames in
    let given = c.args.operands.now in
    let laws : puttings.Laws = record { stays = c.known_law.ensures.stays; puts = c.known_law.ensures.puts; goes_on = c.keeps_law.ensures.goes_on } in
    let does = acted.method_does p row means shelf shelf_is c.args.op c.args.number c.args.end before behind s new state r given c.args.call c.requires.taken c.in-Method.object c.in-Method.method c.in-Method.is c.act_method.result c.act_method.ensures.steps in
    acted.method_again p row means shelf shelf_is c.args.op c.args.number c.args.end before behind s new state r given c.args.call c.requires.taken c.in-Method.object c.in-Method.method c.in-Method.is c.act_method.result laws
    (record { puts = c.act_method.ensures.moved; later = c.act_method.ensures.leaves.later; all_told = c.act_method.ensures.leaves.all_told }) does

pub returns-in-Method-clause-later : goal.returns-in-Method-clause-later
returns-in-Method-clause-later g c =
    c.act_method.ensures.leaves.later

pub returns-in-Method-clause-stop : goal.returns-in-Method-clause-stop
returns-in-Method-clause-stop g c =
    subst (λ z. IsKnownCallStop (text_at c.args.library.now) (items_at c.args.library.now) c.act_method.new.arena.objects z) (sym c.stopped.ensures)
    (puttings.call_stop (text_at c.args.library.now) (items_at c.args.library.now) c.act_method.new.arena.objects c.act_method.result c.act_method.ensures.leaves.stop)

pub returns-in-Method-clause-stays : goal.returns-in-Method-clause-stays
returns-in-Method-clause-stays g c =
    subst (λ z. OnErr z (c.act_method.new.frames ≡ c.args.frames.now)) (sym c.stopped.ensures)
    (puttings.call_stays c.args.frames.now c.act_method.new.frames c.act_method.result
    (puttings.stays_put (text_at c.args.library.now) (items_at c.args.library.now) c.act_method.new.arena.objects c.args.end c.args.call.size c.args.frames.now c.act_method.new.frames c.act_method.result c.act_method.ensures.moved))

pub returns-in-Built-clause-called : goal.returns-in-Built-clause-called
returns-in-Built-clause-called g c p row means shelf_is state r w told tell =
    let shelf = c.args.library.now in
    let before = c.args.arena.now in
    let behind = c.act_builtin.new.arena in
    let s = c.args.frames.now in
    let new = c.act_builtin.new.frames in
    let given = c.args.operands.now in
    let laws : puttings.Laws = record { stays = c.known_law.ensures.stays; puts = c.known_law.ensures.puts; goes_on = c.keeps_law.ensures.goes_on } in
    let old_seen : Seen _ = record { heap = before; out = c.args.out.now; ports = map g.P.Port.seen c.args.ports.now } in
    let new_seen : Seen _ = record { heap = behind; out = c.act_builtin.new.out; ports = map g.P.Port.seen c.act_builtin.new.ports } in
    subst (λ (k : Callee). CallComes g.S.Sink.told g.S.Sink.count p r.place k given old_seen new_seen s new w c.act_builtin.result) (sym c.in-Built.is)
    (acted.built_comes g.S.Sink.told g.S.Sink.count p row means shelf shelf_is c.args.op c.args.number c.args.end old_seen new_seen s new r given c.args.call c.requires.taken c.in-Built.b c.in-Built.is c.act_builtin.result
    c.act_builtin.ensures.acts c.act_builtin.ensures.called w told tell)

pub returns-in-Built-clause-again : goal.returns-in-Built-clause-again
returns-in-Built-clause-again g c p row means shelf_is state r =
    let shelf = c.args.library.now in
    let before = c.args.arena.now in
    let behind = c.act_builtin.new.arena in
    let s = c.args.frames.now in
    let new = c.act_builtin.new.frames in
    let given = c.args.operands.now in
    let laws : puttings.Laws = record { stays = c.known_law.ensures.stays; puts = c.known_law.ensures.puts; goes_on = c.keeps_law.ensures.goes_on } in
    acted.built_again p row means shelf shelf_is c.args.op c.args.number c.args.end before behind s new state r given c.args.call c.requires.taken (record { runs = c.rows_law.ensures.runs; as_many = c.rows_law.ensures.as_many }) laws c.requires.read c.act_builtin.result
    (record { puts = c.act_builtin.ensures.moved; later = c.act_builtin.ensures.later; all_told = c.act_builtin.ensures.all_told })

pub returns-in-Built-clause-stays : goal.returns-in-Built-clause-stays
returns-in-Built-clause-stays g c =
    puttings.stays_put (text_at c.args.library.now) (items_at c.args.library.now) c.act_builtin.new.arena.objects c.args.end c.args.call.size c.args.frames.now c.act_builtin.new.frames c.act_builtin.result c.act_builtin.ensures.moved

pub returns-in-NotCallable-clause-called : goal.returns-in-NotCallable-clause-called
returns-in-NotCallable-clause-called g c p row means shelf_is state r w told tell =
    let shelf = c.args.library.now in
    let before = c.args.arena.now in
    let behind = c.args.arena.now in
    let s = c.args.frames.now in
    let new = c.args.frames.now in
    let given = c.args.operands.now in
    let laws : puttings.Laws = record { stays = c.known_law.ensures.stays; puts = c.known_law.ensures.puts; goes_on = c.keeps_law.ensures.goes_on } in
    let old_seen : Seen _ = record { heap = before; out = c.args.out.now; ports = map g.P.Port.seen c.args.ports.now } in
    let stop = c.refuse_call.result in
    let n = c.requires.taken.size in
    let least = takings.some_slots c.args.op in
    let some = acted.some_calls s.calls c.args.call.size (omega (arith, n, least)) c.requires.taken.there in
    subst (λ (k : Callee). CallComes g.S.Sink.told g.S.Sink.count p r.place k given old_seen old_seen s s w (Err (calls.Stops stop))) (sym c.in-NotCallable.is)
    (comings.alone g.S.Sink.told g.S.Sink.count p r.place (callees.NotCallable c.in-NotCallable.value_type) given old_seen old_seen s s w refl refl told tell (Err stop)
    (acted.refused_comes p row means shelf shelf_is c.args.op c.args.number c.args.end before before s s state r given c.args.call c.requires.taken c.in-NotCallable.value_type c.in-NotCallable.is stop some
    (λ i. c.refuse_call.ensures.steps p.tables.texts p.tables.tuples (record { module_name = p.tables.module_name; starts = p.tables.starts }) _ c.args.call.size before s.calls given.args given.keys some i) w))

pub returns-in-NotCallable-clause-again : goal.returns-in-NotCallable-clause-again
returns-in-NotCallable-clause-again g c p row means shelf_is state r =
    state

pub returns-in-NotCallable-clause-later : goal.returns-in-NotCallable-clause-later
returns-in-NotCallable-clause-later g c =
    record { keeps = λ kind n h. h }

pub returns-in-NotCallable-clause-stop : goal.returns-in-NotCallable-clause-stop
returns-in-NotCallable-clause-stop g c =
    puttings.call_stop (text_at c.args.library.now) (items_at c.args.library.now) c.args.arena.now.objects (Err c.refuse_call.result) (c.refuse_call.ensures.known (text_at c.args.library.now) (items_at c.args.library.now) c.args.arena.now.objects)

pub returns-in-NotCallable-clause-stays : goal.returns-in-NotCallable-clause-stays
returns-in-NotCallable-clause-stays g c =
    refl

pub returns-in-Runs-clause-called : goal.returns-in-Runs-clause-called
returns-in-Runs-clause-called g c p row means shelf_is state r w told tell =
    let shelf = c.args.library.now in
    let before = c.args.arena.now in
    let behind = c.args.arena.now in
    let s = c.args.frames.now in
    let new = c.call_code.new.frames in
    let given = c.args.operands.now in
    let laws : puttings.Laws = record { stays = c.known_law.ensures.stays; puts = c.known_law.ensures.puts; goes_on = c.keeps_law.ensures.goes_on } in
    let old_seen : Seen _ = record { heap = before; out = c.args.out.now; ports = map g.P.Port.seen c.args.ports.now } in
    subst (λ (k : Callee). CallComes g.S.Sink.told g.S.Sink.count p r.place k given old_seen old_seen s new w c.stopped-in-Runs.result) (sym c.in-Runs.is)
    (subst (CallComes g.S.Sink.told g.S.Sink.count p r.place (callees.Runs c.in-Runs.function) given old_seen old_seen s new w) (sym c.stopped-in-Runs.ensures)
    (comings.alone g.S.Sink.told g.S.Sink.count p r.place (callees.Runs c.in-Runs.function) given old_seen old_seen s new w refl refl told tell c.call_code.result
    (c.call_code.ensures.comes p row means shelf_is state r w)))

pub returns-in-Runs-clause-later : goal.returns-in-Runs-clause-later
returns-in-Runs-clause-later g c =
    record { keeps = λ kind n h. h }

pub returns-in-Runs-clause-stop : goal.returns-in-Runs-clause-stop
returns-in-Runs-clause-stop g c =
    subst (λ z. IsKnownCallStop (text_at c.args.library.now) (items_at c.args.library.now) c.args.arena.now.objects z) (sym c.stopped-in-Runs.ensures)
    (puttings.call_stop (text_at c.args.library.now) (items_at c.args.library.now) c.args.arena.now.objects c.call_code.result c.call_code.ensures.stop)

pub returns-in-Runs-clause-stays : goal.returns-in-Runs-clause-stays
returns-in-Runs-clause-stays g c =
    subst (λ z. OnErr z (c.call_code.new.frames ≡ c.args.frames.now)) (sym c.stopped-in-Runs.ensures)
    (puttings.call_stays c.args.frames.now c.call_code.new.frames c.call_code.result c.call_code.ensures.stays)

pub returns-in-Method-clause-keeps : goal.returns-in-Method-clause-keeps
returns-in-Method-clause-keeps g c =
    keepings.put_keeps (text_at c.args.library.now) (items_at c.args.library.now) c.act_method.new.arena.objects c.args.end c.args.call.size c.args.frames.now c.act_method.new.frames c.act_method.result c.act_method.ensures.moved

pub returns-in-Built-clause-keeps : goal.returns-in-Built-clause-keeps
returns-in-Built-clause-keeps g c =
    keepings.put_keeps (text_at c.args.library.now) (items_at c.args.library.now) c.act_builtin.new.arena.objects c.args.end c.args.call.size c.args.frames.now c.act_builtin.new.frames c.act_builtin.result c.act_builtin.ensures.moved

pub returns-in-NotCallable-clause-keeps : goal.returns-in-NotCallable-clause-keeps
returns-in-NotCallable-clause-keeps g c = keepings.same_keeps c.args.frames.now c.args.frames.now refl

pub returns-in-Method-clause-built : goal.returns-in-Method-clause-built
returns-in-Method-clause-built g c b e = absurd (let wrong : callees.Method c.in-Method.object c.in-Method.method ≡ callees.Built b = sym c.in-Method.is ∙ e in cc)

pub returns-in-NotCallable-clause-built : goal.returns-in-NotCallable-clause-built
returns-in-NotCallable-clause-built g c b e = absurd (let wrong : callees.NotCallable c.in-NotCallable.value_type ≡ callees.Built b = sym c.in-NotCallable.is ∙ e in cc)

pub returns-in-Runs-clause-built : goal.returns-in-Runs-clause-built
returns-in-Runs-clause-built g c b e = absurd (let wrong : callees.Runs c.in-Runs.function ≡ callees.Built b = sym c.in-Runs.is ∙ e in cc)

pub returns-in-Built-clause-built : goal.returns-in-Built-clause-built
returns-in-Built-clause-built g c b e =
    let is : callees.Built c.in-Built.b ≡ callees.Built b = sym c.in-Built.is ∙ e in
    let same : c.in-Built.b ≡ b = cc in
    let old_seen : Seen _ = record { heap = c.args.arena.now; out = c.args.out.now; ports = map g.P.Port.seen c.args.ports.now } in
    let new_seen : Seen _ = record { heap = c.act_builtin.new.arena; out = c.act_builtin.new.out; ports = map g.P.Port.seen c.act_builtin.new.ports } in
    subst (λ (z : Builtin). IsCalled g.S.Sink.told g.S.Sink.count (text_at c.args.library.now) (items_at c.args.library.now) old_seen new_seen c.args.operands.now.args c.args.operands.now.keys z c.act_builtin.result) same c.act_builtin.ensures.called

pub returns-in-Method-clause-heap : goal.returns-in-Method-clause-heap
returns-in-Method-clause-heap g c p row means shelf_is state r =
    let shelf = c.args.library.now in
    let before = c.args.arena.now in
    let behind = c.act_method.new.arena in
    let s = c.args.frames.now in
    let new = c.act_method.new.frames in
    let given = c.args.operands.now in
    let does = acted.method_does p row means shelf shelf_is c.args.op c.args.number c.args.end before behind s new state r given c.args.call c.requires.taken c.in-Method.object c.in-Method.method c.in-Method.is c.act_method.result c.act_method.ensures.steps in
    subst (HeapComes p r.place c.args.end c.args.call.size before behind s new) (sym c.stopped.ensures)
    (acted.quiet_heap p r.place c.args.end c.args.call.size (callees.Method c.in-Method.object c.in-Method.method) given before behind s new c.act_method.result
    (λ w. acted.method_comes p row means shelf shelf_is c.args.op c.args.number c.args.end before behind s new state r given c.args.call c.requires.taken c.in-Method.object c.in-Method.method c.in-Method.is c.act_method.result does w))

pub returns-in-Built-clause-heap : goal.returns-in-Built-clause-heap
returns-in-Built-clause-heap g c p row means shelf_is state r =
    let old_seen : Seen _ = record { heap = c.args.arena.now; out = c.args.out.now; ports = map g.P.Port.seen c.args.ports.now } in
    let new_seen : Seen _ = record { heap = c.act_builtin.new.arena; out = c.act_builtin.new.out; ports = map g.P.Port.seen c.act_builtin.new.ports } in
    acted.built_heap g.S.Sink.told g.S.Sink.count p row means c.args.library.now shelf_is c.args.op c.args.number c.args.end old_seen new_seen c.args.frames.now c.act_builtin.new.frames r c.args.operands.now c.args.call c.requires.taken c.in-Built.b c.in-Built.is c.act_builtin.result
    c.act_builtin.ensures.acts c.act_builtin.ensures.called c.act_builtin.ensures.moved

pub returns-in-NotCallable-clause-heap : goal.returns-in-NotCallable-clause-heap
returns-in-NotCallable-clause-heap g c p row means shelf_is state r = inl refl

pub returns-in-Runs-clause-heap : goal.returns-in-Runs-clause-heap
returns-in-Runs-clause-heap g c p row means shelf_is state r =
    subst (HeapComes p r.place c.args.end c.args.call.size c.args.arena.now c.args.arena.now c.args.frames.now c.call_code.new.frames) (sym c.stopped-in-Runs.ensures)
    (acted.quiet_heap p r.place c.args.end c.args.call.size (callees.Runs c.in-Runs.function) c.args.operands.now c.args.arena.now c.args.arena.now c.args.frames.now c.call_code.new.frames c.call_code.result
    (λ w. c.call_code.ensures.comes p row means shelf_is state r w))

pub returns-in-Method-clause-counts : goal.returns-in-Method-clause-counts
returns-in-Method-clause-counts g c =
    subst (λ z. Counts (g.S.Sink.count c.args.out.now) (g.S.Sink.count c.args.out.now) (is_out z)) (sym c.stopped.ensures) (heaps.quiet_counts c.act_method.result (g.S.Sink.count c.args.out.now))

pub returns-in-Runs-clause-counts : goal.returns-in-Runs-clause-counts
returns-in-Runs-clause-counts g c =
    subst (λ z. Counts (g.S.Sink.count c.args.out.now) (g.S.Sink.count c.args.out.now) (is_out z)) (sym c.stopped-in-Runs.ensures) (heaps.quiet_counts c.call_code.result (g.S.Sink.count c.args.out.now))

pub returns-in-NotCallable-clause-counts : goal.returns-in-NotCallable-clause-counts
returns-in-NotCallable-clause-counts g c = refl

pub returns-in-Built-clause-counts : goal.returns-in-Built-clause-counts
returns-in-Built-clause-counts g c =
    let old_seen : Seen _ = record { heap = c.args.arena.now; out = c.args.out.now; ports = map g.P.Port.seen c.args.ports.now } in
    let new_seen : Seen _ = record { heap = c.act_builtin.new.arena; out = c.act_builtin.new.out; ports = map g.P.Port.seen c.act_builtin.new.ports } in
    heaps.built_counts g.S.Sink.told g.S.Sink.count (text_at c.args.library.now) (items_at c.args.library.now) old_seen new_seen c.args.operands.now.args c.args.operands.now.keys c.in-Built.b c.act_builtin.result c.act_builtin.ensures.called

pub returns-in-Method-clause-ports : goal.returns-in-Method-clause-ports
returns-in-Method-clause-ports g c e = refl

pub returns-in-NotCallable-clause-ports : goal.returns-in-NotCallable-clause-ports
returns-in-NotCallable-clause-ports g c e = refl

pub returns-in-Runs-clause-ports : goal.returns-in-Runs-clause-ports
returns-in-Runs-clause-ports g c e = refl

pub returns-in-Built-clause-ports : goal.returns-in-Built-clause-ports
returns-in-Built-clause-ports g c =
    let old_seen : Seen _ = record { heap = c.args.arena.now; out = c.args.out.now; ports = map g.P.Port.seen c.args.ports.now } in
    let new_seen : Seen _ = record { heap = c.act_builtin.new.arena; out = c.act_builtin.new.out; ports = map g.P.Port.seen c.act_builtin.new.ports } in
    heaps.built_ports g.S.Sink.told g.S.Sink.count (text_at c.args.library.now) (items_at c.args.library.now) old_seen new_seen c.args.operands.now.args c.args.operands.now.keys c.in-Built.b c.act_builtin.result c.act_builtin.ensures.called

pub returns-in-Method-clause-faults : goal.returns-in-Method-clause-faults
returns-in-Method-clause-faults g c = counts_same (map g.P.Port.seen c.args.ports.now)

pub returns-in-NotCallable-clause-faults : goal.returns-in-NotCallable-clause-faults
returns-in-NotCallable-clause-faults g c = counts_same (map g.P.Port.seen c.args.ports.now)

pub returns-in-Runs-clause-faults : goal.returns-in-Runs-clause-faults
returns-in-Runs-clause-faults g c = counts_same (map g.P.Port.seen c.args.ports.now)

pub returns-in-Built-clause-faults : goal.returns-in-Built-clause-faults
returns-in-Built-clause-faults g c =
    let old_seen : Seen _ = record { heap = c.args.arena.now; out = c.args.out.now; ports = map g.P.Port.seen c.args.ports.now } in
    let new_seen : Seen _ = record { heap = c.act_builtin.new.arena; out = c.act_builtin.new.out; ports = map g.P.Port.seen c.act_builtin.new.ports } in
    heaps.built_faults g.S.Sink.told g.S.Sink.count (text_at c.args.library.now) (items_at c.args.library.now) old_seen new_seen c.args.operands.now.args c.args.operands.now.keys c.in-Built.b c.act_builtin.result c.act_builtin.ensures.called
