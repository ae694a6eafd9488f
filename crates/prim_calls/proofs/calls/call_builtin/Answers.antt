use Rattle.std.proofs.Common.{map, Result, refl, sym, ◌∙◌, subst}
use Rattle.mpy_base.specs.declared.builtin.Builtin.{Builtin}
use Rattle.mpy_base.specs.declared.builtin.Builtin.TheVariants as builtins
use Rattle.mpy_base.specs.Val.{Built}
use Rattle.mpy_base.proofs.Worlds.{later_same}
use Rattle.prim_methods.specs.arena_heap.declared.value.Value.{Value}
use Rattle.prim_types.specs.py_values.Names.{type_name}
use Rattle.prim_types.specs.py_primitives.Faults.{NotCallable}
use Rattle.prim_types.specs.py_primitives.Outcome.{raises}
use Rattle.prim_methods.specs.prim_walks.Plain.{plain_heap}
use Rattle.prim_methods.specs.prim_faults.declared.fault.Fault.TheVariants as faults
use Rattle.prim_methods.specs.prim_faults.declared.stop.Stop.{Stop}
use Rattle.prim_methods.specs.prim_faults.Outcomes.{IsKnownAnswer, IsOutcome}
use Rattle.prim_methods.specs.prim_faults.declared.types.ValueType.TheVariants as types
use Rattle.prim_methods.proofs.prim_faults_lemmas.Outcomes.{raises_outcome}
use Rattle.prim_calls.specs.Calls.{Seen, IsCall}
use Rattle.prim_calls.proofs.CallFamilies.{known_call, known_print, failed_answer, on_heap_of, on_heap_call}
use Rattle.prim_calls.proofs.calls.call_builtin.Goals as goal

pub returns-in-Print : goal.returns-in-Print
returns-in-Print g c =
    let texts = g.C.Constants.text_of c.args.consts.now in
    let tuples = g.C.Constants.items_of c.args.consts.now in
    let told = g.S.Sink.told in
    let count = g.S.Sink.count in
    let seen = g.P.Port.seen in
    let h = c.args.arena.now in
    let old : Seen _ = record { heap = h; out = c.args.out.now; ports = map seen c.args.ports.now } in
    let new : Seen _ = record { heap = c.args.arena.now; out = c.call_print.new.out; ports = map seen c.args.ports.now } in
    let result = c.print_stopped.result in
    record {
      call = subst (λ (b : Builtin). IsCall told count texts tuples old new c.args.args.now c.args.keys.now result b) (sym c.in-Print.is)
          (record { does = record { answer = c.call_print.result; is = c.print_stopped.ensures; holds = c.call_print.ensures }; heap = refl; ports = refl });
      known = known_print texts tuples told count h c.args.out.now c.call_print.new.out _ c.call_print.result result c.print_stopped.ensures c.call_print.ensures;
      later = later_same h.objects;
      all_told = c.requires.all_told;
    }

pub returns-in-PortPut : goal.returns-in-PortPut
returns-in-PortPut g c =
    let texts = g.C.Constants.text_of c.args.consts.now in
    let tuples = g.C.Constants.items_of c.args.consts.now in
    let told = g.S.Sink.told in
    let count = g.S.Sink.count in
    let seen = g.P.Port.seen in
    let h = c.args.arena.now in
    let old : Seen _ = record { heap = h; out = c.args.out.now; ports = map seen c.args.ports.now } in
    let new : Seen _ = record { heap = c.args.arena.now; out = c.args.out.now; ports = map seen c.call_port_put.new.ports } in
    let result = c.stopped.result in
    record {
      call = subst (λ (b : Builtin). IsCall told count texts tuples old new c.args.args.now c.args.keys.now result b) (sym c.in-PortPut.is)
          (record { does = record { answer = c.call_port_put.result; is = c.stopped.ensures; holds = c.call_port_put.ensures.told }; failed = λ e. c.call_port_put.ensures.failed (failed_answer c.call_port_put.result (sym c.stopped.ensures ∙ e)); listed = λ e. c.call_port_put.ensures.listed (failed_answer c.call_port_put.result (sym c.stopped.ensures ∙ e)); faults = c.call_port_put.ensures.faults; heap = refl; out = refl });
      known = known_call texts tuples h.objects c.call_port_put.result result c.stopped.ensures c.call_port_put.ensures.known;
      later = later_same h.objects;
      all_told = c.requires.all_told;
    }

pub returns-in-PortGet : goal.returns-in-PortGet
returns-in-PortGet g c =
    let texts = g.C.Constants.text_of c.args.consts.now in
    let tuples = g.C.Constants.items_of c.args.consts.now in
    let told = g.S.Sink.told in
    let count = g.S.Sink.count in
    let seen = g.P.Port.seen in
    let h = c.args.arena.now in
    let old : Seen _ = record { heap = h; out = c.args.out.now; ports = map seen c.args.ports.now } in
    let new : Seen _ = record { heap = c.args.arena.now; out = c.args.out.now; ports = map seen c.call_port_get.new.ports } in
    let result = c.stopped-in-PortGet.result in
    record {
      call = subst (λ (b : Builtin). IsCall told count texts tuples old new c.args.args.now c.args.keys.now result b) (sym c.in-PortGet.is)
          (record { does = record { answer = c.call_port_get.result; is = c.stopped-in-PortGet.ensures; holds = c.call_port_get.ensures.told }; failed = λ e. c.call_port_get.ensures.failed (failed_answer c.call_port_get.result (sym c.stopped-in-PortGet.ensures ∙ e)); listed = λ e. c.call_port_get.ensures.listed (failed_answer c.call_port_get.result (sym c.stopped-in-PortGet.ensures ∙ e)); faults = c.call_port_get.ensures.faults; heap = refl; out = refl });
      known = known_call texts tuples h.objects c.call_port_get.result result c.stopped-in-PortGet.ensures c.call_port_get.ensures.known;
      later = later_same h.objects;
      all_told = c.requires.all_told;
    }

pub returns-in-PortCount : goal.returns-in-PortCount
returns-in-PortCount g c =
    let texts = g.C.Constants.text_of c.args.consts.now in
    let tuples = g.C.Constants.items_of c.args.consts.now in
    let told = g.S.Sink.told in
    let count = g.S.Sink.count in
    let seen = g.P.Port.seen in
    let h = c.args.arena.now in
    let old : Seen _ = record { heap = h; out = c.args.out.now; ports = map seen c.args.ports.now } in
    let new : Seen _ = record { heap = c.args.arena.now; out = c.args.out.now; ports = map seen c.args.ports.now } in
    let result = c.stopped-in-PortCount.result in
    record {
      call = subst (λ (b : Builtin). IsCall told count texts tuples old new c.args.args.now c.args.keys.now result b) (sym c.in-PortCount.is)
          (record { does = record { answer = c.call_port_count.result; is = c.stopped-in-PortCount.ensures; holds = c.call_port_count.ensures.told }; heap = refl; out = refl; ports = refl });
      known = known_call texts tuples h.objects c.call_port_count.result result c.stopped-in-PortCount.ensures c.call_port_count.ensures.known;
      later = later_same h.objects;
      all_told = c.requires.all_told;
    }

pub returns-in-Port : goal.returns-in-Port
returns-in-Port g c =
    let texts = g.C.Constants.text_of c.args.consts.now in
    let tuples = g.C.Constants.items_of c.args.consts.now in
    let told = g.S.Sink.told in
    let count = g.S.Sink.count in
    let seen = g.P.Port.seen in
    let h = c.args.arena.now in
    let old : Seen _ = record { heap = h; out = c.args.out.now; ports = map seen c.args.ports.now } in
    let new : Seen _ = record { heap = c.args.arena.now; out = c.args.out.now; ports = map seen c.args.ports.now } in
    let result = c.stopped-in-Port.result in
    record {
      call = subst (λ (b : Builtin). IsCall told count texts tuples old new c.args.args.now c.args.keys.now result b) (sym c.in-Port.is)
          (record { does = record { answer = c.port_module.result; is = c.stopped-in-Port.ensures; holds = subst (λ (r : Result Value Stop). IsOutcome texts tuples h h r (raises (NotCallable (type_name (plain_heap texts tuples h) (Built builtins.Port))) (plain_heap texts tuples h))) (sym c.port_module.ensures) (raises_outcome texts tuples h (faults.NotCallable types.Module) _ c.requires.all_told tt refl) }; out = refl; ports = refl });
      known = known_call texts tuples h.objects c.port_module.result result c.stopped-in-Port.ensures (subst (λ (r : Result Value Stop). IsKnownAnswer texts tuples h.objects r) (sym c.port_module.ensures) tt);
      later = later_same h.objects;
      all_told = c.requires.all_told;
    }

pub call_on_heap-requires-clause-on_heap : goal.call_on_heap-requires-clause-on_heap
call_on_heap-requires-clause-on_heap g c = on_heap_of c.args.b c.in_default.not-Print c.in_default.not-PortPut c.in_default.not-PortGet c.in_default.not-PortCount c.in_default.not-Port

pub returns-in_default : goal.returns-in_default
returns-in_default g c =
    let texts = g.C.Constants.text_of c.args.consts.now in
    let tuples = g.C.Constants.items_of c.args.consts.now in
    let told = g.S.Sink.told in
    let count = g.S.Sink.count in
    let seen = g.P.Port.seen in
    let h = c.args.arena.now in
    let old : Seen _ = record { heap = h; out = c.args.out.now; ports = map seen c.args.ports.now } in
    let new : Seen _ = record { heap = c.call_on_heap.new.arena; out = c.args.out.now; ports = map seen c.args.ports.now } in
    let result = c.stopped-in_default.result in
    record {
      call = on_heap_call told count texts tuples old new c.args.args.now c.args.keys.now result c.args.b (on_heap_of c.args.b c.in_default.not-Print c.in_default.not-PortPut c.in_default.not-PortGet c.in_default.not-PortCount c.in_default.not-Port)
          (record { does = record { answer = c.call_on_heap.result; is = c.stopped-in_default.ensures; holds = c.call_on_heap.ensures }; out = refl; ports = refl });
      known = known_call texts tuples c.call_on_heap.new.arena.objects c.call_on_heap.result result c.stopped-in_default.ensures c.call_on_heap.ensures.known;
      later = c.call_on_heap.ensures.later;
      all_told = c.call_on_heap.ensures.all_told;
    }
