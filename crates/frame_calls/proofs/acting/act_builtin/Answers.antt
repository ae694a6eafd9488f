use Rattle.std.proofs.Common.{List, map, refl, subst}
use Rattle.frame_moves.specs.arena_heap.declared.value.Value.{Value}
use Rattle.frame_moves.specs.py_effects.Calling.{call_builtin}
use Rattle.prim_calls.specs.Calls.{Seen, IsCall}
use Rattle.prim_calls.specs.declared.callees.Callee.TheVariants as callees
use Rattle.frame_calls.specs.Layouts.{tables_of}
use Rattle.frame_calls.proofs.BuiltActs.{acts_built, called_moved, call_known}
use Rattle.frame_calls.proofs.Invokings.{invokes_in}
use Rattle.frame_calls.proofs.Slots.{size_there}
use Rattle.frame_calls.proofs.acting.act_builtin.Goals as goal

pub put_called-requires-clause-there : goal.put_called-requires-clause-there
put_called-requires-clause-there g c = size_there c.args.size c.args.frames.now.calls c.requires.some c.requires.there

pub returns-clause-acts : goal.returns-clause-acts
returns-clause-acts g c layout library item w invokes next tell =
    let texts = g.C.Constants.text_of c.args.consts.now in
    let tuples = g.C.Constants.items_of c.args.consts.now in
    let t = tables_of texts tuples layout in
    let h = c.args.arena.now in
    let told = g.S.Sink.told in
    let count = g.S.Sink.count in
    let seen = g.P.Port.seen in
    let given = c.call_builtin-given.result in
    let vs = c.args.operands.now.args in
    let ks = c.args.operands.now.keys in
    let old : Seen _ = record { heap = h; out = c.args.out.now; ports = map seen c.args.ports.now } in
    let new : Seen _ = record { heap = c.call_builtin-given.new.arena; out = c.call_builtin-given.new.out; ports = map seen c.call_builtin-given.new.ports } in
    acts_built told count t library item c.args.size c.args.end c.args.b vs ks old new c.args.frames.now c.put_called.new.frames w
    (invokes_in t library item c.args.size h c.args.frames.now.calls vs ks (callees.Built c.args.b) (λ z. call_builtin z c.args.b) invokes (λ z. refl) w)
    next given tell
    (subst (λ (xs : List Value). IsCall told count texts tuples old new xs ks given c.args.b) c.positional-args.ensures
    (subst (λ (ys : List (Value × Value)). IsCall told count texts tuples old new c.positional-args.result.now ys given c.args.b) c.keywords-keys.ensures c.call_builtin-given.ensures.call))
    c.put_called.result c.put_called.ensures.calls c.put_called.ensures.done

pub returns-clause-called : goal.returns-clause-called
returns-clause-called g c =
    let texts = g.C.Constants.text_of c.args.consts.now in
    let tuples = g.C.Constants.items_of c.args.consts.now in
    let told = g.S.Sink.told in
    let count = g.S.Sink.count in
    let seen = g.P.Port.seen in
    let given = c.call_builtin-given.result in
    let ks = c.args.operands.now.keys in
    let old : Seen _ = record { heap = c.args.arena.now; out = c.args.out.now; ports = map seen c.args.ports.now } in
    let new : Seen _ = record { heap = c.call_builtin-given.new.arena; out = c.call_builtin-given.new.out; ports = map seen c.call_builtin-given.new.ports } in
    record {
      given = given;
      done = c.put_called.ensures.done;
      call = subst (λ (xs : List Value). IsCall told count texts tuples old new xs ks given c.args.b) c.positional-args.ensures
          (subst (λ (ys : List (Value × Value)). IsCall told count texts tuples old new c.positional-args.result.now ys given c.args.b) c.keywords-keys.ensures c.call_builtin-given.ensures.call);
    }

pub returns-clause-moved : goal.returns-clause-moved
returns-clause-moved g c =
    called_moved (g.C.Constants.text_of c.args.consts.now) (g.C.Constants.items_of c.args.consts.now) c.call_builtin-given.new.arena c.args.end c.args.size c.args.frames.now c.put_called.new.frames c.put_called.result c.call_builtin-given.result
    c.call_builtin-given.ensures.known c.put_called.ensures.calls c.put_called.ensures.done

pub returns-clause-known : goal.returns-clause-known
returns-clause-known g c =
    call_known (g.C.Constants.text_of c.args.consts.now) (g.C.Constants.items_of c.args.consts.now) c.call_builtin-given.new.arena c.put_called.result c.call_builtin-given.result c.call_builtin-given.ensures.known c.put_called.ensures.done
