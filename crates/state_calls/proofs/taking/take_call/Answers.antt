use Rattle.std.proofs.Common.{sym, subst, arith}
use Rattle.vm_states.specs.bc_library.Constants.{items_at, text_at}
use Rattle.vm_states.specs.frame_moves.Shown.{view_of}
use Rattle.vm_states.specs.vm_fetching.declared.operations.CallOp.{CallOp}
use Rattle.vm_states.specs.vm_fetching.declared.operations.CallOp.TheVariants as call_ops
use Rattle.vm_states.specs.vm_fetching.Instructions as fetched
use Rattle.state_calls.specs.Taken.{IsTaken}
use Rattle.state_calls.proofs.Takings as takings
use Rattle.state_calls.proofs.taking.take_call.Goals as goal

pub take-requires-clause-there : goal.take-requires-clause-there
take-requires-clause-there c =
    takings.operands_fit (record { arguments_are = c.tops_law.ensures.arguments; looked = c.tops_law.ensures.method_arguments }) c.room_law.ensures.stands (λ t d. c.tops_law.ensures.slots (view_of t) d)
    c.args.operands.now.room c.args.library.now c.args.arena.now c.args.frames.now c.args.op c.args.number c.args.end c.requires.runs c.requires.methods

pub take-requires-clause-room : goal.take-requires-clause-room
take-requires-clause-room c =
    let laws : takings.Laws = record { arguments_are = c.tops_law.ensures.arguments; looked = c.tops_law.ensures.method_arguments } in
    let few = takings.operands_fit laws c.room_law.ensures.stands (λ t d. c.tops_law.ensures.slots (view_of t) d)
    c.args.operands.now.room c.args.library.now c.args.arena.now c.args.frames.now c.args.op c.args.number c.args.end c.requires.runs c.requires.methods in
    let fit = takings.slots_fit laws c.room_law.ensures.stands (λ t d. c.tops_law.ensures.slots (view_of t) d)
    c.args.operands.now.room c.args.library.now c.args.arena.now c.args.frames.now c.args.op c.args.number c.args.end c.requires.runs in
    omega (arith, few, fit)

pub call_function-requires-clause-callee : goal.call_function-requires-clause-callee
call_function-requires-clause-callee c =
    takings.its_function (record { arguments_are = c.tops_law.ensures.arguments; looked = c.tops_law.ensures.method_arguments }) c.room_law.ensures.stands (λ t d. c.tops_law.ensures.slots (view_of t) d)
    c.args.operands.now.room c.args.library.now c.args.arena.now c.args.frames.now c.args.op c.args.number c.args.end c.requires.runs c.requires.methods c.in-CallFunction.is

pub call_function-requires-clause-known : goal.call_function-requires-clause-known
call_function-requires-clause-known c =
    takings.slots_are_known (record { arguments_are = c.tops_law.ensures.arguments; looked = c.tops_law.ensures.method_arguments }) c.room_law.ensures.stands (λ t d. c.tops_law.ensures.slots (view_of t) d)
    c.args.operands.now.room c.args.library.now c.args.arena.now c.args.frames.now c.args.op c.args.number c.args.end c.requires.runs

pub call_function-requires-clause-all_told : goal.call_function-requires-clause-all_told
call_function-requires-clause-all_told c =
    takings.told_there c.args.library.now c.args.arena.now c.args.frames.now (record { instruction = fetched.call c.args.op c.args.number; end = c.args.end }) c.requires.runs.runs

pub returns-in-CallFunction-clause-taken : goal.returns-in-CallFunction-clause-taken
returns-in-CallFunction-clause-taken c =
    let known = takings.slots_are_known (record { arguments_are = c.tops_law.ensures.arguments; looked = c.tops_law.ensures.method_arguments }) c.room_law.ensures.stands (λ t d. c.tops_law.ensures.slots (view_of t) d)
    c.args.operands.now.room c.args.library.now c.args.arena.now c.args.frames.now c.args.op c.args.number c.args.end c.requires.runs in
    let n = c.call_function.ensures.size in
    subst (λ (o : CallOp). IsTaken c.args.library.now o c.args.number c.args.arena.now c.args.frames.now c.take.new.self c.call_function.result) (sym c.in-CallFunction.is)
    (takings.taken c.args.library.now call_ops.CallFunction c.args.number c.args.arena.now c.args.frames.now c.args.operands.now c.take.new.self c.call_function.result c.take.ensures.taken
    c.call_function.ensures.invokes c.call_function.ensures.known
    (c.take.ensures.known (text_at c.args.library.now) (items_at c.args.library.now) c.args.arena.now.objects known) c.take.ensures.few (omega (arith, n)) c.call_function.ensures.there)

pub call_method-requires-clause-looked : goal.call_method-requires-clause-looked
call_method-requires-clause-looked c =
    takings.its_method (record { arguments_are = c.tops_law.ensures.arguments; looked = c.tops_law.ensures.method_arguments }) c.room_law.ensures.stands (λ t d. c.tops_law.ensures.slots (view_of t) d)
    c.args.operands.now.room c.args.library.now c.args.arena.now c.args.frames.now c.args.op c.args.number c.args.end c.requires.runs c.requires.methods c.in-CallMethod.is

pub call_method-requires-clause-known : goal.call_method-requires-clause-known
call_method-requires-clause-known c =
    takings.slots_are_known (record { arguments_are = c.tops_law.ensures.arguments; looked = c.tops_law.ensures.method_arguments }) c.room_law.ensures.stands (λ t d. c.tops_law.ensures.slots (view_of t) d)
    c.args.operands.now.room c.args.library.now c.args.arena.now c.args.frames.now c.args.op c.args.number c.args.end c.requires.runs

pub call_method-requires-clause-all_told : goal.call_method-requires-clause-all_told
call_method-requires-clause-all_told c =
    takings.told_there c.args.library.now c.args.arena.now c.args.frames.now (record { instruction = fetched.call c.args.op c.args.number; end = c.args.end }) c.requires.runs.runs

pub returns-in-CallMethod-clause-taken : goal.returns-in-CallMethod-clause-taken
returns-in-CallMethod-clause-taken c =
    let known = takings.slots_are_known (record { arguments_are = c.tops_law.ensures.arguments; looked = c.tops_law.ensures.method_arguments }) c.room_law.ensures.stands (λ t d. c.tops_law.ensures.slots (view_of t) d)
    c.args.operands.now.room c.args.library.now c.args.arena.now c.args.frames.now c.args.op c.args.number c.args.end c.requires.runs in
    let n = c.call_method.ensures.size in
    subst (λ (o : CallOp). IsTaken c.args.library.now o c.args.number c.args.arena.now c.args.frames.now c.take.new.self c.call_method.result) (sym c.in-CallMethod.is)
    (takings.taken c.args.library.now call_ops.CallMethod c.args.number c.args.arena.now c.args.frames.now c.args.operands.now c.take.new.self c.call_method.result c.take.ensures.taken
    c.call_method.ensures.invokes c.call_method.ensures.known
    (c.take.ensures.known (text_at c.args.library.now) (items_at c.args.library.now) c.args.arena.now.objects known) c.take.ensures.few (omega (arith, n)) c.call_method.ensures.there)
