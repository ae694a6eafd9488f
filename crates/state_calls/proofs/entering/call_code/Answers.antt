use Rattle.std.proofs.Common.{Ok, refl, subst, arith}
use Rattle.std.specs.Prelude.{IfNone}
use Rattle.vm_states.specs.bc_library.Constants.{items_at, text_at}
use Rattle.frame_calls.specs.prim_calls.Callees.{IsKnownCallee}
use Rattle.vm_states.specs.vm_fetching.Instructions as fetched
use Rattle.frame_calls.specs.declared.binding.FunctionCode.{FunctionCode}
use Rattle.state_calls.specs.Codes.{LacksCode}
use Rattle.state_calls.proofs.Arriving.{enters_stays}
use Rattle.state_calls.proofs.Functions as functions
use Rattle.state_calls.proofs.Places as places
use Rattle.state_calls.proofs.Takings as takings
use Rattle.state_calls.proofs.Keepings as keepings
use Rattle.frame_calls.specs.arena_heap.declared.value.Value.TheVariants as values
use Rattle.state_calls.proofs.entering.call_code.Goals as goal

pub skip_function-requires-clause-some : goal.skip_function-requires-clause-some
skip_function-requires-clause-some c =
    let n = c.requires.taken.size in
    let some = takings.some_slots c.args.op in
    omega (arith, n, some)

pub skip_function-requires-clause-there : goal.skip_function-requires-clause-there
skip_function-requires-clause-there c = c.requires.taken.there

pub returns-in-None-clause-comes : goal.returns-in-None-clause-comes
returns-in-None-clause-comes c p row means shelf_is state r w =
    let rows : places.Laws = record { runs = c.rows_law.ensures.runs; as_many = c.rows_law.ensures.as_many } in
    let shelf = c.args.library.now in
    let heap = c.args.arena.now in
    let s = c.args.frames.now in
    let new = c.skip_function.new.frames in
    let given = c.args.operands.now in
    let lacks : LacksCode shelf c.args.function = subst (λ z. IfNone z (LacksCode shelf c.args.function)) c.in-None.is c.code_of.ensures.none in
    functions.by_comes rows p row means shelf shelf_is c.args.op c.args.number c.args.end heap s new state r given c.args.call c.requires.taken c.args.function c.requires.callee (Ok tt)
    (functions.skipped_comes rows p row means shelf shelf_is c.args.op c.args.number c.args.end heap s new state r given c.args.call c.requires.taken c.args.function c.requires.callee lacks
    (λ layout library. c.skip_function.ensures.steps p.tables.texts p.tables.tuples layout library _ heap given.args given.keys c.args.function)) w

pub returns-in-None-clause-again : goal.returns-in-None-clause-again
returns-in-None-clause-again c p row means shelf_is state r =
    let rows : places.Laws = record { runs = c.rows_law.ensures.runs; as_many = c.rows_law.ensures.as_many } in
    let shelf = c.args.library.now in
    let heap = c.args.arena.now in
    let s = c.args.frames.now in
    let new = c.skip_function.new.frames in
    let given = c.args.operands.now in
    let lacks : LacksCode shelf c.args.function = subst (λ z. IfNone z (LacksCode shelf c.args.function)) c.in-None.is c.code_of.ensures.none in
    functions.skipped_state rows p row means shelf shelf_is c.args.op c.args.number c.args.end heap s new state r given c.args.call c.requires.taken c.args.function c.requires.callee lacks
    (λ layout library. c.skip_function.ensures.steps p.tables.texts p.tables.tuples layout library _ heap given.args given.keys c.args.function)
    (record { stays = c.known_law.ensures.stays; puts = c.known_law.ensures.puts; goes_on = c.keeps_law.ensures.goes_on }) c.skip_function.ensures.moved

pub run_function-requires-clause-some : goal.run_function-requires-clause-some
run_function-requires-clause-some c =
    let n = c.requires.taken.size in
    let some = takings.some_slots c.args.op in
    omega (arith, n, some)

pub run_function-requires-clause-there : goal.run_function-requires-clause-there
run_function-requires-clause-there c = c.requires.taken.there

pub run_function-requires-clause-locals : goal.run_function-requires-clause-locals
run_function-requires-clause-locals c =
    functions.locals_fit (record { runs = c.rows_law.ensures.runs; as_many = c.rows_law.ensures.as_many }) c.room_law.ensures.stands c.args.bindings.now.room c.args.library.now c.args.arena.now c.args.frames.now
    (record { instruction = fetched.call c.args.op c.args.number; end = c.args.end }) c.requires.runs c.args.function c.in-Some.module_number c.in-Some.row.now c.in-Some.ensures.found.1 c.in-Some.ensures.found.0
    (record { params = c.as_slice.result; given = c.in-Some.row.now.given; locals = c.in-Some.row.now.locals }) c.as_slice.ensures refl refl

pub run_function-requires-clause-params : goal.run_function-requires-clause-params
run_function-requires-clause-params c =
    functions.params_fit (record { runs = c.rows_law.ensures.runs; as_many = c.rows_law.ensures.as_many }) c.room_law.ensures.stands c.args.bindings.now.room c.args.library.now c.args.arena.now c.args.frames.now
    (record { instruction = fetched.call c.args.op c.args.number; end = c.args.end }) c.requires.runs c.args.function c.in-Some.module_number c.in-Some.row.now c.in-Some.ensures.found.1 c.in-Some.ensures.found.0
    (record { params = c.as_slice.result; given = c.in-Some.row.now.given; locals = c.in-Some.row.now.locals }) c.as_slice.ensures refl refl

pub run_function-requires-clause-fits : goal.run_function-requires-clause-fits
run_function-requires-clause-fits c =
    functions.bindings_fit (record { runs = c.rows_law.ensures.runs; as_many = c.rows_law.ensures.as_many }) c.room_law.ensures.stands c.args.bindings.now.room c.args.library.now c.args.arena.now c.args.frames.now
    (record { instruction = fetched.call c.args.op c.args.number; end = c.args.end }) c.requires.runs c.args.function c.in-Some.module_number c.in-Some.row.now c.in-Some.ensures.found.1 c.in-Some.ensures.found.0
    (record { params = c.as_slice.result; given = c.in-Some.row.now.given; locals = c.in-Some.row.now.locals }) c.as_slice.ensures refl refl

pub run_function-requires-clause-few_args : goal.run_function-requires-clause-few_args
run_function-requires-clause-few_args c = let n = c.requires.taken.few in omega (arith, n)

pub run_function-requires-clause-function : goal.run_function-requires-clause-function
run_function-requires-clause-function c =
    subst (IsKnownCallee (text_at c.args.library.now) (items_at c.args.library.now) c.args.arena.now.objects) c.requires.callee c.requires.taken.callee

pub run_function-requires-clause-known : goal.run_function-requires-clause-known
run_function-requires-clause-known c = c.requires.taken.operands

pub run_function-requires-clause-all_told : goal.run_function-requires-clause-all_told
run_function-requires-clause-all_told c =
    takings.told_there c.args.library.now c.args.arena.now c.args.frames.now (record { instruction = fetched.call c.args.op c.args.number; end = c.args.end }) c.requires.runs.runs

pub returns-in-Some-clause-comes : goal.returns-in-Some-clause-comes
returns-in-Some-clause-comes c p row means shelf_is state r w =
    let rows : places.Laws = record { runs = c.rows_law.ensures.runs; as_many = c.rows_law.ensures.as_many } in
    let shelf = c.args.library.now in
    let heap = c.args.arena.now in
    let s = c.args.frames.now in
    let new = c.run_function.new.frames in
    let given = c.args.operands.now in
    let result = c.run_function.result in
    let code : FunctionCode = record { params = c.as_slice.result; given = c.in-Some.row.now.given; locals = c.in-Some.row.now.locals } in
    let comes = functions.entered_comes rows p row means shelf shelf_is c.args.op c.args.number c.args.end heap s new state r given c.args.call c.requires.taken c.args.function c.requires.callee
    c.in-Some.module_number c.in-Some.row.now c.in-Some.ensures.found.1 c.in-Some.ensures.found.0 code c.as_slice.ensures refl refl result c.run_function.ensures.steps in
    functions.by_comes rows p row means shelf shelf_is c.args.op c.args.number c.args.end heap s new state r given c.args.call c.requires.taken c.args.function c.requires.callee result comes w

pub returns-in-Some-clause-again : goal.returns-in-Some-clause-again
returns-in-Some-clause-again c p row means shelf_is state r =
    let rows : places.Laws = record { runs = c.rows_law.ensures.runs; as_many = c.rows_law.ensures.as_many } in
    let shelf = c.args.library.now in
    let heap = c.args.arena.now in
    let s = c.args.frames.now in
    let new = c.run_function.new.frames in
    let given = c.args.operands.now in
    let result = c.run_function.result in
    let code : FunctionCode = record { params = c.as_slice.result; given = c.in-Some.row.now.given; locals = c.in-Some.row.now.locals } in
    let comes = functions.entered_comes rows p row means shelf shelf_is c.args.op c.args.number c.args.end heap s new state r given c.args.call c.requires.taken c.args.function c.requires.callee
    c.in-Some.module_number c.in-Some.row.now c.in-Some.ensures.found.1 c.in-Some.ensures.found.0 code c.as_slice.ensures refl refl result c.run_function.ensures.steps in
    functions.entered_again rows p row means shelf shelf_is c.args.op c.args.number c.args.end heap s new state r given c.args.call c.requires.taken c.args.function c.requires.callee
    c.in-Some.module_number c.in-Some.row.now c.in-Some.ensures.found.1 c.in-Some.ensures.found.0 code c.as_slice.ensures refl refl result c.keeps_law.ensures.went c.run_function.ensures.entered c.run_function.ensures.placed comes

pub returns-in-Some-clause-stays : goal.returns-in-Some-clause-stays
returns-in-Some-clause-stays c =
    enters_stays (text_at c.args.library.now) (items_at c.args.library.now) c.args.arena.now.objects c.args.function c.in-Some.module_number c.in-Some.row.now.locals c.args.call.size c.args.frames.now c.run_function.new.frames c.run_function.result c.run_function.ensures.entered

pub returns-in-None-clause-keeps : goal.returns-in-None-clause-keeps
returns-in-None-clause-keeps c = keepings.value_keeps c.args.end c.args.call.size values.None c.args.frames.now c.skip_function.new.frames c.skip_function.ensures.moved

pub returns-in-Some-clause-keeps : goal.returns-in-Some-clause-keeps
returns-in-Some-clause-keeps c =
    keepings.enters_keeps (text_at c.args.library.now) (items_at c.args.library.now) c.args.arena.now.objects c.args.function c.in-Some.module_number c.in-Some.row.now.locals c.args.call.size c.args.frames.now c.run_function.new.frames c.run_function.result c.run_function.ensures.entered
