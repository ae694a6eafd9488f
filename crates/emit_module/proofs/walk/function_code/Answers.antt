use Rattle.std.proofs.Common.{false, length, refl}
use Rattle.std.specs.Prelude.{slice_get}
use Rattle.tr_source.specs.py_meaning.Program.{or_none}
use Rattle.emit_stmt.specs.emit_draft.Finished.{Names}
use Rattle.emit_module.proofs.Coding.{function_codes, function_shallow, function_params, many_fault, if_none, if_some}
use Rattle.emit_module.proofs.walk.function_code.Goals as goal

pub returns-in_default-clause-code : goal.returns-in_default-clause-code
returns-in_default-clause-code c =
    many_fault c.args.around.now c.args.line c.args.params.now c.args.body.now c.many_locals.result c.many_locals.ensures.code c.many_locals.ensures.line c.many_locals.ensures.word

pub many_locals-requires : goal.many_locals-requires
many_locals-requires c = if_none c.in_ok-scope.field-0 c.in_ok-scope.ensures.many c.in_default.is

pub returns-clause-shallow : goal.returns-clause-shallow
returns-clause-shallow c =
    function_shallow c.text_code.result
    (function_codes c.args.around.now c.args.line (length c.args.params.now) c.args.params.now c.args.body.now c.text_code.result refl (if_some (λ scope. Names scope false (or_none (slice_get c.args.slots.now c.args.around.now.next))) c.in_ok-scope.field-0 c.in-Some.scope c.in_ok-scope.ensures.found c.in-Some.is) c.text_code.ensures)

pub returns-clause-params : goal.returns-clause-params
returns-clause-params c =
    function_params c.text_code.result
    (function_codes c.args.around.now c.args.line (length c.args.params.now) c.args.params.now c.args.body.now c.text_code.result refl (if_some (λ scope. Names scope false (or_none (slice_get c.args.slots.now c.args.around.now.next))) c.in_ok-scope.field-0 c.in-Some.scope c.in_ok-scope.ensures.found c.in-Some.is) c.text_code.ensures)

pub returns-clause-code : goal.returns-clause-code
returns-clause-code c =
    function_codes c.args.around.now c.args.line (length c.args.params.now) c.args.params.now c.args.body.now c.text_code.result refl (if_some (λ scope. Names scope false (or_none (slice_get c.args.slots.now c.args.around.now.next))) c.in_ok-scope.field-0 c.in-Some.scope c.in_ok-scope.ensures.found c.in-Some.is) c.text_code.ensures
