use Rattle.std.proofs.Common.{◌++◌, ℕ, ap}
use Rattle.std.specs.Option.{option_map}
use Rattle.mpy_base.specs.World.{FunctionObject, ExceptionObject, MethodObject, RangeObject, ModuleObject}
use Rattle.snap_saving.specs.Steps.{bytes_at, found}
use Rattle.snap_saving.proofs.Adding.{long_moved, ok_moved}
use Rattle.snap_saving.proofs.OfObjects.{carried, text_carried}
use Rattle.snap_saving.proofs.objects.put_object.Goals as goal

pub put_list-requires : goal.put_list-requires
put_list-requires c = (rw c.in-List.is at c.requires).1

pub returns-in-List-clause-ok : goal.returns-in-List-clause-ok
returns-in-List-clause-ok c =
    let r = rw c.in-List.is at c.requires in
    ok_moved c.put_list.result c.put_list.new.out.items _ _ (ap (λ (cell : ℕ). c.args.out.now.items ++ bytes_at c.args.library.now (found c.args.places.now) c.args.arena.now cell) r.0) c.put_list.ensures.ok

pub returns-in-List-clause-fault : goal.returns-in-List-clause-fault
returns-in-List-clause-fault c =
    let r = rw c.in-List.is at c.requires in
    long_moved c.put_list.result _ _ (ap (λ (cell : ℕ). c.args.out.now.items ++ bytes_at c.args.library.now (found c.args.places.now) c.args.arena.now cell) r.0) c.put_list.ensures.fault

pub put_dict-requires : goal.put_dict-requires
put_dict-requires c = (rw c.in-Dict.is at c.requires).1

pub returns-in-Dict-clause-ok : goal.returns-in-Dict-clause-ok
returns-in-Dict-clause-ok c =
    let r = rw c.in-Dict.is at c.requires in
    ok_moved c.put_dict.result c.put_dict.new.out.items _ _ (ap (λ (cell : ℕ). c.args.out.now.items ++ bytes_at c.args.library.now (found c.args.places.now) c.args.arena.now cell) r.0) c.put_dict.ensures.ok

pub returns-in-Dict-clause-fault : goal.returns-in-Dict-clause-fault
returns-in-Dict-clause-fault c =
    let r = rw c.in-Dict.is at c.requires in
    long_moved c.put_dict.result _ _ (ap (λ (cell : ℕ). c.args.out.now.items ++ bytes_at c.args.library.now (found c.args.places.now) c.args.arena.now cell) r.0) c.put_dict.ensures.fault

pub put_tuple-requires : goal.put_tuple-requires
put_tuple-requires c = (rw c.in-Tuple.is at c.requires).1

pub returns-in-Tuple-clause-ok : goal.returns-in-Tuple-clause-ok
returns-in-Tuple-clause-ok c =
    let r = rw c.in-Tuple.is at c.requires in
    ok_moved c.put_tuple.result c.put_tuple.new.out.items _ _ (ap (λ (cell : ℕ). c.args.out.now.items ++ bytes_at c.args.library.now (found c.args.places.now) c.args.arena.now cell) r.0) c.put_tuple.ensures.ok

pub returns-in-Tuple-clause-fault : goal.returns-in-Tuple-clause-fault
returns-in-Tuple-clause-fault c =
    let r = rw c.in-Tuple.is at c.requires in
    long_moved c.put_tuple.result _ _ (ap (λ (cell : ℕ). c.args.out.now.items ++ bytes_at c.args.library.now (found c.args.places.now) c.args.arena.now cell) r.0) c.put_tuple.ensures.fault

pub put_made_text-requires : goal.put_made_text-requires
put_made_text-requires c = (rw c.in-Text.is at c.requires).1

pub returns-in_ok-put_made_text-in-Text-clause-ok : goal.returns-in_ok-put_made_text-in-Text-clause-ok
returns-in_ok-put_made_text-in-Text-clause-ok c =
    let r = rw c.in-Text.is at c.requires in
    text_carried c.args.library.now (found c.args.places.now) c.args.arena.now c.in-Text.t.cell c.args.cell r.0 r.1 c.args.out.now.items c.put_made_text.new.out.items c.in_ok-put_made_text-in-Text.ensures

pub fun_parts-requires : goal.fun_parts-requires
fun_parts-requires c = (rw c.in-Fun.is at c.requires).1

pub returns-in_ok-put_function-in-Fun-clause-ok : goal.returns-in_ok-put_function-in-Fun-clause-ok
returns-in_ok-put_function-in-Fun-clause-ok c =
    let r = rw c.in-Fun.is at c.requires in
    carried c.args.library.now (found c.args.places.now) c.args.arena.now c.in-Fun.f.cell c.args.cell (FunctionObject c.fun_parts.result.0 c.fun_parts.result.1 c.fun_parts.result.2 c.fun_parts.result.3.cell c.fun_parts.result.4) r.0 c.fun_parts.ensures.parts c.args.out.now.items c.put_function.new.out.items c.in_ok-put_function-in-Fun.ensures

pub exc_parts-requires : goal.exc_parts-requires
exc_parts-requires c = (rw c.in-Exc.is at c.requires).1

pub returns-in_ok-put_exception-in-Exc-clause-ok : goal.returns-in_ok-put_exception-in-Exc-clause-ok
returns-in_ok-put_exception-in-Exc-clause-ok c =
    let r = rw c.in-Exc.is at c.requires in
    carried c.args.library.now (found c.args.places.now) c.args.arena.now c.in-Exc.e.cell c.args.cell (ExceptionObject c.exc_parts.result.0 c.exc_parts.result.1 c.exc_parts.result.2 c.exc_parts.result.3 c.exc_parts.result.4) r.0 c.exc_parts.ensures.parts c.args.out.now.items c.put_exception.new.out.items c.in_ok-put_exception-in-Exc.ensures

pub method_parts-requires : goal.method_parts-requires
method_parts-requires c = (rw c.in-Method.is at c.requires).1

pub returns-in_ok-put_method-in-Method-clause-ok : goal.returns-in_ok-put_method-in-Method-clause-ok
returns-in_ok-put_method-in-Method-clause-ok c =
    let r = rw c.in-Method.is at c.requires in
    carried c.args.library.now (found c.args.places.now) c.args.arena.now c.in-Method.m.cell c.args.cell (MethodObject c.method_parts.result.0 c.method_parts.result.1) r.0 c.method_parts.ensures.parts c.args.out.now.items c.put_method.new.out.items c.in_ok-put_method-in-Method.ensures

pub range_parts-requires : goal.range_parts-requires
range_parts-requires c = (rw c.in-Range.is at c.requires).1

pub returns-in_ok-put_range-in-Range-clause-ok : goal.returns-in_ok-put_range-in-Range-clause-ok
returns-in_ok-put_range-in-Range-clause-ok c =
    let r = rw c.in-Range.is at c.requires in
    carried c.args.library.now (found c.args.places.now) c.args.arena.now c.in-Range.r.cell c.args.cell (RangeObject c.range_parts.result.0 c.range_parts.result.1 c.range_parts.result.2) r.0 c.range_parts.ensures.parts c.args.out.now.items c.put_range.new.out.items c.in_ok-put_range-in-Range.ensures

pub module_parts-requires : goal.module_parts-requires
module_parts-requires c = (rw c.in-Module.is at c.requires).1

pub returns-in_ok-put_module-in-Module-clause-ok : goal.returns-in_ok-put_module-in-Module-clause-ok
returns-in_ok-put_module-in-Module-clause-ok c =
    let r = rw c.in-Module.is at c.requires in
    carried c.args.library.now (found c.args.places.now) c.args.arena.now c.in-Module.m.cell c.args.cell (ModuleObject c.module_parts.result.0 (option_map (λ names. names.cell) c.module_parts.result.1)) r.0 c.module_parts.ensures.parts c.args.out.now.items c.put_module.new.out.items c.in_ok-put_module-in-Module.ensures
