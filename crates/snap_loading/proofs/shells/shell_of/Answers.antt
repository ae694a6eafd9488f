use Rattle.std.proofs.Common.{ℕ, List, unwrap_or, ap, ◌∙◌}
use Rattle.mpy_base.specs.declared.builtin.Builtin.TheVariants as builtins
use Rattle.mpy_base.specs.declared.kind.Kind.TheVariants as raised
use Rattle.snap_states.specs.Decoded.{builtin_called, kind_called, name_number}
use Rattle.snap_loading.proofs.Emptied.{tuple_same, text_same, function_same, exception_same, method_same, module_same, list_room, dict_room, code_of}
use Rattle.arena_heap.specs.declared.value.DictNo.{DictNo}
use Rattle.snap_loading.proofs.shells.shell_of.Goals as goal

pub code_title-requires-clause-there : goal.code_title-requires-clause-there
code_title-requires-clause-there c =
    let f = c.requires.fine in
    code_of c.args.lookup.now.library.now c.args.lookup.now.snapshot.now f.0 c.args.object.now f.1 _ _ _ _ c.in-Function.is

pub returns-in-List-clause-room : goal.returns-in-List-clause-room
returns-in-List-clause-room c =
    let f = c.requires.fine in
    list_room c.args.lookup.now.library.now c.args.lookup.now.snapshot.now f.0 c.args.object.now f.1 _ _ c.in-List.is

pub returns-in-Dict-clause-room : goal.returns-in-Dict-clause-room
returns-in-Dict-clause-room c =
    let f = c.requires.fine in
    dict_room c.args.lookup.now.library.now c.args.lookup.now.snapshot.now f.0 c.args.object.now f.1 _ _ c.in-Dict.is

pub returns-in-Tuple-clause-object : goal.returns-in-Tuple-clause-object
returns-in-Tuple-clause-object c title t =
    tuple_same c.args.lookup.now.library.now c.args.lookup.now.snapshot.now title c.args.object.now _ _ c.in-Tuple.is c.len.ensures

pub returns-in-Text-clause-object : goal.returns-in-Text-clause-object
returns-in-Text-clause-object c title t =
    text_same c.args.lookup.now.library.now c.args.lookup.now.snapshot.now title c.args.object.now _ _ c.in-Text.is c.bytes.ensures

pub returns-in-Function-clause-object : goal.returns-in-Function-clause-object
returns-in-Function-clause-object c title t =
    function_same c.args.lookup.now.library.now c.args.lookup.now.snapshot.now title c.args.object.now _ _ _ _ _ _ _ _ c.in-Function.is
    (c.code_title.ensures title t) c.module_title.ensures (ap (λ (d : DictNo). d.cell) c.dict_of.ensures) c.value_of.ensures

pub returns-in-Exception-clause-object : goal.returns-in-Exception-clause-object
returns-in-Exception-clause-object c title t =
    let shelf = c.args.lookup.now.library.now in
    exception_same shelf c.args.lookup.now.snapshot.now title c.args.object.now _ _ _ _ _ _ _ _ _ c.in-Exception.is
    (c.kind_of_name.ensures ∙ ap (λ (b : List ℕ). unwrap_or (kind_called b) raised.Exception) c.bytes-in-Exception.ensures)
    c.value_of-in-Exception.ensures
    (c.name_number.ensures ∙ ap (name_number shelf) c.bytes-in-Exception-2.ensures)
    (c.name_number-in-Exception.ensures ∙ ap (name_number shelf) c.bytes-in-Exception-3.ensures)

pub returns-in-Method-clause-object : goal.returns-in-Method-clause-object
returns-in-Method-clause-object c title t =
    method_same c.args.lookup.now.library.now c.args.lookup.now.snapshot.now title c.args.object.now _ _ _ _ c.in-Method.is
    c.value_of-in-Method.ensures
    (c.method_of_name.ensures ∙ ap (λ (b : List ℕ). unwrap_or (builtin_called b) builtins.Print) c.bytes-in-Method.ensures)

pub returns-in-Module-clause-object : goal.returns-in-Module-clause-object
returns-in-Module-clause-object c title t =
    let shelf = c.args.lookup.now.library.now in
    module_same shelf c.args.lookup.now.snapshot.now title c.args.object.now _ _ _ _ c.in-Module.is
    (c.name_number-in-Module.ensures ∙ ap (name_number shelf) c.bytes-in-Module.ensures)
    (ap (λ (d : DictNo). d.cell) c.dict_of-in-Module.ensures)
