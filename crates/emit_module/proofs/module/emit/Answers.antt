use Rattle.std.proofs.Common.{◌≡◌, refl}
use Rattle.std.specs.Prelude.{Ok, Err}
use Rattle.mpy_base.specs.declared.refused.Refused.TheVariants.{Fault}
use Rattle.tr_source.specs.py_meaning.Program.{module_text, source_texts}
use Rattle.emit_module.specs.declared.own.Place.{Place}
use Rattle.emit_module.specs.Module.{source_of}
use Rattle.emit_module.proofs.Fewer.{tree_few}
use Rattle.emit_module.proofs.Judging.{no_fault, that_fault}
use Rattle.emit_module.proofs.Trees.{Laws, all_named}
use Rattle.emit_module.proofs.Moduling.{Parts, IsNumbered, module_is_text, own_fault, walk_fault, are_within, lines_are, translated, at_top, fails_at_top, as_own, few_defs}
use Rattle.emit_module.proofs.Shallow.{whole_shallow}
use Rattle.emit_module.proofs.module.emit.Goals as goal

pub text_code-requires : goal.text_code-requires
text_code-requires c =
    let a = c.args.accepted.now in
    let formed = c.asked_law.ensures.formed c.args.level c.requires.0 a c.requires.1 in
    few_defs a.tree c.as_slice-body.result.now c.as_slice-body.ensures (tree_few a.tree formed)

pub functions-requires : goal.functions-requires
functions-requires c =
    let a = c.args.accepted.now in
    let formed = c.asked_law.ensures.formed c.args.level c.requires.0 a c.requires.1 in
    record { numbers = few_defs a.tree c.as_slice-body.result.now c.as_slice-body.ensures (tree_few a.tree formed) }

pub returns-in-Err-clause-fault : goal.returns-in-Err-clause-fault
returns-in-Err-clause-fault c fault e =
    let a = c.args.accepted.now in
    let file = c.args.file.now in
    let level = c.args.level in
    let source = source_of file level a.tree in
    let place : Place = record { level = level; line = 1; depth = 0; params = 0 } in
    let text = module_text file source 0 in
    let formed = c.asked_law.ensures.formed level c.requires.0 a c.requires.1 in
    let numbered : IsNumbered source = record { outer = c.numbers_law.ensures.outer a.tree formed; functions = c.numbers_law.ensures.functions a.tree formed } in
    let is : c.in-Err.refusal ≡ Fault fault = cc in
    own_fault c.draft_length_law.ensures place c.module_scope.result.is_module c.as_slice-body.result.now source c.in-Err.refusal fault numbered is refl refl (c.in-Err.ensures text (module_is_text file level a.tree refl refl c.module_scope.ensures c.as_slice-body.ensures))

pub returns-in-Err-functions-clause-fault : goal.returns-in-Err-functions-clause-fault
returns-in-Err-functions-clause-fault c fault e =
    let a = c.args.accepted.now in
    let file = c.args.file.now in
    let level = c.args.level in
    let source = source_of file level a.tree in
    let place : Place = record { level = level; line = 1; depth = 0; params = 0 } in
    let text = module_text file source 0 in
    let formed = c.asked_law.ensures.formed level c.requires.0 a c.requires.1 in
    let numbered : IsNumbered source = record { outer = c.numbers_law.ensures.outer a.tree formed; functions = c.numbers_law.ensures.functions a.tree formed } in
    let is : c.in-Err-functions.refusal ≡ Fault fault = cc in
    walk_fault c.draft_length_law.ensures source c.in-Err-functions.refusal fault numbered is refl refl (as_own c.module_scope.result.is_module c.module_scope.ensures.is_module (c.in-Ok.ensures text (module_is_text file level a.tree refl refl c.module_scope.ensures c.as_slice-body.ensures)))
    (fails_at_top file level a.tree c.in-Err-functions.refusal (c.asked_law.ensures.slots level c.requires.0 a c.requires.1) c.as_slice-body.ensures c.in-Err-functions.ensures)

pub returns-in-Ok-module_of-clause-translates : goal.returns-in-Ok-module_of-clause-translates
returns-in-Ok-module_of-clause-translates c =
    let a = c.args.accepted.now in
    let file = c.args.file.now in
    let level = c.args.level in
    let source = source_of file level a.tree in
    let place : Place = record { level = level; line = 1; depth = 0; params = 0 } in
    let text = module_text file source 0 in
    let formed = c.asked_law.ensures.formed level c.requires.0 a c.requires.1 in
    let laws : Laws = record { tree = c.tree_law.ensures.tree; numbers = c.tree_law.ensures.children; stands = c.stands_law.ensures; defined = c.functions_law.ensures.own; joined = c.joined_law.ensures } in
    let parts : Parts source place c.as_slice-body.result.now c.in-Ok.own c.in-Ok-functions.children = record {
      code = as_own c.module_scope.result.is_module c.module_scope.ensures.is_module (c.in-Ok.ensures text (module_is_text file level a.tree refl refl c.module_scope.ensures c.as_slice-body.ensures));
      line = refl;
      depth = refl;
      walked = at_top file level a.tree (c.asked_law.ensures.slots level c.requires.0 a c.requires.1) c.as_slice-body.ensures c.in-Ok-functions.ensures;
    } in
    let own = c.own_locals_law.ensures a.tree formed (c.asked_law.ensures.faultless level c.requires.0 a c.requires.1) source 0 refl refl in
    let undotted = c.texts_law.ensures a.tree (c.undotted_law.ensures.source level c.requires.0 a c.requires.1) source 0 refl in
    let named = all_named (source_texts file source 0) own undotted in
    translated laws c.in-Ok-module_of.built.whole parts c.in-Ok-module_of.ensures.whole named (c.numbers_law.ensures.outer a.tree formed) (c.numbers_law.ensures.functions a.tree formed)

pub returns-in-Ok-module_of-clause-within : goal.returns-in-Ok-module_of-clause-within
returns-in-Ok-module_of-clause-within c =
    let a = c.args.accepted.now in
    let file = c.args.file.now in
    let level = c.args.level in
    let source = source_of file level a.tree in
    let place : Place = record { level = level; line = 1; depth = 0; params = 0 } in
    let text = module_text file source 0 in
    let parts : Parts source place c.as_slice-body.result.now c.in-Ok.own c.in-Ok-functions.children = record {
      code = as_own c.module_scope.result.is_module c.module_scope.ensures.is_module (c.in-Ok.ensures text (module_is_text file level a.tree refl refl c.module_scope.ensures c.as_slice-body.ensures));
      line = refl;
      depth = refl;
      walked = at_top file level a.tree (c.asked_law.ensures.slots level c.requires.0 a c.requires.1) c.as_slice-body.ensures c.in-Ok-functions.ensures;
    } in
    let formed = c.asked_law.ensures.formed level c.requires.0 a c.requires.1 in
    are_within c.draft_length_law.ensures (record { outer = c.numbers_law.ensures.outer a.tree formed; functions = c.numbers_law.ensures.functions a.tree formed }) parts

pub returns-in-Ok-module_of-clause-shallow : goal.returns-in-Ok-module_of-clause-shallow
returns-in-Ok-module_of-clause-shallow c =
    let a = c.args.accepted.now in
    let file = c.args.file.now in
    let level = c.args.level in
    let children = c.in-Ok-functions.children in
    let walked = at_top file level a.tree (c.asked_law.ensures.slots level c.requires.0 a c.requires.1) c.as_slice-body.ensures c.in-Ok-functions.ensures in
    whole_shallow c.in-Ok.own children c.in-Ok-module_of.built.whole c.in-Ok-module_of.ensures.whole walked

pub returns-in-Ok-module_of-clause-lines : goal.returns-in-Ok-module_of-clause-lines
returns-in-Ok-module_of-clause-lines c =
    let a = c.args.accepted.now in
    let walked = at_top c.args.file.now c.args.level a.tree (c.asked_law.ensures.slots c.args.level c.requires.0 a c.requires.1) c.as_slice-body.ensures c.in-Ok-functions.ensures in
    lines_are c.in-Ok-module_of.built.lines c.in-Ok-module_of.ensures.lines walked

pub returns-in-Err-clause-only : goal.returns-in-Err-clause-only
returns-in-Err-clause-only c = no_fault (source_of c.args.file.now c.args.level c.args.accepted.now.tree) (Err c.in-Err.refusal) (returns-in-Err-clause-fault c)

pub returns-in-Err-clause-fault_only : goal.returns-in-Err-clause-fault_only
returns-in-Err-clause-fault_only c = that_fault (source_of c.args.file.now c.args.level c.args.accepted.now.tree) (Err c.in-Err.refusal) tt (returns-in-Err-clause-fault c)

pub returns-in-Err-functions-clause-only : goal.returns-in-Err-functions-clause-only
returns-in-Err-functions-clause-only c = no_fault (source_of c.args.file.now c.args.level c.args.accepted.now.tree) (Err c.in-Err-functions.refusal) (returns-in-Err-functions-clause-fault c)

pub returns-in-Err-functions-clause-fault_only : goal.returns-in-Err-functions-clause-fault_only
returns-in-Err-functions-clause-fault_only c = that_fault (source_of c.args.file.now c.args.level c.args.accepted.now.tree) (Err c.in-Err-functions.refusal) tt (returns-in-Err-functions-clause-fault c)

pub returns-in-Ok-module_of-clause-fault_only : goal.returns-in-Ok-module_of-clause-fault_only
returns-in-Ok-module_of-clause-fault_only c = that_fault (source_of c.args.file.now c.args.level c.args.accepted.now.tree) (Ok c.in-Ok-module_of.built) (returns-in-Ok-module_of-clause-within c) (λ fault e. cc)
