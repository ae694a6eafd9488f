use Rattle.std.proofs.Common.{◌+◌, ap, sym, ◌∙◌}
use Rattle.emit_measures.specs.Limits.{saturated}
use Rattle.emit_measures.specs.Lengths.{name_length}
use Rattle.emit_measures.specs.Rows.{reads_wide}
use Rattle.bc_scheme.specs.py_effects.Modules.{parts_of, first_of}
use Rattle.emit_measures.proofs.StoreLengths.{name_told}
use Rattle.emit_measures.proofs.Names.{alias_none, alias_some}
use Rattle.emit_measures.proofs.imports.alias_length.Goals as goal

pub returns-in-None : goal.returns-in-None
returns-in-None c =
    let locals = c.args.locals.now in
    let name = c.first_part.ensures ∙ ap (λ z. first_of (parts_of z)) c.bytes.ensures in
    c.plus.ensures _ (name_told locals _ c.name_length.result (c.name_length.ensures ∙ ap (name_length locals) name)) ∙ ap saturated (sym (alias_none locals c.args.alias.now c.in-None.is))

pub returns-in-Some : goal.returns-in-Some
returns-in-Some c =
    let locals = c.args.locals.now in
    let reads = c.reads_length.ensures ∙ ap (λ z. saturated (reads_wide z)) c.bytes-in-Some-2.ensures in
    let stored = c.name_length-stored.ensures ∙ ap (name_length locals) c.bytes-in-Some.ensures in
    c.plus-in-Some-2.ensures _ (c.plus-in-Some.ensures _ reads ∙ ap (λ n. saturated (reads_wide c.args.alias.now.name + n)) stored) ∙ ap saturated (sym (alias_some locals c.args.alias.now c.in-Some.bound c.in-Some.is))
