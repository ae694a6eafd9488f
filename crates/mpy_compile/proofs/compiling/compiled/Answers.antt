use Rattle.std.proofs.Common.{Err, sym, ap, ◌∙◌, ◌∷◌, length}
use Rattle.std.proofs.lemmas.List.{length-map}
use Rattle.emit_module.specs.First.{Site, source_sites}
use Rattle.emit_module.specs.Module.{source_of}
use Rattle.mpy_compile.proofs.Outcomes.{source_refused, with_file}
use Rattle.mpy_compile.proofs.compiling.compiled.Goals as goal

pub emit-requires : goal.emit-requires
emit-requires c = (c.args.source.now, c.in-Ok.ensures.found)

pub filed-requires-clause-near : goal.filed-requires-clause-near
filed-requires-clause-near c tables fit far =
    let a = c.in-Ok.accepted in
    let level = c.args.level in
    let source = c.args.source.now in
    c.near_law.ensures.near c.args.stored.now level a.tree c.in-Ok-emit.emitted.whole (c.asked_law.ensures.formed level source a c.in-Ok.ensures.found) (c.asked_law.ensures.faultless level source a c.in-Ok.ensures.found)
    c.in-Ok-emit.ensures.within c.in-Ok-emit.ensures.translates c.in-Ok-emit.ensures.shallow tables fit far

pub filed-requires-clause-lines : goal.filed-requires-clause-lines
filed-requires-clause-lines c =
    let a = c.in-Ok.accepted in
    let many = c.near_law.ensures.count c.args.stored.now c.args.level a.tree c.in-Ok-emit.emitted.whole c.in-Ok-emit.ensures.within c.in-Ok-emit.ensures.translates c.in-Ok-emit.ensures.shallow in
    many ∙ (sym (length-map (source_sites (source_of c.args.stored.now c.args.level a.tree)) (λ (s : Site). s.line)) ∙ sym (ap length c.in-Ok-emit.ensures.lines))

pub returns-in-Err : goal.returns-in-Err
returns-in-Err c = source_refused c.args.level c.args.source.now c.args.stored.now c.in-Err.refusal (λ fault e. c.in-Err.ensures.fault fault (ap Err e))

pub returns-in-Ok-emit : goal.returns-in-Ok-emit
returns-in-Ok-emit c =
    with_file c.args.level c.args.source.now c.args.stored.now c.in-Ok-emit.emitted.whole (1 ∷ c.in-Ok-emit.emitted.lines)
    (record { accepted = c.in-Ok.accepted; is = c.in-Ok.ensures.found; within = c.in-Ok-emit.ensures.within; translated = c.in-Ok-emit.ensures.translates })
    c.in-Ok-emit.ensures.lines c.filed.result c.filed.ensures
