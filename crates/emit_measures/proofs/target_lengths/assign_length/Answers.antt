use Rattle.std.proofs.Common.{ap, sym, ◌∙◌}
use Rattle.bc_scheme.specs.py_meaning.Plain.{plain_expr}
use Rattle.emit_measures.specs.Limits.{saturated}
use Rattle.emit_measures.proofs.StoreLengths.{no_assign, assign_is}
use Rattle.emit_measures.proofs.target_lengths.assign_length.Goals as goal

pub returns-in_default : goal.returns-in_default
returns-in_default c level held iterator = ap saturated (sym (no_assign c.args.locals.now level held iterator (plain_expr c.args.value.now) c.args.targets.now c.in_default.ensures.cases))

pub returns : goal.returns
returns c level held iterator =
    c.three.ensures _ _ _ c.expr_length.ensures c.store_length-stored.ensures c.doubled_length.ensures
    ∙ ap saturated (sym (assign_is c.args.locals.now level held iterator (plain_expr c.args.value.now) c.args.targets.now c.in-Some.first.now c.in-Some.rest.now c.in-Some.ensures.cases.0))
