use Rattle.std.proofs.Common.{◌+◌}
use Rattle.std.proofs.lemmas.Result.{err_from_is_err_and}
use Rattle.py_expressions.specs.Input.{input_of}
use Rattle.py_expressions.specs.declared.grammar.Rule.TheVariants as rule
use Rattle.py_expressions.specs.Reading.{expr, members}
use Rattle.py_expressions.specs.Targets.{all_targets}
use Rattle.py_expressions.proofs.Singles.{passes_on, stops_at_primaries, gives_targets}
use Rattle.py_expressions.proofs.targets.all_targets.Goals as goal

pub returns-in_err-found : goal.returns-in_err-found
returns-in_err-found c =
    let p = err_from_is_err_and c.from_residual.result c.from_residual.ensures.1 in
    let i = input_of c.args.tokens.now in
    let ahead = c.left-depth.result in
    rw (p.1, p.2) (passes_on (members (expr (ahead + 1) rule.Primary) i) (all_targets i) c.in_err-found.field-0.0 c.members.new.tokens c.members.new.tokens (stops_at_primaries i ahead c.left-depth.ensures) c.in_err-found.ensures)

pub returns : goal.returns
returns c =
    rw (gives_targets (input_of c.args.tokens.now) (input_of c.members.new.tokens) c.left-depth.result (c.in_ok-found.found, c.in_ok-found.comma) c.tuple_of.result c.in_ok-target.target c.left-depth.ensures c.in_ok-found.ensures c.tuple_of.ensures c.in_ok-target.ensures) c.given.ensures
