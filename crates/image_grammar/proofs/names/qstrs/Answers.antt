use Rattle.std.proofs.Common.{arith}
use Rattle.std.proofs.lemmas.Result.{err_from_is_err_and}
use Rattle.image_grammar.specs.Opening.{qstr}
use Rattle.image_grammar.proofs.Times.{starts, goes_further, ended, exit_further}
use Rattle.image_grammar.proofs.names.qstrs.Goals as goal

pub returns-in_err-rest : goal.returns-in_err-rest
returns-in_err-rest c =
    let p = err_from_is_err_and c.from_residual.result c.from_residual.ensures.1 in
    exit_further (qstr c.args.pool.now) _ _ _ _ _ _ _ _ _ _ p.1 p.2 c.loop-test.true c.in_err-rest.ensures c.loop.invariant

pub loop-init : goal.loop-init
loop-init c = rw c.new.ensures (starts (qstr c.args.pool.now) _ _ _ _ (omega arith))

pub loop-preserved : goal.loop-preserved
loop-preserved c = goes_further (qstr c.args.pool.now) _ _ _ _ _ _ _ _ c.loop-test.true c.in_ok-rest.ensures c.loop.invariant

pub returns : goal.returns
returns c = ended (qstr c.args.pool.now) _ _ _ _ _ _ c.loop-test.false c.loop.invariant
