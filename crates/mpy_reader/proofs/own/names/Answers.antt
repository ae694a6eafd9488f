use Rattle.std.proofs.Common.{arith}
use Rattle.std.proofs.lemmas.Result.{err_from_is_err_and}
use Rattle.mpy_reader.specs.Reading.{name}
use Rattle.mpy_reader.proofs.Many.{starts, goes_further, ended, passing_exit}
use Rattle.mpy_reader.proofs.own.names.Goals as goal

pub returns-in_err-behind : goal.returns-in_err-behind
returns-in_err-behind c =
    let p = err_from_is_err_and c.from_residual.result c.from_residual.ensures.1 in
    passing_exit (name c.args.texts) _ _ _ _ _ _ _ _ p.1 p.2 c.loop-test.true c.in_err-behind.ensures c.loop.invariant.1

pub loop-init : goal.loop-init
loop-init c = (_, starts (name c.args.texts) _ _ _ (omega arith))

pub loop-preserved : goal.loop-preserved
loop-preserved c = (_, goes_further (name c.args.texts) _ _ _ _ _ _ _ c.loop-test.true c.in_ok-behind.ensures c.loop.invariant.1)

pub returns : goal.returns
returns c = (_, ended (name c.args.texts) _ _ _ _ _ c.loop-test.false c.loop.invariant.1)
