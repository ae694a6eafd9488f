use Rattle.std.proofs.Common.{arith}
use Rattle.std.proofs.lemmas.Result.{err_from_is_err_and}
use Rattle.mpy_reader.specs.Reading.{qstr}
use Rattle.mpy_reader.proofs.Many.{starts, goes_further, ended, exit_further}
use Rattle.mpy_reader.proofs.qstr.qstrs.Goals as goal

pub returns-in_err-entry : goal.returns-in_err-entry
returns-in_err-entry c =
    let p = err_from_is_err_and c.from_residual.result c.from_residual.ensures.1 in
    exit_further qstr _ _ _ _ _ _ _ _ _ p.1 p.2 c.loop-test.true c.in_err-entry.ensures c.loop.invariant

pub loop-init : goal.loop-init
loop-init c = rw c.new-qstrs.ensures (starts qstr _ _ _ (omega arith))

pub loop-preserved : goal.loop-preserved
loop-preserved c = rw c.in_ok-push.ensures.ok (goes_further qstr _ _ _ _ _ _ _ c.loop-test.true c.in_ok-entry.ensures c.loop.invariant)

pub returns : goal.returns
returns c = ended qstr _ _ _ _ _ c.loop-test.false c.loop.invariant
