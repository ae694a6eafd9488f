use Rattle.std.proofs.Common.{arith}
use Rattle.std.proofs.lemmas.Result.{err_from_is_err_and}
use Rattle.image_grammar.specs.Opening.{own_text}
use Rattle.image_grammar.proofs.Fine.{text_grows}
use Rattle.image_grammar.proofs.Times.{starts, goes_further, ended, exit_further}
use Rattle.image_grammar.proofs.texts.own_texts.Goals as goal

pub returns-in_err-rest : goal.returns-in_err-rest
returns-in_err-rest c =
    let p = err_from_is_err_and c.from_residual.result c.from_residual.ensures.1 in
    exit_further own_text _ _ _ _ _ _ _ _ _ _ p.1 p.2 c.loop-test.true c.in_err-rest.ensures c.loop.invariant.0

pub loop-init : goal.loop-init
loop-init c = (starts own_text _ _ c.args.pool c.args.bytes.now (omega arith), omega arith)

pub loop-preserved : goal.loop-preserved
loop-preserved c =
    let grown = text_grows _ _ _ _ c.in_ok-rest.ensures in
    let count = c.loop.invariant.1 in
    (goes_further own_text _ _ _ _ _ _ _ _ c.loop-test.true c.in_ok-rest.ensures c.loop.invariant.0, omega (arith, grown, count))

pub returns : goal.returns
returns c = ended own_text _ _ _ _ _ _ c.loop-test.false c.loop.invariant.0
