use Rattle.std.proofs.Common.{refl, arith}
use Rattle.std.proofs.lemmas.Result.{err_from_is_err_and}
use Rattle.image_grammar.specs.Opening.{entry}
use Rattle.image_grammar.proofs.Fine.{entries_grow}
use Rattle.image_grammar.proofs.Times.{starts, goes_further, ended, exit_further}
use Rattle.image_grammar.specs.Base.{base_of}
use Rattle.image_open.proofs.entry.entries.Goals as goal

pub returns-in_err-rest : goal.returns-in_err-rest
returns-in_err-rest c =
    let p = err_from_is_err_and c.from_residual.result c.from_residual.ensures.1 in
    exit_further (entry (base_of c.args.below.now) c.args.pool.now) _ _ _ _ _ _ _ _ _ _ p.1 p.2 c.loop-test.true c.in_err-rest.ensures c.loop.invariant.0

pub loop-init : goal.loop-init
loop-init c = rw c.new.ensures (rw c.requires.used (starts (entry (base_of c.args.below.now) c.args.pool.now) _ _ _ _ (omega arith), refl))

pub loop-preserved : goal.loop-preserved
loop-preserved c =
    let grown = entries_grow _ _ _ _ _ _ c.in_ok-rest.ensures in
    let count = c.loop.invariant.1 in
    (goes_further (entry (base_of c.args.below.now) c.args.pool.now) _ _ _ _ _ _ _ _ c.loop-test.true c.in_ok-rest.ensures c.loop.invariant.0, omega (arith, grown, count))

pub returns : goal.returns
returns c = ended (entry (base_of c.args.below.now) c.args.pool.now) _ _ _ _ _ _ c.loop-test.false c.loop.invariant.0
