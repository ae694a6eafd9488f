use Rattle.std.proofs.Common.{◌+◌, drop, refl}
use Rattle.std.proofs.lemmas.Result.{err_from_is_err_and}
use Rattle.mpy_writer.proofs.Lists.{next_of}
use Rattle.image_open.specs.bc_library.Texts.{texts_of}
use Rattle.image_freeze.specs.declared.named.Named.{Named}
use Rattle.image_freeze.proofs.Pools.{raw_texts}
use Rattle.image_freeze.proofs.Uses.{exit_passing, goes_on}
use Rattle.image_freeze.proofs.texts.use_modules.Goals as goal

pub returns-in_err-use_module-clause-fault : goal.returns-in_err-use_module-clause-fault
returns-in_err-use_module-clause-fault c =
    let p = err_from_is_err_and c.from_residual.result c.from_residual.ensures.1 in
    let modules = c.args.modules.now in
    let i = c.loop-module.module-index in
    let m = c.module-item.result in
    exit_passing c.args.pool.now c.loop-module.pool (raw_texts modules) (raw_texts (drop i modules)) (texts_of m.name m.held) (raw_texts (drop (i + 1) modules)) _ _ _ p.1 p.2
    c.in_err-use_module.ensures.fault c.loop-module.invariant (next_of (λ (n : Named). texts_of n.name n.held) modules i m (texts_of m.name m.held) c.loop-module-test.true c.module-item.is refl)

pub loop-module-preserved : goal.loop-module-preserved
loop-module-preserved c =
    let modules = c.args.modules.now in
    let i = c.loop-module.module-index in
    let m = c.module-item.result in
    goes_on c.args.pool.now c.loop-module.pool c.use_module.new.pool (raw_texts modules) (raw_texts (drop i modules)) (texts_of m.name m.held) (raw_texts (drop (i + 1) modules)) c.loop-module.invariant
    (next_of (λ (n : Named). texts_of n.name n.held) modules i m (texts_of m.name m.held) c.loop-module-test.true c.module-item.is refl) c.in_ok-use_module.ensures.ok
