use Rattle.std.proofs.Common.{subst}
use Rattle.mpy_writer.specs.mpy_tree.File.{IsModule}
use Rattle.bc_verify.specs.Verified.{IsVerified}
use Rattle.mpy_merge.proofs.Nests.{taken_more, all_taken}
use Rattle.mpy_merge.proofs.file.modules_law.Goals as goal

pub loop-module-preserved : goal.loop-module-preserved
loop-module-preserved c =
    let modules = c.args.modules.now in
    let i = c.loop-module.module-index in
    let m = c.module-item.result in (
      taken_more IsModule modules i m c.loop-module-test.true c.module-item.is c.loop-module.invariant.0 (subst IsModule c.module.ensures c.module_law.ensures),
      taken_more IsVerified modules i m c.loop-module-test.true c.module-item.is c.loop-module.invariant.1 c.verified_law.ensures,
    )

pub returns-clause-read : goal.returns-clause-read
returns-clause-read c = all_taken IsModule c.args.modules.now c.loop-module.module-index c.loop-module-test.false c.loop-module.invariant.0

pub returns-clause-verified : goal.returns-clause-verified
returns-clause-verified c = all_taken IsVerified c.args.modules.now c.loop-module.module-index c.loop-module-test.false c.loop-module.invariant.1
