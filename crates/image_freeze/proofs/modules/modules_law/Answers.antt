use Rattle.mpy_writer.specs.mpy_tree.File.{IsModule}
use Rattle.image_freeze.specs.declared.named.Named.{Named}
use Rattle.image_freeze.proofs.Loops.{all_taken, taken_more}
use Rattle.image_freeze.proofs.modules.modules_law.Goals as goal

pub loop-module-preserved : goal.loop-module-preserved
loop-module-preserved c =
    taken_more (λ (m : Named). IsModule m.held) c.args.modules.now c.loop-module.module-index c.module-item.result c.loop-module-test.true c.module-item.is c.loop-module.invariant c.module_law.ensures

pub returns : goal.returns
returns c = all_taken (λ (m : Named). IsModule m.held) c.args.modules.now c.loop-module.module-index c.loop-module-test.false c.loop-module.invariant
