use Rattle.std.proofs.Common.{ap, ◌∙◌, arith}
use Rattle.mpy_writer.specs.mpy_tree.Raw.{Module}
use Rattle.mpy_merge.proofs.Parts.{few_more}
use Rattle.mpy_merge.proofs.objects.count_objects.Goals as goal

pub overflow_cast-count : goal.overflow_cast-count
overflow_cast-count c =
    let same = c.objects.ensures ∙ ap (λ (m : Module). m.objects) c.module.ensures in
    let few = few_more c.args.modules.now c.loop-module.module-index c.module-item.result c.objects.result.now c.loop-module.count c.loop-module-test.true c.module-item.is same c.loop-module.invariant c.requires in
    omega (arith, few)

pub overflow_add-count : goal.overflow_add-count
overflow_add-count c =
    let same = c.objects.ensures ∙ ap (λ (m : Module). m.objects) c.module.ensures in
    let few = few_more c.args.modules.now c.loop-module.module-index c.module-item.result c.objects.result.now c.loop-module.count c.loop-module-test.true c.module-item.is same c.loop-module.invariant c.requires in
    omega (arith, few)
