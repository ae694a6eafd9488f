use Rattle.std.proofs.Common.{All, sym, ap, subst, ◌∙◌}
use Rattle.mpy_base.specs.declared.limits.TheConstants.{MAX_DEPTH}
use Rattle.mpy_writer.specs.mpy_tree.Raw.{Module}
use Rattle.mpy_writer.specs.Writable.{IsFine}
use Rattle.mpy_merge.proofs.Tabled.{objects_in}
use Rattle.mpy_merge.proofs.objects.write_objects.Goals as goal

pub write_constants-requires : goal.write_constants-requires
write_constants-requires c =
    let same = c.objects.ensures ∙ ap (λ (m : Module). m.objects) c.module.ensures in
    subst (All (IsFine MAX_DEPTH)) (sym same) (objects_in (IsFine MAX_DEPTH) c.args.modules.now c.loop-module.module-index c.module-item.result c.loop-module-test.true c.module-item.is c.requires)
