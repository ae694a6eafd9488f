use Rattle.std.proofs.Common.{◌+◌, ◌<◌, length, sym, ap, ◌∙◌, arith}
use Rattle.std.proofs.lemmas.Bool.{lt-leb}
use Rattle.mpy_base.specs.declared.limits.TheConstants.{MAX_TABLE}
use Rattle.mpy_writer.specs.mpy_tree.Raw.{Module}
use Rattle.mpy_merge.specs.Merged.{all_objects}
use Rattle.mpy_merge.proofs.Parts.{objects_more, front_few}
use Rattle.mpy_merge.proofs.names.are_few.Goals as goal

pub returns-in-None : goal.returns-in-None
returns-in-None c =
    let modules = c.args.modules.now in
    let i = c.loop-module.module-index in
    let size = ap length (c.objects.ensures ∙ ap (λ (m : Module). m.objects) c.module.ensures) in
    let past : MAX_TABLE < length (all_objects modules) =
    omega (arith, size, objects_more modules i c.module-item.result c.loop-module-test.true c.module-item.is, front_few modules (i + 1), c.loop-module.invariant, c.in-None.ensures) in
    sym (lt-leb (length (all_objects modules)) MAX_TABLE past)
