use Rattle.std.proofs.Common.{◌<◌, List, length, All, sym, ap, subst, ◌∙◌, arith}
use Rattle.std.specs.List.{flat_map}
use Rattle.mpy_base.specs.declared.limits.TheConstants.{MAX_DEPTH, MAX_FILE_BYTES}
use Rattle.mpy_writer.specs.mpy_tree.declared.module.Constant.{Constant}
use Rattle.mpy_writer.specs.mpy_tree.Raw.{Module}
use Rattle.mpy_writer.specs.Tables.{spelled}
use Rattle.mpy_writer.specs.Writable.{IsFine}
use Rattle.mpy_merge.proofs.Shapes.{IsObjectOf, module_objects}
use Rattle.mpy_merge.proofs.Tabled.{objects_hold, objects_all, objects_long}
use Rattle.mpy_merge.proofs.objects.all_short.Goals as goal

pub are_short-requires : goal.are_short-requires
are_short-requires c = subst (All (IsObjectOf MAX_DEPTH)) (sym c.objects.ensures) (module_objects c.module-module.result.now c.module_law.ensures)

pub returns-then-not-are_short-clause-long : goal.returns-then-not-are_short-clause-long
returns-then-not-are_short-clause-long c =
    let same = c.objects.ensures ∙ ap (λ (m : Module). m.objects) c.module-module.ensures in
    let all = objects_long c.args.modules.now c.loop-module.module-index c.module-item.result c.loop-module-test.true c.module-item.is in
    let past : MAX_FILE_BYTES < length (flat_map spelled c.module-item.result.objects) = subst (λ (z : List Constant). MAX_FILE_BYTES < length (flat_map spelled z)) same (c.are_short.ensures.long c.if-not-are_short.true) in
    λ _. omega (arith, all, past)

pub loop-module-preserved : goal.loop-module-preserved
loop-module-preserved c =
    let same = c.objects.ensures ∙ ap (λ (m : Module). m.objects) c.module-module.ensures in
    objects_hold (IsFine MAX_DEPTH) c.args.modules.now c.loop-module.module-index c.module-item.result c.loop-module-test.true c.module-item.is c.loop-module.invariant (subst (All (IsFine MAX_DEPTH)) same (c.are_short.ensures.fine c.if-not-are_short.false))

pub returns-clause-fine : goal.returns-clause-fine
returns-clause-fine c = λ _. objects_all (IsFine MAX_DEPTH) c.args.modules.now c.loop-module.module-index c.loop-module-test.false c.loop-module.invariant
