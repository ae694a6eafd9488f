use Rattle.std.proofs.Common.{◌<◌, List, length, All, sym, subst, arith}
use Rattle.std.specs.List.{flat_map}
use Rattle.std.proofs.lemmas.List.Elements.{All-get_or}
use Rattle.mpy_base.specs.declared.limits.TheConstants.{MAX_DEPTH, MAX_IMAGE_BYTES}
use Rattle.mpy_writer.specs.mpy_tree.declared.module.Constant.{Constant}
use Rattle.mpy_writer.specs.mpy_tree.Canonical.{object_bytes}
use Rattle.mpy_writer.specs.mpy_tree.File.{IsModule}
use Rattle.mpy_writer.specs.Writable.{IsFine}
use Rattle.image_freeze.specs.declared.named.Named.{Named}
use Rattle.image_freeze.proofs.Ended.{objects_of}
use Rattle.image_freeze.proofs.Loops.{all_taken, one_of_all, taken_more}
use Rattle.image_freeze.proofs.Shapes.{IsObjectOf, module_objects}
use Rattle.image_freeze.proofs.objects.objects_are_short.Goals as goal

pub are_short-requires : goal.are_short-requires
are_short-requires c =
    let read : IsModule c.module-item.result.held = subst (λ (m : Named). IsModule m.held) (sym c.module-item.is) (All-get_or (λ (m : Named). IsModule m.held) c.args.modules.now c.loop-module.module-index c.module-item.result c.loop-module-test.true c.requires) in
    subst (All (IsObjectOf MAX_DEPTH)) (sym c.objects.ensures) (module_objects c.module-item.result.held read)

pub returns-then-not-are_short-clause-long : goal.returns-then-not-are_short-clause-long
returns-then-not-are_short-clause-long c =
    let one = one_of_all objects_of c.args.modules.now c.loop-module.module-index c.module-item.result c.loop-module-test.true c.module-item.is in
    let past = subst (λ (z : List Constant). MAX_IMAGE_BYTES < length (flat_map (object_bytes MAX_DEPTH) z)) c.objects.ensures (c.are_short.ensures.long c.if-not-are_short.true) in
    λ _. omega (arith, one, past)

pub loop-module-preserved : goal.loop-module-preserved
loop-module-preserved c =
    taken_more (λ (m : Named). All (IsFine MAX_DEPTH) m.held.objects) c.args.modules.now c.loop-module.module-index c.module-item.result c.loop-module-test.true c.module-item.is c.loop-module.invariant
    (subst (All (IsFine MAX_DEPTH)) c.objects.ensures (c.are_short.ensures.fine c.if-not-are_short.false))

pub returns-clause-fine : goal.returns-clause-fine
returns-clause-fine c = λ _. all_taken (λ (m : Named). All (IsFine MAX_DEPTH) m.held.objects) c.args.modules.now c.loop-module.module-index c.loop-module-test.false c.loop-module.invariant
