use Rattle.std.proofs.Common.{sym, subst, arith}
use Rattle.std.proofs.lemmas.List.Elements.{All-get_or}
use Rattle.mpy_base.specs.declared.limits.TheConstants.{MAX_DEPTH}
use Rattle.mpy_writer.specs.mpy_tree.Canonical.{object_bytes}
use Rattle.mpy_writer.specs.Writable.{IsFine}
use Rattle.image_freeze.proofs.Loops.{taken_more, all_taken, one_of_all}
use Rattle.image_freeze.proofs.Shapes.{IsObjectOf}
use Rattle.image_freeze.proofs.objects.are_short.Goals as goal

pub is_short-requires : goal.is_short-requires
is_short-requires c =
    subst (IsObjectOf MAX_DEPTH) (sym c.object-item.is) (All-get_or (IsObjectOf MAX_DEPTH) c.args.objects.now c.loop-object.object-index c.object-item.result c.loop-object-test.true c.requires)

pub returns-then-not-is_short-clause-long : goal.returns-then-not-is_short-clause-long
returns-then-not-is_short-clause-long c =
    let one = one_of_all (object_bytes MAX_DEPTH) c.args.objects.now c.loop-object.object-index c.object-item.result c.loop-object-test.true c.object-item.is in
    let past = c.is_short.ensures.long c.if-not-is_short.true in
    λ _. omega (arith, one, past)

pub loop-object-preserved : goal.loop-object-preserved
loop-object-preserved c =
    taken_more (IsFine MAX_DEPTH) c.args.objects.now c.loop-object.object-index c.object-item.result c.loop-object-test.true c.object-item.is c.loop-object.invariant (c.is_short.ensures.fine c.if-not-is_short.false)

pub returns-clause-fine : goal.returns-clause-fine
returns-clause-fine c = λ _. all_taken (IsFine MAX_DEPTH) c.args.objects.now c.loop-object.object-index c.loop-object-test.false c.loop-object.invariant
