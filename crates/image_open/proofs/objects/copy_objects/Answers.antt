use Rattle.std.proofs.Common.{arith}
use Rattle.image_open.proofs.ModuleCopies.{all_copied, at_place, next_copied}
use Rattle.image_open.proofs.objects.copy_objects.Goals as goal

pub copy_object-requires : goal.copy_object-requires
copy_object-requires c = c.requires c.loop-object.object-index c.object-item.result (at_place c.args.objects.now c.loop-object.object-index c.object-item.result c.loop-object-test.true c.object-item.is)

pub loop-object-preserved : goal.loop-object-preserved
loop-object-preserved c =
    next_copied c.args.objects.now c.loop-object.copies c.push.new.self c.loop-object.object-index c.object-item.result c.in_ok-copy_object.field-0 c.loop-object-test.true c.object-item.is c.in_ok-copy_object.ensures c.in_ok-push.ensures.ok c.loop-object.invariant

pub returns : goal.returns
returns c = all_copied c.args.objects.now c.loop-object.copies c.loop-object.object-index (omega (arith, c.loop-object-test.false)) c.loop-object.invariant
