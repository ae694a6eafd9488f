use Rattle.snap_states.proofs.Owning.{all_counted, one_counted}
use Rattle.snap_states.proofs.owners.owners_of.Goals as goal

pub loop-object-preserved : goal.loop-object-preserved
loop-object-preserved c =
    one_counted c.args.objects.now c.loop-object.object-index c.object-item.result c.loop-object.owners.items c.count_object.new.owners.items c.loop-object-test.true c.object-item.is c.count_object.ensures.as_many c.count_object.ensures.each c.loop-object.invariant

pub returns : goal.returns
returns c = all_counted c.args.objects.now c.loop-object.object-index c.loop-object.owners.items c.loop-object-test.false c.loop-object.auto.object-index-end c.loop-object.invariant
