use Rattle.snap_saving.specs.Steps.{found}
use Rattle.snap_saving.proofs.Adding.{long_moved, ok_moved}
use Rattle.snap_saving.proofs.OfObjects.{tuple_joined}
use Rattle.snap_saving.proofs.objects.put_tuple.Goals as goal

pub returns-clause-ok : goal.returns-clause-ok
returns-clause-ok c =
    let e = tuple_joined c.args.library.now (found c.args.places.now) c.args.arena.now c.args.t.cell c.requires c.tuple_len.result c.tuple_len.ensures c.args.out.now.items c.put_counted.new.out.items c.in_ok-put_counted.ensures in
    ok_moved c.put_fields.result c.put_fields.new.out.items _ _ e c.put_fields.ensures.ok

pub returns-clause-fault : goal.returns-clause-fault
returns-clause-fault c =
    let e = tuple_joined c.args.library.now (found c.args.places.now) c.args.arena.now c.args.t.cell c.requires c.tuple_len.result c.tuple_len.ensures c.args.out.now.items c.put_counted.new.out.items c.in_ok-put_counted.ensures in
    long_moved c.put_fields.result _ _ e c.put_fields.ensures.fault
