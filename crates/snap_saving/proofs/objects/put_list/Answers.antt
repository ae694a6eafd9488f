use Rattle.snap_saving.specs.Steps.{found}
use Rattle.snap_saving.proofs.Adding.{long_moved, ok_moved}
use Rattle.snap_saving.proofs.OfObjects.{list_joined}
use Rattle.snap_saving.proofs.objects.put_list.Goals as goal

pub returns-clause-ok : goal.returns-clause-ok
returns-clause-ok c =
    let e = list_joined c.args.library.now (found c.args.places.now) c.args.arena.now c.args.l.cell c.requires c.list_room.result c.list_len.result c.list_room.ensures c.list_len.ensures c.args.out.now.items c.put_sized.new.out.items c.in_ok-put_sized.ensures in
    ok_moved c.put_items.result c.put_items.new.out.items _ _ e c.put_items.ensures.ok

pub returns-clause-fault : goal.returns-clause-fault
returns-clause-fault c =
    let e = list_joined c.args.library.now (found c.args.places.now) c.args.arena.now c.args.l.cell c.requires c.list_room.result c.list_len.result c.list_room.ensures c.list_len.ensures c.args.out.now.items c.put_sized.new.out.items c.in_ok-put_sized.ensures in
    long_moved c.put_items.result _ _ e c.put_items.ensures.fault
