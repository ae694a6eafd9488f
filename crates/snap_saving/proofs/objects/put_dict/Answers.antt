use Rattle.snap_saving.specs.Steps.{found}
use Rattle.snap_saving.proofs.Adding.{long_moved, ok_moved}
use Rattle.snap_saving.proofs.OfObjects.{dict_joined}
use Rattle.snap_saving.proofs.objects.put_dict.Goals as goal

pub returns-clause-ok : goal.returns-clause-ok
returns-clause-ok c =
    let e = dict_joined c.args.library.now (found c.args.places.now) c.args.arena.now c.args.d.cell c.requires c.dict_room.result c.dict_len.result c.dict_room.ensures c.dict_len.ensures c.args.out.now.items c.put_sized.new.out.items c.in_ok-put_sized.ensures in
    ok_moved c.put_pairs.result c.put_pairs.new.out.items _ _ e c.put_pairs.ensures.ok

pub returns-clause-fault : goal.returns-clause-fault
returns-clause-fault c =
    let e = dict_joined c.args.library.now (found c.args.places.now) c.args.arena.now c.args.d.cell c.requires c.dict_room.result c.dict_len.result c.dict_room.ensures c.dict_len.ensures c.args.out.now.items c.put_sized.new.out.items c.in_ok-put_sized.ensures in
    long_moved c.put_pairs.result _ _ e c.put_pairs.ensures.fault
