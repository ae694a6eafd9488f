use Rattle.std.proofs.Common.{length}
use Rattle.std.specs.List.{flat_map}
use Rattle.snap_saving.specs.Put.{number}
use Rattle.snap_saving.specs.Steps.{found, local_bytes}
use Rattle.snap_saving.proofs.Adding.{joined2, long_moved, ok_moved}
use Rattle.snap_saving.proofs.frames.put_all_locals.Goals as goal

pub returns-clause-ok : goal.returns-clause-ok
returns-clause-ok c =
    let items = flat_map (local_bytes c.args.library.now (found c.args.places.now)) c.args.locals.now in
    let e = joined2 c.args.out.now.items c.put_number.new.out.items (number (length c.args.locals.now)) items c.in_ok-put_number.ensures in
    ok_moved c.put_locals.result c.put_locals.new.out.items _ _ e c.put_locals.ensures.ok

pub returns-clause-fault : goal.returns-clause-fault
returns-clause-fault c =
    let items = flat_map (local_bytes c.args.library.now (found c.args.places.now)) c.args.locals.now in
    let e = joined2 c.args.out.now.items c.put_number.new.out.items (number (length c.args.locals.now)) items c.in_ok-put_number.ensures in
    long_moved c.put_locals.result _ _ e c.put_locals.ensures.fault
