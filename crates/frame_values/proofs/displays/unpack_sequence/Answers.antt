use Rattle.std.proofs.Common.{length}
use Rattle.frame_values.proofs.Displaying.{unpacks, unpacks_moved, unpacks_leaves}
use Rattle.frame_values.proofs.displays.unpack_sequence.Goals as goal

pub returns-clause-steps : goal.returns-clause-steps
returns-clause-steps g c =
    let texts = g.C.Constants.text_of c.args.consts.now in
    let tuples = g.C.Constants.items_of c.args.consts.now in
    let before = c.args.arena.now in
    let old = c.args.frames.now in
    unpacks texts tuples c.args.end (length c.args.items.now) before c.unpack-given.new.arena old c.put_unpacked.new.frames c.put_unpacked.result c.value_at-v.result c.unpack-given.new.slots c.unpack-given.result c.unpack-given.ensures.outcome c.value_at-v.ensures.there c.put_unpacked.ensures

pub returns-clause-moved : goal.returns-clause-moved
returns-clause-moved g c =
    let texts = g.C.Constants.text_of c.args.consts.now in
    let tuples = g.C.Constants.items_of c.args.consts.now in
    let before = c.args.arena.now in
    let old = c.args.frames.now in
    unpacks_moved texts tuples c.args.end (length c.args.items.now) before c.unpack-given.new.arena old c.put_unpacked.new.frames c.put_unpacked.result c.value_at-v.result c.unpack-given.new.slots c.unpack-given.result c.unpack-given.ensures.count c.unpack-given.ensures.outcome c.put_unpacked.ensures

pub returns-clause-leaves : goal.returns-clause-leaves
returns-clause-leaves g c =
    let texts = g.C.Constants.text_of c.args.consts.now in
    let tuples = g.C.Constants.items_of c.args.consts.now in
    let before = c.args.arena.now in
    let old = c.args.frames.now in
    unpacks_leaves texts tuples c.args.end (length c.args.items.now) before c.unpack-given.new.arena old c.put_unpacked.new.frames c.put_unpacked.result c.value_at-v.result c.unpack-given.new.slots c.unpack-given.result c.unpack-given.ensures.outcome c.put_unpacked.ensures
