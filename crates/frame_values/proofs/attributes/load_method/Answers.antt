use Rattle.frame_values.proofs.Looking.{looked_steps, looked_moved, looked_leaves}
use Rattle.frame_values.proofs.attributes.load_method.Goals as goal

pub returns-clause-steps : goal.returns-clause-steps
returns-clause-steps g c =
    let texts = g.C.Constants.text_of c.args.consts.now in
    let tuples = g.C.Constants.items_of c.args.consts.now in
    let before = c.args.arena.now in
    let old = c.args.frames.now in
    looked_steps texts tuples c.args.end before old c.put_looked.new.frames c.put_looked.result c.value_at-object.result c.args.name c.load_method-given.result c.load_method-given.ensures c.value_at-object.ensures.there c.put_looked.ensures

pub returns-clause-moved : goal.returns-clause-moved
returns-clause-moved g c =
    let texts = g.C.Constants.text_of c.args.consts.now in
    let tuples = g.C.Constants.items_of c.args.consts.now in
    let before = c.args.arena.now in
    let old = c.args.frames.now in
    looked_moved texts tuples c.args.end before old c.put_looked.new.frames c.put_looked.result c.value_at-object.result c.args.name c.load_method-given.result c.load_method-given.ensures.known c.put_looked.ensures

pub returns-clause-leaves : goal.returns-clause-leaves
returns-clause-leaves g c =
    let texts = g.C.Constants.text_of c.args.consts.now in
    let tuples = g.C.Constants.items_of c.args.consts.now in
    let before = c.args.arena.now in
    let old = c.args.frames.now in
    looked_leaves texts tuples c.args.end before old c.put_looked.new.frames c.put_looked.result c.value_at-object.result c.args.name c.load_method-given.result c.load_method-given.ensures.known c.requires.all_told c.put_looked.ensures
