use Rattle.py_primitives.specs.mpy_base.World.{object}
use Rattle.prim_walks.proofs.LeafTexts.{items_looked, args_told, is_raised}
use Rattle.prim_walks.proofs.exceptions.exception_parts.Goals as goal

pub returns-clause-parts : goal.returns-clause-parts
returns-clause-parts g c =
    let p = c.exc_parts-kind.result in
    is_raised (g.C.Constants.text_of c.args.consts.now) (g.C.Constants.items_of c.args.consts.now) c.args.arena.now (object c.args.arena.now.objects c.args.e.cell) p.0 p.1 p.2 p.3 p.4 c.exc_parts-kind.ensures.parts

pub look_at-requires-clause-told : goal.look_at-requires-clause-told
look_at-requires-clause-told g c =
    let p = c.exc_parts-kind.result in
    args_told (g.C.Constants.text_of c.args.consts.now) (g.C.Constants.items_of c.args.consts.now) c.args.arena.now (object c.args.arena.now.objects c.args.e.cell) p.0 p.1 p.2 p.3 p.4 c.exc_parts-kind.ensures.parts
    (c.requires.all_told.told c.args.e.cell)

pub returns-clause-told : goal.returns-clause-told
returns-clause-told g c =
    let p = c.exc_parts-kind.result in
    args_told (g.C.Constants.text_of c.args.consts.now) (g.C.Constants.items_of c.args.consts.now) c.args.arena.now (object c.args.arena.now.objects c.args.e.cell) p.0 p.1 p.2 p.3 p.4 c.exc_parts-kind.ensures.parts
    (c.requires.all_told.told c.args.e.cell)

pub returns-clause-items : goal.returns-clause-items
returns-clause-items g c =
    let p = c.exc_parts-kind.result in
    let ensures = c.exc_parts-kind.ensures in
    items_looked (g.C.Constants.text_of c.args.consts.now) (g.C.Constants.items_of c.args.consts.now) c.args.arena.now p.1 c.look_at.result ensures.tuple ensures.leads c.look_at.ensures.shown
