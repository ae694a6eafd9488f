use Rattle.prim_builtins.specs.py_primitives.Outcome.{making_text}
use Rattle.prim_builtins.specs.prim_walks.Plain.{plain, plain_heap}
use Rattle.prim_builtins.specs.prim_walks.Whole.{text_of}
use Rattle.prim_types.proofs.FoundTexts.{measured_found, measured_len, unmeasured, text_follows, too_deep}
use Rattle.prim_types.proofs.texts.make_shown.Goals as goal

pub make_filled-requires-clause-found : goal.make_filled-requires-clause-found
make_filled-requires-clause-found g c =
    let texts = g.C.Constants.text_of c.args.consts.now in
    let tuples = g.C.Constants.items_of c.args.consts.now in
    let h = c.args.arena.now in
    let heap = plain_heap texts tuples h in
    let walk = text_of heap c.args.raw (plain texts tuples c.args.v) in
    measured_found c.in-Some.len walk.answer c.in-Some.ensures

pub make_filled-requires-clause-len : goal.make_filled-requires-clause-len
make_filled-requires-clause-len g c =
    let texts = g.C.Constants.text_of c.args.consts.now in
    let tuples = g.C.Constants.items_of c.args.consts.now in
    let h = c.args.arena.now in
    let heap = plain_heap texts tuples h in
    let walk = text_of heap c.args.raw (plain texts tuples c.args.v) in
    measured_len c.in-Some.len walk.answer c.in-Some.ensures

pub returns-in-Some : goal.returns-in-Some
returns-in-Some g c =
    let texts = g.C.Constants.text_of c.args.consts.now in
    let tuples = g.C.Constants.items_of c.args.consts.now in
    let h = c.args.arena.now in
    let heap = plain_heap texts tuples h in
    let walk = text_of heap c.args.raw (plain texts tuples c.args.v) in
    text_follows texts tuples h c.make_filled.new.arena walk (making_text heap) c.make_filled.result (measured_found c.in-Some.len walk.answer c.in-Some.ensures) c.make_filled.ensures

pub returns-in-None : goal.returns-in-None
returns-in-None g c =
    let texts = g.C.Constants.text_of c.args.consts.now in
    let tuples = g.C.Constants.items_of c.args.consts.now in
    let h = c.args.arena.now in
    let heap = plain_heap texts tuples h in
    let walk = text_of heap c.args.raw (plain texts tuples c.args.v) in
    too_deep texts tuples h c.requires.all_told walk (making_text heap) (unmeasured walk.answer c.in-None.ensures)
