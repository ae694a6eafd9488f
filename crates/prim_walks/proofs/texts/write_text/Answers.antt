use Rattle.prim_walks.specs.Plain.{plain, plain_heap}
use Rattle.prim_walks.proofs.WholeTexts.{whole, no_text}
use Rattle.prim_walks.proofs.texts.write_text.Goals as goal

pub returns-in-Ok-clause-text : goal.returns-in-Ok-clause-text
returns-in-Ok-clause-text g c =
    let texts = g.C.Constants.text_of c.args.consts.now in
    let tuples = g.C.Constants.items_of c.args.consts.now in
    let heap = plain_heap texts tuples c.args.arena.now in
    let v = plain texts tuples c.args.v in
    whole heap c.args.raw v c.in-Ok.ensures

pub returns-in-Err-clause-none : goal.returns-in-Err-clause-none
returns-in-Err-clause-none g c =
    let texts = g.C.Constants.text_of c.args.consts.now in
    let tuples = g.C.Constants.items_of c.args.consts.now in
    let heap = plain_heap texts tuples c.args.arena.now in
    let v = plain texts tuples c.args.v in
    no_text heap c.args.raw v c.in-Err.field-0 c.write_value.new.budget.left c.in-Err.ensures
