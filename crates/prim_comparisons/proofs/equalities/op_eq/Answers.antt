use Rattle.std.proofs.Common.{Bool, refl, sym}
use Rattle.prim_faults.specs.mpy_base.Val.{Val, Truth}
use Rattle.prim_faults.specs.py_values.Equality.{equal}
use Rattle.prim_faults.specs.py_primitives.Outcome.{Outcome, gives}
use Rattle.prim_faults.specs.prim_walks.Plain.{plain, plain_heap}
use Rattle.prim_comparisons.proofs.Walked.{gives_truth, walked, too_deep}
use Rattle.prim_comparisons.proofs.equalities.op_eq.Goals as goal

pub returns-in-Some : goal.returns-in-Some
returns-in-Some g c =
    let texts = g.C.Constants.text_of c.args.consts.now in
    let tuples = g.C.Constants.items_of c.args.consts.now in
    let h = c.args.arena.now in
    let heap = plain_heap texts tuples h in
    let a = plain texts tuples c.args.a in
    let b = plain texts tuples c.args.b in
    let next : Bool → Outcome Val = λ same. gives (Truth same) heap in
    walked texts tuples h c.requires.all_told (equal heap a b) next c.in-Some.same _ (sym c.in-Some.ensures.answer) (gives_truth texts tuples h c.requires.all_told c.in-Some.same c.in-Some.same refl)

pub returns-in-None : goal.returns-in-None
returns-in-None g c =
    let texts = g.C.Constants.text_of c.args.consts.now in
    let tuples = g.C.Constants.items_of c.args.consts.now in
    let h = c.args.arena.now in
    let heap = plain_heap texts tuples h in
    let a = plain texts tuples c.args.a in
    let b = plain texts tuples c.args.b in
    let next : Bool → Outcome Val = λ same. gives (Truth same) heap in
    too_deep texts tuples h c.requires.all_told (equal heap a b) next (sym c.in-None.ensures.answer)
