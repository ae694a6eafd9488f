use Rattle.std.proofs.Common.{Bool, map, refl, sym}
use Rattle.prim_faults.specs.mpy_base.Val.{Val, Truth}
use Rattle.prim_faults.specs.arena_objects.Iterables.{items_in}
use Rattle.prim_faults.specs.py_primitives.Outcome.{Outcome, gives}
use Rattle.prim_faults.specs.py_primitives.Operators.{contains_equal}
use Rattle.prim_faults.specs.prim_walks.Plain.{plain, plain_heap}
use Rattle.prim_comparisons.proofs.Walked.{gives_truth, walked, too_deep}
use Rattle.prim_comparisons.proofs.membership.has_item.Goals as goal

pub returns-in-Some : goal.returns-in-Some
returns-in-Some g c =
    let texts = g.C.Constants.text_of c.args.consts.now in
    let tuples = g.C.Constants.items_of c.args.consts.now in
    let h = c.args.arena.now in
    let heap = plain_heap texts tuples h in
    let all = c.requires.all_told in
    let v = plain texts tuples c.args.v in
    let next : Bool → Outcome Val = λ found. gives (Truth found) heap in
    walked texts tuples h all (contains_equal heap v (map (plain texts tuples) (items_in tuples h c.args.over))) next c.in-Some.found _ (sym c.in-Some.ensures.answer) (gives_truth texts tuples h all c.in-Some.found c.in-Some.found refl)

pub returns-in-None : goal.returns-in-None
returns-in-None g c =
    let texts = g.C.Constants.text_of c.args.consts.now in
    let tuples = g.C.Constants.items_of c.args.consts.now in
    let h = c.args.arena.now in
    let heap = plain_heap texts tuples h in
    let all = c.requires.all_told in
    let v = plain texts tuples c.args.v in
    let next : Bool → Outcome Val = λ found. gives (Truth found) heap in
    too_deep texts tuples h all (contains_equal heap v (map (plain texts tuples) (items_in tuples h c.args.over))) next (sym c.in-None.ensures.answer)
