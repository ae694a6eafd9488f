use Rattle.std.proofs.Common.{sym, subst}
use Rattle.prim_operators.specs.mpy_base.Val.{Val}
use Rattle.prim_operators.specs.py_primitives.Outcome.{Outcome}
use Rattle.prim_operators.specs.prim_walks.Plain.{plain}
use Rattle.prim_operators.specs.prim_faults.Outcomes.{IsOutcome}
use Rattle.prim_assignments.proofs.InPlace.{list_in_place, other_in_place}
use Rattle.prim_assignments.proofs.in_place.inplace_add.Goals as goal

pub returns-in-List : goal.returns-in-List
returns-in-List g c =
    let texts = g.C.Constants.text_of c.args.consts.now in
    let tuples = g.C.Constants.items_of c.args.consts.now in
    let h = c.args.arena.now in
    subst (λ (o : Outcome Val). IsOutcome texts tuples h c.extend_list.new.arena c.extend_list.result o)
    (sym (list_in_place texts tuples h c.args.left c.in-List.l (plain texts tuples c.args.right) c.in-List.is c.requires.left_leads)) c.extend_list.ensures

pub returns-in_default : goal.returns-in_default
returns-in_default g c =
    let texts = g.C.Constants.text_of c.args.consts.now in
    let tuples = g.C.Constants.items_of c.args.consts.now in
    let h = c.args.arena.now in
    subst (λ (o : Outcome Val). IsOutcome texts tuples h c.binary.new.arena c.binary.result o)
    (sym (other_in_place texts tuples h c.args.left (plain texts tuples c.args.right) c.in_default.not-List c.requires.left_leads)) c.binary.ensures
