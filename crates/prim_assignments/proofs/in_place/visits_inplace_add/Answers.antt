use Rattle.std.proofs.Common.{◌≡◌, ap, sym, ◌∙◌, arith}
use Rattle.std.specs.Prelude.{ℕ, min}
use Rattle.prim_operators.specs.mpy_base.Val.{Val}
use Rattle.prim_operators.specs.py_primitives.Outcome.{Outcome}
use Rattle.prim_operators.specs.prim_walks.Plain.{plain}
use Rattle.prim_assignments.proofs.InPlace.{list_in_place, other_visits}
use Rattle.prim_assignments.proofs.in_place.visits_inplace_add.Goals as goal

nothing : (visits most : ℕ) → visits ≡ 0 → 0 ≡ min visits most
nothing visits most e = omega arith

pub returns-in-List : goal.returns-in-List
returns-in-List g c =
    let texts = g.C.Constants.text_of c.args.consts.now in
    let tuples = g.C.Constants.items_of c.args.consts.now in
    let h = c.args.arena.now in
    let same = list_in_place texts tuples h c.args.left c.in-List.l (plain texts tuples c.args.right) c.in-List.is c.requires.left_leads in
    c.visits_extend.ensures ∙ ap (λ (o : Outcome Val). min o.visits c.args.most) (sym same)

pub returns-in_default : goal.returns-in_default
returns-in_default g c =
    let texts = g.C.Constants.text_of c.args.consts.now in
    let tuples = g.C.Constants.items_of c.args.consts.now in
    let h = c.args.arena.now in
    let none = other_visits texts tuples h c.args.left (plain texts tuples c.args.right) c.in_default.not-List c.requires.left_leads in
    nothing _ c.args.most none
