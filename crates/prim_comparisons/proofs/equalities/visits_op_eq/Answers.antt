use Rattle.std.proofs.Common.{ℕ, Bool, min, refl, sym, ap, ◌∙◌}
use Rattle.prim_faults.specs.mpy_base.Val.{Val, Truth}
use Rattle.prim_faults.specs.py_values.Equality.{equal}
use Rattle.prim_faults.specs.py_primitives.Outcome.{Outcome, gives}
use Rattle.prim_faults.specs.prim_walks.Plain.{plain, plain_heap}
use Rattle.prim_comparisons.proofs.Walked.{visits_walked}
use Rattle.prim_comparisons.proofs.equalities.visits_op_eq.Goals as goal

pub returns : goal.returns
returns g c =
    let texts = g.C.Constants.text_of c.args.consts.now in
    let tuples = g.C.Constants.items_of c.args.consts.now in
    let h = c.args.arena.now in
    let heap = plain_heap texts tuples h in
    let a = plain texts tuples c.args.a in
    let b = plain texts tuples c.args.b in
    let next : Bool → Outcome Val = λ same. gives (Truth same) heap in
    c.visits_same.ensures.visits ∙ ap (λ (n : ℕ). min n c.args.most) (sym (visits_walked heap next (λ same. refl) (equal heap a b)))
