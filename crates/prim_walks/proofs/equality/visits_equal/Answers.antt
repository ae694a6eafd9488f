use Rattle.std.proofs.Common.{ℕ, Bool, Option, Result, ap, sym, ◌∙◌}
use Rattle.std.specs.Prelude.{min}
use Rattle.py_primitives.specs.py_values.Equality.{Walk, equal_within}
use Rattle.prim_walks.specs.declared.budget.Halt.{Halt}
use Rattle.prim_walks.specs.Plain.{plain, plain_heap}
use Rattle.prim_walks.proofs.RunSteps.{visits_are}
use Rattle.prim_walks.proofs.EqualSteps.{equal_is}
use Rattle.prim_walks.proofs.equality.visits_equal.Goals as goal

pub returns : goal.returns
returns g c =
    let texts = g.C.Constants.text_of c.args.consts.now in
    let tuples = g.C.Constants.items_of c.args.consts.now in
    let heap = plain_heap texts tuples c.args.arena.now in
    let a = plain texts tuples c.args.a in
    let b = plain texts tuples c.args.b in
    let left = ap (λ (p : Result Bool Halt × Option ℕ). p.1) c.equal_values.ensures in
    record { visits = visits_are (equal_within heap 32 a b) c.args.most c.made_of.result c.equal_values.new.budget.left left c.made_of.ensures ∙ sym (ap (λ (walk : Walk Bool). min walk.visits c.args.most) (equal_is heap a b)) }
