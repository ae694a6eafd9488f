use Rattle.std.proofs.Common.{Bool, ap, sym, ◌∙◌}
use Rattle.py_primitives.specs.py_values.Equality.{Walk, equal_within}
use Rattle.prim_walks.specs.Plain.{plain, plain_heap}
use Rattle.prim_walks.proofs.RunSteps.{answer_is}
use Rattle.prim_walks.proofs.EqualSteps.{equal_is}
use Rattle.prim_walks.proofs.equality.equal.Goals as goal

pub returns : goal.returns
returns g c =
    let texts = g.C.Constants.text_of c.args.consts.now in
    let tuples = g.C.Constants.items_of c.args.consts.now in
    let heap = plain_heap texts tuples c.args.arena.now in
    let a = plain texts tuples c.args.a in
    let b = plain texts tuples c.args.b in
    record { answer = c.ok.ensures.value ∙ (answer_is (equal_within heap 32 a b) c.equal_values.result c.equal_values.new.budget.left c.equal_values.ensures ∙ sym (ap (λ (walk : Walk Bool). walk.answer) (equal_is heap a b))) }
