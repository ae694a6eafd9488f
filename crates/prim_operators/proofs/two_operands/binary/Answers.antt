use Rattle.std.proofs.Common.{ℤ, Result, sym, ap, ◌∙◌, subst}
use Rattle.prim_faults.specs.mpy_base.Val.{Val}
use Rattle.prim_faults.specs.py_values.declared.small_int.NumFault.{NumFault}
use Rattle.prim_faults.specs.py_primitives.Faults.{Fault}
use Rattle.prim_faults.specs.py_primitives.Outcome.{Outcome, raises}
use Rattle.prim_faults.specs.py_primitives.Operators.{gives_number}
use Rattle.prim_faults.specs.prim_walks.Plain.{plain, plain_heap}
use Rattle.prim_faults.specs.Outcomes.{IsOutcome}
use Rattle.prim_faults.proofs.Outcomes.{raises_outcome}
use Rattle.prim_operators.specs.Operators.{plain_operator}
use Rattle.prim_operators.proofs.Pairings.{unfit_unsupported, numbers_answer}
use Rattle.prim_operators.proofs.two_operands.binary.Goals as goal

pub returns-in-Numbers : goal.returns-in-Numbers
returns-in-Numbers g c =
    let texts = g.C.Constants.text_of c.args.consts.now in
    let tuples = g.C.Constants.items_of c.args.consts.now in
    let h = c.args.arena.now in
    let heap = plain_heap texts tuples h in
    let a = plain texts tuples c.args.left in
    let b = plain texts tuples c.args.right in
    let op = plain_operator c.args.op in
    let x = c.in-Numbers.ensures.0 texts tuples in
    let y = c.in-Numbers.ensures.1 texts tuples in
    subst (λ (o : Outcome Val). IsOutcome texts tuples h h c.gives_number.result o)
    (sym (numbers_answer heap op a b _ _ _ _ x y ∙ ap (λ (answer : Result ℤ NumFault). gives_number heap answer) (sym c.number_answer.ensures)))
    (c.gives_number.ensures texts tuples h c.requires.all_told)

pub returns-in-Unfit : goal.returns-in-Unfit
returns-in-Unfit g c =
    let texts = g.C.Constants.text_of c.args.consts.now in
    let tuples = g.C.Constants.items_of c.args.consts.now in
    let h = c.args.arena.now in
    let heap = plain_heap texts tuples h in
    let a = plain texts tuples c.args.left in
    let b = plain texts tuples c.args.right in
    let op = plain_operator c.args.op in
    let fault = c.unsupported.ensures texts tuples in
    raises_outcome texts tuples h c.unsupported.result _ c.requires.all_told fault.0
    (unfit_unsupported heap op a b _ _ (c.in-Unfit.ensures texts tuples) ∙ ap (λ (f : Fault). raises {A = Val} f heap) (sym fault.1))
