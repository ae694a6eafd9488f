use Rattle.std.proofs.Common.{ℕ, ℤ, List, Result, sym, ap, ap₂, ◌∙◌, subst}
use Rattle.prim_faults.specs.mpy_base.Val.{Val}
use Rattle.prim_faults.specs.py_values.Shown.{Shown}
use Rattle.prim_faults.specs.py_primitives.Faults.{UnsupportedOne}
use Rattle.prim_faults.specs.py_primitives.Outcome.{Outcome, raises}
use Rattle.prim_faults.specs.py_primitives.Operators.{unary_shown, gives_number}
use Rattle.prim_faults.specs.py_values.declared.small_int.NumFault.{NumFault}
use Rattle.prim_faults.specs.prim_walks.Plain.{plain, plain_heap}
use Rattle.prim_faults.specs.Outcomes.{IsOutcome}
use Rattle.prim_faults.proofs.Outcomes.{raises_outcome}
use Rattle.prim_operators.specs.Operators.{plain_unary}
use Rattle.prim_operators.proofs.Looked.{number_shown, shows_number, unary_other}
use Rattle.prim_operators.proofs.one_operand.unary.Goals as goal

pub returns-in-Some : goal.returns-in-Some
returns-in-Some g c =
    let texts = g.C.Constants.text_of c.args.consts.now in
    let tuples = g.C.Constants.items_of c.args.consts.now in
    let h = c.args.arena.now in
    let heap = plain_heap texts tuples h in
    let v = plain texts tuples c.args.v in
    let shows = shows_number texts tuples h c.args.v _ (sym c.in-Some.ensures) in
    subst (λ (o : Outcome Val). IsOutcome texts tuples h h c.gives_number.result o)
    (sym (ap (λ (s : Shown). unary_shown heap (plain_unary c.args.op) v s) shows ∙ ap (λ (answer : Result ℤ NumFault). gives_number heap answer) (sym c.unary_answer.ensures)))
    (c.gives_number.ensures texts tuples h c.requires.all_told)

pub returns-in-None : goal.returns-in-None
returns-in-None g c =
    let texts = g.C.Constants.text_of c.args.consts.now in
    let tuples = g.C.Constants.items_of c.args.consts.now in
    let h = c.args.arena.now in
    let heap = plain_heap texts tuples h in
    let v = plain texts tuples c.args.v in
    raises_outcome texts tuples h _ _ c.requires.all_told tt
    (unary_other heap (plain_unary c.args.op) v _ (number_shown texts tuples h c.args.v ∙ sym c.in-None.ensures)
    ∙ ap₂ (λ (m t : List ℕ). raises {A = Val} (UnsupportedOne m t) heap) (sym c.method.ensures) (sym (c.type_of.ensures texts tuples)))
