use Rattle.std.proofs.Common.{ℕ, sym, ap, ap₂, ◌∙◌, subst}
use Rattle.prim_faults.specs.mpy_base.Val.{Val}
use Rattle.prim_faults.specs.py_values.Shown.{Shown}
use Rattle.prim_faults.specs.py_primitives.Faults.{Fault}
use Rattle.prim_faults.specs.py_primitives.Outcome.{Outcome, raises}
use Rattle.prim_faults.specs.py_primitives.Operators.{Multiply, binary, binary_shown}
use Rattle.prim_faults.specs.prim_walks.Plain.{plain, plain_heap}
use Rattle.prim_faults.specs.Outcomes.{IsOutcome}
use Rattle.prim_faults.proofs.Outcomes.{raises_outcome}
use Rattle.prim_operators.specs.declared.operators.Operator.{Operator}
use Rattle.prim_operators.specs.declared.sources.Source.TheVariants.{Repeated}
use Rattle.prim_operators.specs.Operators.{plain_operator}
use Rattle.prim_operators.specs.Pairs.{joined}
use Rattle.prim_operators.proofs.Pairings.{left_unsupported}
use Rattle.prim_operators.proofs.Shaped.{shape_shown, joined_left, shaped_repeated, no_multiply}
use Rattle.prim_operators.proofs.two_operands.of_left.Goals as goal

pub make_shaped-requires-clause-shaped : goal.make_shaped-requires-clause-shaped
make_shaped-requires-clause-shaped g c =
    let texts = g.C.Constants.text_of c.args.consts.now in
    let tuples = g.C.Constants.items_of c.args.consts.now in
    let h = c.args.arena.now in
    let heap = plain_heap texts tuples h in
    let a = plain texts tuples c.args.left in
    let b = plain texts tuples c.args.right in
    let op = plain_operator c.args.op in
    shaped_repeated texts tuples h c.args.shape c.args.left c.times.result c.requires.operands.0.0 (record { leads = c.requires.left_leads; told = c.requires.left_told })

pub returns-in-Multiply : goal.returns-in-Multiply
returns-in-Multiply g c =
    let texts = g.C.Constants.text_of c.args.consts.now in
    let tuples = g.C.Constants.items_of c.args.consts.now in
    let h = c.args.arena.now in
    let heap = plain_heap texts tuples h in
    let a = plain texts tuples c.args.left in
    let b = plain texts tuples c.args.right in
    let op = plain_operator c.args.op in
    let left = shape_shown texts tuples h c.args.shape c.args.left c.requires.operands.0.0 c.requires.left_leads c.items_law.ensures.nested in
    subst (λ (o : Outcome Val). IsOutcome texts tuples h c.make_shaped.new.arena c.make_shaped.result o)
    (sym (ap (λ (o : Operator). binary heap (plain_operator o) a b) c.in-Multiply.is
    ∙ (ap₂ (λ (s t : Shown). binary_shown heap Multiply a b s t) left (c.requires.operands.1 texts tuples) ∙ (joined_left texts tuples h c.args.shape a b c.args.left c.args.n
    ∙ ap (λ (k : ℕ). joined texts tuples h c.args.shape (Repeated k c.args.left)) (sym c.times.ensures))))) c.make_shaped.ensures

pub returns-in_default : goal.returns-in_default
returns-in_default g c =
    let texts = g.C.Constants.text_of c.args.consts.now in
    let tuples = g.C.Constants.items_of c.args.consts.now in
    let h = c.args.arena.now in
    let heap = plain_heap texts tuples h in
    let a = plain texts tuples c.args.left in
    let b = plain texts tuples c.args.right in
    let op = plain_operator c.args.op in
    let fault = c.unsupported.ensures texts tuples in
    raises_outcome texts tuples h c.unsupported.result _ c.requires.all_told fault.0
    (left_unsupported heap op a b _ _ c.args.shape c.args.n (no_multiply c.args.op c.in_default.not-Multiply) (c.requires.operands.0.1 texts tuples) (c.requires.operands.1 texts tuples) ∙ ap (λ (f : Fault). raises {A = Val} f heap) (sym fault.1))
