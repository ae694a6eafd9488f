use Rattle.std.proofs.Common.{ℕ, List, Result, Option, Some, Ok, Err, ap, sym, ◌∙◌}
use Rattle.std.specs.declared.cmp.Ordering.{Ordering}
use Rattle.prim_faults.specs.mpy_base.Val.{Val}
use Rattle.prim_faults.specs.py_primitives.Faults.{Fault, Unsupported}
use Rattle.prim_faults.specs.py_primitives.Outcome.{raises}
use Rattle.prim_faults.specs.py_primitives.Order as meaning
use Rattle.prim_faults.specs.py_primitives.Order.{order}
use Rattle.prim_faults.specs.py_primitives.Operators.{gives_order}
use Rattle.prim_faults.specs.py_values.Names.{type_name}
use Rattle.prim_faults.specs.prim_walks.Plain.{plain, plain_heap}
use Rattle.prim_faults.specs.prim_walks.Orders.{plain_unordered, plain_order}
use Rattle.prim_faults.specs.prim_walks.declared.orders.Unordered.{Unordered}
use Rattle.prim_faults.proofs.Outcomes.{raises_outcome}
use Rattle.prim_comparisons.specs.Signs.{plain_sign}
use Rattle.prim_comparisons.proofs.Walked.{gives_truth, walked, too_deep}
use Rattle.prim_comparisons.proofs.orders.op_order.Goals as goal

pub returns-in-Some-Ok : goal.returns-in-Some-Ok
returns-in-Some-Ok g c =
    let texts = g.C.Constants.text_of c.args.consts.now in
    let tuples = g.C.Constants.items_of c.args.consts.now in
    let h = c.args.arena.now in
    let heap = plain_heap texts tuples h in
    let a = plain texts tuples c.args.a in
    let b = plain texts tuples c.args.b in
    let read : Result Ordering Unordered → Option (Result Ordering meaning.Unordered) = λ r. Some (plain_order texts tuples r) in
    walked texts tuples h c.requires.all_told (order heap a b) (gives_order heap (plain_sign c.args.sign)) (Ok c.in-Some-Ok.found) _ (sym c.in-Some-Ok.ensures.answer ∙ ap read c.in-Some-Ok.field-0-is)
    (gives_truth texts tuples h c.requires.all_told c.holds.result _ c.holds.ensures)

pub returns-in-Some-Err : goal.returns-in-Some-Err
returns-in-Some-Err g c =
    let texts = g.C.Constants.text_of c.args.consts.now in
    let tuples = g.C.Constants.items_of c.args.consts.now in
    let h = c.args.arena.now in
    let heap = plain_heap texts tuples h in
    let a = plain texts tuples c.args.a in
    let b = plain texts tuples c.args.b in
    let e = c.in-Some-Err.e in
    let fault = c.unsupported.ensures texts tuples in
    let read : Result Ordering Unordered → Option (Result Ordering meaning.Unordered) = λ r. Some (plain_order texts tuples r) in
    walked texts tuples h c.requires.all_told (order heap a b) (gives_order heap (plain_sign c.args.sign)) (Err (plain_unordered texts tuples e)) _ (sym c.in-Some-Err.ensures.answer ∙ ap read c.in-Some-Err.field-0-is)
    (raises_outcome texts tuples h c.unsupported.result (gives_order heap (plain_sign c.args.sign) (Err (plain_unordered texts tuples e))) c.requires.all_told fault.0 (ap (λ (m : List ℕ). raises {A = Val} (Unsupported m (type_name heap (plain texts tuples e.left)) (type_name heap (plain texts tuples e.right))) heap) (sym c.method.ensures)
    ∙ ap (λ (f : Fault). raises {A = Val} f heap) (sym fault.1)))

pub returns-in-None : goal.returns-in-None
returns-in-None g c =
    let texts = g.C.Constants.text_of c.args.consts.now in
    let tuples = g.C.Constants.items_of c.args.consts.now in
    let h = c.args.arena.now in
    let heap = plain_heap texts tuples h in
    let a = plain texts tuples c.args.a in
    let b = plain texts tuples c.args.b in
    too_deep texts tuples h c.requires.all_told (order heap a b) (gives_order heap (plain_sign c.args.sign)) (sym c.in-None.ensures.answer)
