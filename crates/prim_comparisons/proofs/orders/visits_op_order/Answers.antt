use Rattle.std.proofs.Common.{ℕ, Result, Ok, Err, min, ◌≡◌, refl, sym, ap, ◌∙◌}
use Rattle.std.specs.declared.cmp.Ordering.{Ordering}
use Rattle.prim_faults.specs.py_values.Shown.{PlainHeap}
use Rattle.prim_faults.specs.py_primitives.Order.{Sign, Unordered, order}
use Rattle.prim_faults.specs.py_primitives.Operators.{gives_order}
use Rattle.prim_faults.specs.prim_walks.Plain.{plain, plain_heap}
use Rattle.prim_comparisons.specs.Signs.{plain_sign}
use Rattle.prim_comparisons.proofs.Walked.{visits_walked}
use Rattle.prim_comparisons.proofs.orders.visits_op_order.Goals as goal

free : (heap : PlainHeap) (sign : Sign) (r : Result Ordering Unordered) → (gives_order heap sign r).visits ≡ 0
free heap sign (Ok o) = refl
free heap sign (Err e) = refl

pub returns : goal.returns
returns g c =
    let texts = g.C.Constants.text_of c.args.consts.now in
    let tuples = g.C.Constants.items_of c.args.consts.now in
    let h = c.args.arena.now in
    let heap = plain_heap texts tuples h in
    let a = plain texts tuples c.args.a in
    let b = plain texts tuples c.args.b in
    let sign = plain_sign c.args._sign in
    c.visits_ordered.ensures.visits ∙ ap (λ (n : ℕ). min n c.args.most) (sym (visits_walked heap (gives_order heap sign) (free heap sign) (order heap a b)))
