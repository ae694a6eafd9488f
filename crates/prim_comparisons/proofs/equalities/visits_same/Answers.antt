use Rattle.std.proofs.Common.{Bool, ap, arith}
use Rattle.prim_faults.specs.arena_heap.declared.value.Value.{Value}
use Rattle.prim_faults.specs.py_values.Equality.{Walk}
use Rattle.prim_faults.specs.py_values.Shown.{Shown, shown}
use Rattle.prim_faults.specs.prim_walks.Plain.{plain, plain_heap}
use Rattle.prim_comparisons.proofs.TwoNumbers.{equal_as}
use Rattle.prim_comparisons.proofs.equalities.visits_same.Goals as goal

pub returns-in-Int-b : goal.returns-in-Int-b
returns-in-Int-b g c =
    let texts = g.C.Constants.text_of c.args.consts.now in
    let tuples = g.C.Constants.items_of c.args.consts.now in
    let heap = plain_heap texts tuples c.args.arena.now in
    let read : Value → Shown = λ v. shown heap (plain texts tuples v) in
    let e = equal_as heap (plain texts tuples c.args.a) (plain texts tuples c.args.b) c.in-Int._m c.in-Int-b._n (ap read c.in-Int.is) (ap read c.in-Int-b.is) in
    let one = ap (λ (w : Walk Bool). w.visits) e in omega (arith, c.min.ensures, one)
