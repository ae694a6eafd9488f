use Rattle.std.proofs.Common.{Result, Some, Ok, ap, sym, subst, ◌∙◌}
use Rattle.std.specs.declared.cmp.Ordering.{Ordering}
use Rattle.prim_faults.specs.arena_heap.declared.value.Value.{Value}
use Rattle.prim_faults.specs.arena_heap.Values.{HasSmall}
use Rattle.prim_faults.specs.py_values.Equality.{Walk}
use Rattle.prim_faults.specs.py_values.Shown.{Shown, shown}
use Rattle.prim_faults.specs.py_primitives.Order.{Unordered}
use Rattle.prim_faults.specs.prim_walks.Plain.{plain, plain_heap}
use Rattle.prim_comparisons.proofs.TwoNumbers.{ordered_as, compared}
use Rattle.prim_comparisons.proofs.orders.ordered.Goals as goal

pub returns-in-Int-b-clause-answer : goal.returns-in-Int-b-clause-answer
returns-in-Int-b-clause-answer g c =
    let texts = g.C.Constants.text_of c.args.consts.now in
    let tuples = g.C.Constants.items_of c.args.consts.now in
    let heap = plain_heap texts tuples c.args.arena.now in
    let read : Value → Shown = λ v. shown heap (plain texts tuples v) in
    let e = ordered_as heap (plain texts tuples c.args.a) (plain texts tuples c.args.b) c.in-Int.m c.in-Int-b.n (ap read c.in-Int.is) (ap read c.in-Int-b.is) in
    let small_a = subst HasSmall c.in-Int.is c.requires.a_leads.small in
    let small_b = subst HasSmall c.in-Int-b.is c.requires.b_leads.small in
    ap (λ (o : Ordering). Some (Ok o)) (c.cmp.ensures ∙ compared c.in-Int.m c.in-Int-b.n small_a small_b) ∙ sym (ap (λ (w : Walk (Result Ordering Unordered)). w.answer) e)
