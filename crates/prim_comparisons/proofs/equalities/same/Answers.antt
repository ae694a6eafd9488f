use Rattle.std.proofs.Common.{Bool, Some, ap, sym, subst, ◌∙◌}
use Rattle.prim_faults.specs.arena_heap.declared.value.Value.{Value}
use Rattle.prim_faults.specs.arena_heap.Values.{HasSmall}
use Rattle.prim_faults.specs.py_values.Equality.{Walk}
use Rattle.prim_faults.specs.py_values.Shown.{Shown, shown}
use Rattle.prim_faults.specs.prim_walks.Plain.{plain, plain_heap}
use Rattle.prim_comparisons.proofs.TwoNumbers.{equal_as, told_apart}
use Rattle.prim_comparisons.proofs.equalities.same.Goals as goal

pub returns-in-Int-b : goal.returns-in-Int-b
returns-in-Int-b g c =
    let texts = g.C.Constants.text_of c.args.consts.now in
    let tuples = g.C.Constants.items_of c.args.consts.now in
    let heap = plain_heap texts tuples c.args.arena.now in
    let read : Value → Shown = λ v. shown heap (plain texts tuples v) in
    let e = equal_as heap (plain texts tuples c.args.a) (plain texts tuples c.args.b) c.in-Int.m c.in-Int-b.n (ap read c.in-Int.is) (ap read c.in-Int-b.is) in
    let small_a = subst HasSmall c.in-Int.is c.requires.a_leads.small in
    let small_b = subst HasSmall c.in-Int-b.is c.requires.b_leads.small in
    record { answer = ap (λ (b : Bool). Some b) (c.is_same_number.ensures ∙ told_apart c.in-Int.m c.in-Int-b.n small_a small_b) ∙ sym (ap (λ (w : Walk Bool). w.answer) e) }
