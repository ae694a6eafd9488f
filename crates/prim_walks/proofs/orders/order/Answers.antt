use Rattle.std.proofs.Common.{ap, sym, ◌∙◌}
use Rattle.std.specs.Option.{option_map}
use Rattle.py_primitives.specs.py_values.Equality.{Walk}
use Rattle.py_primitives.specs.Order.{order_within}
use Rattle.prim_walks.specs.Plain.{plain, plain_heap}
use Rattle.prim_walks.specs.Orders.{plain_order, plain_answer}
use Rattle.prim_walks.proofs.RunSteps.{answer_is}
use Rattle.prim_walks.proofs.OrderSteps.{Found, order_is}
use Rattle.prim_walks.proofs.PlainOrders.{answer_plain, led_plain}
use Rattle.prim_walks.proofs.orders.order.Goals as goal

pub returns : goal.returns
returns g c =
    let texts = g.C.Constants.text_of c.args.consts.now in
    let tuples = g.C.Constants.items_of c.args.consts.now in
    let heap = plain_heap texts tuples c.args.arena.now in
    let a = plain texts tuples c.args.a in
    let b = plain texts tuples c.args.b in
    let r = c.order_values.result in
    record {
      answer = ap (option_map (plain_order texts tuples)) c.ok.ensures.value ∙ (answer_plain texts tuples r
          ∙ (answer_is (order_within heap 32 a b) (plain_answer texts tuples r) c.order_values.new.budget.left c.order_values.ensures.ran ∙ sym (ap (λ (walk : Walk Found). walk.answer) (order_is heap a b))));
      lead = led_plain c.args.arena.now.objects r c.ok.result c.ok.ensures.value c.order_values.ensures.lead;
    }
