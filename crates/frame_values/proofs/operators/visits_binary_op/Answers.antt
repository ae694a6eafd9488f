use Rattle.std.proofs.Common.{ℕ, ap, ap₂, ◌∙◌, min}
use Rattle.prim_names.specs.arena_heap.declared.value.Value.{Value}
use Rattle.prim_names.specs.prim_walks.Plain.{plain, plain_heap}
use Rattle.frame_moves.specs.bc_machine.Operations.{operator_at}
use Rattle.frame_values.specs.Operations.{visits_of}
use Rattle.frame_values.proofs.Calls.{same_value}
use Rattle.frame_values.proofs.Operating.{two_found, two_visits}
use Rattle.frame_values.proofs.operators.visits_binary_op.Goals as goal

pub returns : goal.returns
returns g c left right at_left at_right =
    let texts = g.C.Constants.text_of c.args.consts.now in
    let tuples = g.C.Constants.items_of c.args.consts.now in
    let before = c.args.arena.now in
    let calls = c.args.frames.now.calls in
    let op = c.in-Some.op in
    let heap = plain_heap texts tuples before in
    let found = two_found c.args.number c.two_operands.result op c.two_operands.ensures c.in-Some.is in
    let same = ap₂ (λ (x y : Value). visits_of (operator_at c.args.number) heap (plain texts tuples x) (plain texts tuples y)) (same_value 1 c.value_at-left.result left calls c.value_at-left.ensures.there at_left) (same_value 0 c.value_at-right.result right calls c.value_at-right.ensures.there at_right) in
    c.visits_two.ensures ∙ ap (λ (n : ℕ). min n c.args.most) (two_visits c.args.number op found heap (plain texts tuples c.value_at-left.result) (plain texts tuples c.value_at-right.result) ∙ same)
