use Rattle.std.proofs.Common.{◌≡◌, ℕ, ◌-◌, Bool, true, false, Option, Result, Ok, Err, length, min, sym, ap, ap₂, ◌∙◌, arith}
use Rattle.std.specs.declared.cmp.Ordering.{Ordering}
use Rattle.std.specs.Ordering.{nat_cmp}
use Rattle.arena_objects.specs.Iterables.{items_in}
use Rattle.py_primitives.specs.py_values.Equality.{equal_within}
use Rattle.py_primitives.specs.Order.{order_within}
use Rattle.prim_walks.specs.declared.budget.Halt.{Halt}
use Rattle.prim_walks.specs.Plain.{plain, plain_heap}
use Rattle.prim_walks.specs.Orders.{plain_answer}
use Rattle.prim_walks.proofs.RunSteps.{run_answers}
use Rattle.prim_walks.proofs.OrderSteps.{Found, order_step, order_end, halted, went}
use Rattle.prim_walks.proofs.orders.+order_values.Goals as goal

pub order_items-returns-in-Ok-false-clause-ran : goal.order_items-returns-in-Ok-false-clause-ran
order_items-returns-in-Ok-false-clause-ran g t c =
    let texts = g.C.Constants.text_of c.args.consts.now in
    let tuples = g.C.Constants.items_of c.args.consts.now in
    let h = c.args.arena.now in
    let heap = plain_heap texts tuples h in
    let new = c.equal_values.new.budget.left in
    let pair : Bool → Result Bool Halt × Option ℕ = λ b. (Ok b, new) in
    c.loop-at.invariant ∙ (order_step (equal_within heap c.args.depth) (order_within heap c.args.depth) (plain texts tuples) (items_in tuples h c.args.a) (items_in tuples h c.args.b) c.loop-at.at c.item_at-x.result c.item_at-y.result
    c.loop-at.budget.left new (Ok false) c.item_at-x.ensures.item c.item_at-y.ensures.item (c.in-Ok-false.ensures ∙ ap pair c.in-Ok-false.field-0-test) ∙ c.order_values.ensures.ran)

pub order_items-returns-in-Err-clause-ran : goal.order_items-returns-in-Err-clause-ran
order_items-returns-in-Err-clause-ran g t c =
    let texts = g.C.Constants.text_of c.args.consts.now in
    let tuples = g.C.Constants.items_of c.args.consts.now in
    let h = c.args.arena.now in
    let heap = plain_heap texts tuples h in
    let new = c.equal_values.new.budget.left in
    c.loop-at.invariant ∙ order_step (equal_within heap c.args.depth) (order_within heap c.args.depth) (plain texts tuples) (items_in tuples h c.args.a) (items_in tuples h c.args.b) c.loop-at.at c.item_at-x.result c.item_at-y.result
    c.loop-at.budget.left new (Err c.in-Err.halt) c.item_at-x.ensures.item c.item_at-y.ensures.item c.in-Err.ensures

pub order_items-loop-at-preserved : goal.order_items-loop-at-preserved
order_items-loop-at-preserved g t c =
    let texts = g.C.Constants.text_of c.args.consts.now in
    let tuples = g.C.Constants.items_of c.args.consts.now in
    let h = c.args.arena.now in
    let heap = plain_heap texts tuples h in
    let new = c.equal_values.new.budget.left in
    let pair : Bool → Result Bool Halt × Option ℕ = λ b. (Ok b, new) in
    c.loop-at.invariant ∙ order_step (equal_within heap c.args.depth) (order_within heap c.args.depth) (plain texts tuples) (items_in tuples h c.args.a) (items_in tuples h c.args.b) c.loop-at.at c.item_at-x.result c.item_at-y.result
    c.loop-at.budget.left new (Ok true) c.item_at-x.ensures.item c.item_at-y.ensures.item (c.in-Ok-true.ensures ∙ ap pair c.in-Ok-true.field-0-test)

pub order_items-returns-clause-ran : goal.order_items-returns-clause-ran
order_items-returns-clause-ran g t c =
    let texts = g.C.Constants.text_of c.args.consts.now in
    let tuples = g.C.Constants.items_of c.args.consts.now in
    let h = c.args.arena.now in
    let heap = plain_heap texts tuples h in
    let xs = items_in tuples h c.args.a in
    let ys = items_in tuples h c.args.b in
    let left = c.loop-at.budget.left in
    let pair : Ordering → Result Found Halt × Option ℕ = λ o. (Ok (Ok o), left) in
    let counts : nat_cmp (length xs) (length ys) ≡ c.cmp.result = sym (c.cmp.ensures ∙ ap₂ nat_cmp c.requires.a_count c.requires.b_count) in
    let over : c.loop-at.at ≡ min (length xs) (length ys) = omega (arith, c.min-at-end.ensures, c.loop-at.auto.at-end, c.loop-at-test.false, c.requires.a_count, c.requires.b_count) in
    c.loop-at.invariant ∙ (order_end (equal_within heap c.args.depth) (order_within heap c.args.depth) (plain texts tuples) xs ys c.loop-at.at left over ∙ ap pair counts)

pub order_values-returns-in-Err-clause-ran : goal.order_values-returns-in-Err-clause-ran
order_values-returns-in-Err-clause-ran g t c =
    let texts = g.C.Constants.text_of c.args.consts.now in
    let tuples = g.C.Constants.items_of c.args.consts.now in
    let left : Option ℕ = c.args.budget.now.left in
    let pair : Halt → Result Found Halt × Option ℕ = λ halt. (Err halt, left) in
    let kept : Option ℕ → Result Found Halt × Option ℕ = λ n. (Err c.in-Err.halt, n) in
    halted (plain_heap texts tuples c.args.arena.now) (plain texts tuples c.args.a) (plain texts tuples c.args.b) c.args.depth left c.if-depth-eq0.false c.in-Err.ensures.spent
    ∙ (ap pair (sym c.in-Err.ensures.cause) ∙ ap kept (sym c.in-Err.ensures.kept))

pub order_values-returns-in-Decided-clause-ran : goal.order_values-returns-in-Decided-clause-ran
order_values-returns-in-Decided-clause-ran g t c =
    let texts = g.C.Constants.text_of c.args.consts.now in
    let tuples = g.C.Constants.items_of c.args.consts.now in
    let h = c.args.arena.now in
    let heap = plain_heap texts tuples h in
    let mid = c.spend.new.self.left in
    went heap (plain texts tuples c.args.a) (plain texts tuples c.args.b) c.args.depth c.args.budget.now.left mid mid _ _ c.if-depth-eq0.false c.in-Ok.ensures.ok
    (c.in-Decided.ensures.ranked (equal_within heap (c.args.depth - 1)) (order_within heap (c.args.depth - 1))) (run_answers _ mid)

pub order_values-returns-in-Items-clause-ran : goal.order_values-returns-in-Items-clause-ran
order_values-returns-in-Items-clause-ran g t c =
    let texts = g.C.Constants.text_of c.args.consts.now in
    let tuples = g.C.Constants.items_of c.args.consts.now in
    let h = c.args.arena.now in
    let heap = plain_heap texts tuples h in
    let mid = c.spend.new.self.left in
    went heap (plain texts tuples c.args.a) (plain texts tuples c.args.b) c.args.depth c.args.budget.now.left mid c.order_items.new.budget.left (plain_answer texts tuples c.order_items.result) _ c.if-depth-eq0.false c.in-Ok.ensures.ok
    (c.in-Items.ensures.ranked (equal_within heap (c.args.depth - 1)) (order_within heap (c.args.depth - 1))) c.order_items.ensures.ran

pub order_values-returns-in-Unordered-clause-ran : goal.order_values-returns-in-Unordered-clause-ran
order_values-returns-in-Unordered-clause-ran g t c =
    let texts = g.C.Constants.text_of c.args.consts.now in
    let tuples = g.C.Constants.items_of c.args.consts.now in
    let h = c.args.arena.now in
    let heap = plain_heap texts tuples h in
    let mid = c.spend.new.self.left in
    went heap (plain texts tuples c.args.a) (plain texts tuples c.args.b) c.args.depth c.args.budget.now.left mid mid _ _ c.if-depth-eq0.false c.in-Ok.ensures.ok
    (c.in-Unordered.ensures.ranked (equal_within heap (c.args.depth - 1)) (order_within heap (c.args.depth - 1))) (run_answers _ mid)
