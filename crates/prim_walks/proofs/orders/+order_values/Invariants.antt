use Rattle.std.proofs.Common.{◌≡◌, ◌+◌, ◌*◌, drop, map}
use Rattle.arena_objects.specs.Iterables.{items_in}
use Rattle.py_primitives.specs.py_values.Equality.{equal_within}
use Rattle.py_primitives.specs.Order.{order_within, order_items}
use Rattle.prim_walks.specs.Plain.{plain, plain_heap}
use Rattle.prim_walks.specs.Runs.{run}
use Rattle.prim_walks.proofs.orders.+order_values.Given as goal

abbrev pub decreases-order_values : goal.decreases-order_values
decreases-order_values g l = 2 * l.depth

abbrev pub decreases-order_items : goal.decreases-order_items
decreases-order_items g l = 2 * l.depth + 1

-- the items that are left have the order of all
abbrev pub invariant-order_items-loop-at : goal.invariant-order_items-loop-at
invariant-order_items-loop-at g l =
    let texts = g.C.Constants.text_of l.consts in
    let tuples = g.C.Constants.items_of l.consts in
    let heap = plain_heap texts tuples l.arena in
    let xs = map (plain texts tuples) (items_in tuples l.arena l.a) in
    let ys = map (plain texts tuples) (items_in tuples l.arena l.b) in
    run (order_items (equal_within heap l.depth) (order_within heap l.depth) xs ys) l.fn.budget.left ≡ run (order_items (equal_within heap l.depth) (order_within heap l.depth) (drop l.at xs) (drop l.at ys)) l.budget.left
