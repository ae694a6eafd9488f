use Rattle.std.proofs.Common.{◌≡◌, ◌+◌, ◌*◌, drop, map}
use Rattle.py_primitives.specs.mpy_base.World.{pairs_at}
use Rattle.arena_objects.specs.Iterables.{items_in}
use Rattle.py_primitives.specs.py_values.Equality.{equal_within, all_equal, all_found}
use Rattle.prim_walks.specs.Plain.{plain, plain_pair, plain_heap}
use Rattle.prim_walks.specs.Runs.{run}
use Rattle.prim_walks.proofs.equality.+equal_values.Given as goal

abbrev pub decreases-equal_values : goal.decreases-equal_values
decreases-equal_values g l = 2 * l.depth

abbrev pub decreases-equal_items : goal.decreases-equal_items
decreases-equal_items g l = 2 * l.depth + 1

abbrev pub decreases-equal_pairs : goal.decreases-equal_pairs
decreases-equal_pairs g l = 2 * l.depth + 1

-- what is left to be compared gives the whole answer
abbrev pub invariant-equal_items-loop-at : goal.invariant-equal_items-loop-at
invariant-equal_items-loop-at g l =
    let texts = g.C.Constants.text_of l.consts in
    let tuples = g.C.Constants.items_of l.consts in
    let heap = plain_heap texts tuples l.arena in
    let xs = map (plain texts tuples) (items_in tuples l.arena l.a) in
    let ys = map (plain texts tuples) (items_in tuples l.arena l.b) in
    run (all_equal heap (equal_within heap l.depth) xs ys) l.fn.budget.left ≡ run (all_equal heap (equal_within heap l.depth) (drop l.at xs) (drop l.at ys)) l.budget.left

abbrev pub invariant-equal_pairs-loop-at : goal.invariant-equal_pairs-loop-at
invariant-equal_pairs-loop-at g l =
    let texts = g.C.Constants.text_of l.consts in
    let tuples = g.C.Constants.items_of l.consts in
    let heap = plain_heap texts tuples l.arena in
    let ps = map (plain_pair texts tuples) (pairs_at l.arena l.d.cell) in
    let others = map (plain_pair texts tuples) (pairs_at l.arena l.e.cell) in
    run (all_found heap (equal_within heap l.depth) ps others) l.fn.budget.left ≡ run (all_found heap (equal_within heap l.depth) (drop l.at ps) others) l.budget.left
