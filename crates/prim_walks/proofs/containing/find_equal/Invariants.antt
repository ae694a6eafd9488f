use Rattle.std.proofs.Common.{◌≡◌, drop, map}
use Rattle.arena_objects.specs.Iterables.{items_in}
use Rattle.py_primitives.specs.Operators.{contains_equal}
use Rattle.prim_walks.specs.Plain.{plain, plain_heap}
use Rattle.prim_walks.specs.Runs.{run}
use Rattle.prim_walks.proofs.containing.find_equal.Given as goal

-- the items that are left give the whole answer
abbrev pub invariant-loop-at : goal.invariant-loop-at
invariant-loop-at g l =
    let texts = g.C.Constants.text_of l.consts in
    let tuples = g.C.Constants.items_of l.consts in
    let heap = plain_heap texts tuples l.arena in
    let xs = map (plain texts tuples) (items_in tuples l.arena l.over) in
    run (contains_equal heap (plain texts tuples l.v) xs) l.fn.budget.left ≡ run (contains_equal heap (plain texts tuples l.v) (drop l.at xs)) l.budget.left
