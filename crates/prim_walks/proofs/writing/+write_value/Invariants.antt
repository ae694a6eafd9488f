use Rattle.std.proofs.Common.{◌+◌, ◌*◌, drop, map, false}
use Rattle.py_primitives.specs.mpy_base.World.{pairs_at}
use Rattle.arena_objects.specs.Iterables.{items_in}
use Rattle.py_primitives.specs.Texts.{write_within, pair_text}
use Rattle.prim_walks.specs.Plain.{plain, plain_pair, plain_heap}
use Rattle.prim_walks.proofs.TextSteps.{Progress}
use Rattle.prim_walks.proofs.writing.+write_value.Given as goal

abbrev pub decreases-write_value : goal.decreases-write_value
decreases-write_value g l = 4 * l.depth

abbrev pub decreases-write_all : goal.decreases-write_all
decreases-write_all g l = 4 * l.depth + 1

abbrev pub decreases-write_items : goal.decreases-write_items
decreases-write_items g l = 4 * l.depth + 2

abbrev pub decreases-write_pair : goal.decreases-write_pair
decreases-write_pair g l = 4 * l.depth + 1

abbrev pub decreases-write_pairs : goal.decreases-write_pairs
decreases-write_pairs g l = 4 * l.depth + 2

abbrev pub decreases-write_dict : goal.decreases-write_dict
decreases-write_dict g l = 4 * l.depth + 3

abbrev pub decreases-write_arguments : goal.decreases-write_arguments
decreases-write_arguments g l = 4 * l.depth + 1

abbrev pub decreases-write_exception : goal.decreases-write_exception
decreases-write_exception g l = 4 * l.depth + 3

abbrev pub invariant-write_all-loop-at : goal.invariant-write_all-loop-at
invariant-write_all-loop-at g l =
    let texts = g.C.Constants.text_of l.consts in
    let tuples = g.C.Constants.items_of l.consts in
    let xs = map (plain texts tuples) (items_in tuples l.arena l.v) in
    Progress g.P.Pen.Takes (write_within (plain_heap texts tuples l.arena) l.depth false) xs (drop l.at xs) l.at l.fn.budget.left l.budget.left l.fn.pen l.pen

abbrev pub invariant-write_pairs-loop-at : goal.invariant-write_pairs-loop-at
invariant-write_pairs-loop-at g l =
    let texts = g.C.Constants.text_of l.consts in
    let tuples = g.C.Constants.items_of l.consts in
    let heap = plain_heap texts tuples l.arena in
    let ps = map (plain_pair texts tuples) (pairs_at l.arena l.d.cell) in
    Progress g.P.Pen.Takes (pair_text heap (write_within heap l.depth)) ps (drop l.at ps) l.at l.fn.budget.left l.budget.left l.fn.pen l.pen
