use Rattle.std.proofs.Common.{◌≡◌, ◌+◌, ◌*◌, drop, map}
use Rattle.arena_objects.specs.Iterables.{items_in}
use Rattle.prim_walks.specs.Ones.{all_one, height}
use Rattle.prim_walks.specs.Plain.{plain, plain_heap}
use Rattle.prim_walks.proofs.ones.+is_one.Given as goal

abbrev pub decreases-is_one : goal.decreases-is_one
decreases-is_one g l = 3 * height l.a + 2

abbrev pub decreases-is_one_tuple : goal.decreases-is_one_tuple
decreases-is_one_tuple g l = 3 * height l.a + 1

abbrev pub decreases-are_one : goal.decreases-are_one
decreases-are_one g l = 3 * height l.a

-- the items that are left are one where all are
abbrev pub invariant-are_one-loop-at : goal.invariant-are_one-loop-at
invariant-are_one-loop-at g l =
    let texts = g.C.Constants.text_of l.consts in
    let tuples = g.C.Constants.items_of l.consts in
    let xs = map (plain texts tuples) (items_in tuples l.arena l.a) in
    let ys = map (plain texts tuples) (items_in tuples l.arena l.b) in
    all_one (plain_heap texts tuples l.arena) xs ys ≡ all_one (plain_heap texts tuples l.arena) (drop l.at xs) (drop l.at ys)
