use Rattle.std.proofs.Common.{◌≡◌, drop, map, Ok}
use Rattle.prim_builtins.specs.py_primitives.Order.{best_from}
use Rattle.prim_builtins.specs.prim_walks.Plain.{plain, plain_heap}
use Rattle.prim_builtins.specs.prim_faults.Faults.{IsKnown}
use Rattle.prim_collections.specs.Best.{plain_extreme, best_among, values_of}
use Rattle.prim_collections.proofs.searches.best.Given as goal

-- the values that are left give the whole answer
abbrev pub invariant-loop-at : goal.invariant-loop-at
invariant-loop-at g l =
    let texts = g.C.Constants.text_of l.consts in
    let tuples = g.C.Constants.items_of l.consts in
    let heap = plain_heap texts tuples l.arena in
    let sign = plain_extreme l.extreme in
    let xs = values_of tuples l.arena l.from in
    ((best_among heap sign (map (plain texts tuples) xs)).answer ≡ (best_from heap sign (Ok (plain texts tuples l.best)) (map (plain texts tuples) (drop l.at xs))).answer)
    × IsKnown texts tuples l.arena.objects l.best
