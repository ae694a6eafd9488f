use Rattle.std.proofs.Common.{◌≡◌, map, drop, Ok}
use Rattle.prim_builtins.specs.py_primitives.Output.{ends_from}
use Rattle.prim_builtins.specs.prim_walks.Plain.{plain_heap, plain_pair}
use Rattle.prim_outputs.specs.Ends.{AreStrs, nothing_given, plain_ends}
use Rattle.prim_outputs.proofs.keywords.given_by.Given as goal

-- what is given so far are strs, and what is left goes on from there
abbrev pub invariant-loop-pair : goal.invariant-loop-pair
invariant-loop-pair g l =
    let texts = g.C.Constants.text_of l.consts in
    let tuples = g.C.Constants.items_of l.consts in
    let heap = plain_heap texts tuples l.arena in
    AreStrs texts tuples l.arena l.given
    × (ends_from heap (Ok (plain_ends texts tuples l.arena l.given)) (map (plain_pair texts tuples) (drop l.pair-index l.keys)) ≡ ends_from heap (Ok nothing_given) (map (plain_pair texts tuples) l.keys))
