use Rattle.std.proofs.Common.{◌≡◌, ◌≤◌, ◌+◌, map, drop}
use Rattle.prim_builtins.specs.py_primitives.Texts.{str_of}
use Rattle.prim_builtins.specs.py_primitives.Walks.{walk_all}
use Rattle.prim_builtins.specs.prim_walks.Plain.{plain, plain_heap}
use Rattle.prim_outputs.proofs.prints.visits_texts.Given as goal

-- the visits so far, and those of what is left, are all
abbrev pub invariant-loop-v : goal.invariant-loop-v
invariant-loop-v g l =
    let texts = g.C.Constants.text_of l.consts in
    let tuples = g.C.Constants.items_of l.consts in
    let heap = plain_heap texts tuples l.arena in
    (l.made ≤ l.most) × ((walk_all (str_of heap) (map (plain texts tuples) l.args)).visits ≡ l.made + (walk_all (str_of heap) (map (plain texts tuples) (drop l.v-index l.args))).visits)
