use Rattle.std.proofs.Common.{◌≡◌, ℕ, List, map, take, Some}
use Rattle.prim_builtins.specs.py_primitives.Texts.{str_of, joined}
use Rattle.prim_builtins.specs.py_primitives.Walks.{walk_all}
use Rattle.prim_builtins.specs.prim_walks.Plain.{plain, plain_heap}
use Rattle.prim_builtins.specs.prim_walks.Pens.{Wrote}
use Rattle.prim_outputs.proofs.prints.put_texts.Given as goal

-- the texts in front were written
abbrev pub invariant-loop-at : goal.invariant-loop-at
invariant-loop-at g l =
    let texts = g.C.Constants.text_of l.consts in
    let tuples = g.C.Constants.items_of l.consts in
    let heap = plain_heap texts tuples l.arena in
    (all : List (List ℕ)) → (walk_all (str_of heap) (map (plain texts tuples) l.args)).answer ≡ Some all → Wrote g.P.Pen.Takes l.fn.pen (joined l.sep (take l.at all)) l.pen
