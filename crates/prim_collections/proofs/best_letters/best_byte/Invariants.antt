use Rattle.std.proofs.Common.{◌≡◌, ◌<◌, drop, map, Ok}
use Rattle.prim_builtins.specs.py_values.Shown.{PlainHeap}
use Rattle.prim_builtins.specs.py_primitives.Order.{best_from}
use Rattle.prim_builtins.specs.py_primitives.Iterables.{letter}
use Rattle.prim_collections.specs.Best.{plain_extreme, best_among}
use Rattle.prim_collections.proofs.best_letters.best_byte.Given as goal

-- the letters that are left give the whole answer
abbrev pub invariant-loop-at : goal.invariant-loop-at
invariant-loop-at l =
    ((heap : PlainHeap) → (best_among heap (plain_extreme l.extreme) (map letter l.bytes)).answer ≡ (best_from heap (plain_extreme l.extreme) (Ok (letter l.best)) (map letter (drop l.at l.bytes))).answer)
    × (l.best < 128)
