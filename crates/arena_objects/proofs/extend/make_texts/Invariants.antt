use Rattle.std.proofs.Common.{◌≡◌, ◌*◌, take}
use Rattle.py_values.specs.mpy_base.Weights.{Fits}
use Rattle.arena_objects.specs.Iterables.{spelled, with_texts}
use Rattle.arena_objects.proofs.extend.make_texts.Given as goal

abbrev pub invariant-loop-k : goal.invariant-loop-k
invariant-loop-k g l =
    (l.arena ≡ with_texts l.initial.arena (take l.k (spelled (g.C.Constants.text_of l.consts) l.initial.arena l.fn.from))) × Fits l.initial.arena (2 * l.k) l.k
