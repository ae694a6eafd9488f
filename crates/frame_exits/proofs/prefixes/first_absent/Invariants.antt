use Rattle.std.proofs.Common.{◌≡◌, take, drop}
use Rattle.mpy_base.specs.Val.{PlainWorld}
use Rattle.frame_moves.specs.py_effects.Modules.{prefixes}
use Rattle.prim_modules.specs.Registry.{plain_modules}
use Rattle.frame_exits.proofs.Fronts.{fronts, absent}
use Rattle.frame_exits.proofs.prefixes.first_absent.Given as goal

-- no prefix before this place is absent
abbrev pub invariant-loop-at : goal.invariant-loop-at
invariant-loop-at g l =
    (w : PlainWorld) → absent (plain_modules (g.C.Constants.text_of l.consts) (g.C.Constants.items_of l.consts) l.modules) w (fronts (take l.at l.name) (drop l.at l.name))
    ≡ absent (plain_modules (g.C.Constants.text_of l.consts) (g.C.Constants.items_of l.consts) l.modules) w (prefixes l.name)
