use Rattle.std.proofs.Common.{◌≡◌}
use Rattle.mpy_base.specs.World.{text_at, with_text}
use Rattle.prim_types.specs.py_primitives.Faults.{fault_text}
use Rattle.prim_types.specs.prim_faults.Faults.{plain_fault}
use Rattle.prim_types.proofs.prim_operators_lemmas.TextFills.{partly}
use Rattle.prim_raising.proofs.texts.fill_fault.Given as goal

abbrev pub invariant-loop-at : goal.invariant-loop-at
invariant-loop-at g l =
    l.arena ≡ with_text l.initial.arena l.fn.t.cell (partly (fault_text (plain_fault (g.C.Constants.text_of l.consts) (g.C.Constants.items_of l.consts) l.initial.arena l.fn.fault)) (text_at l.initial.arena l.fn.t.cell) l.at)
