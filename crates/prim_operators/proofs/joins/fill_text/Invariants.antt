use Rattle.std.proofs.Common.{◌≡◌}
use Rattle.prim_faults.specs.mpy_base.World.{text_at, with_text}
use Rattle.prim_operators.specs.Sources.{source_bytes}
use Rattle.prim_operators.proofs.TextFills.{partly}
use Rattle.prim_operators.proofs.joins.fill_text.Given as goal

abbrev pub invariant-loop-at : goal.invariant-loop-at
invariant-loop-at g l =
    l.arena ≡ with_text l.initial.arena l.fn.t.cell (partly (source_bytes (g.C.Constants.text_of l.consts) l.initial.arena l.fn.source) (text_at l.initial.arena l.fn.t.cell) l.at)
