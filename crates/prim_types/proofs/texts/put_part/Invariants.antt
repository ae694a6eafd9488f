use Rattle.std.proofs.Common.{◌≡◌}
use Rattle.std.proofs.Math.Seq.{paste}
use Rattle.mpy_base.specs.World.{text_at, with_text}
use Rattle.prim_types.proofs.texts.put_part.Given as goal

abbrev pub invariant-loop-at : goal.invariant-loop-at
invariant-loop-at l = l.arena ≡ with_text l.initial.arena l.fn.t.cell (paste (text_at l.initial.arena l.fn.t.cell) l.fn.from l.part l.at)
