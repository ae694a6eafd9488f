use Rattle.std.proofs.Common.{◌≡◌, ◌≤◌, ◌-◌, take}
use Rattle.std.proofs.Math.Seq.{paste}
use Rattle.mpy_base.specs.World.{text_at, with_text}
use Rattle.prim_types.specs.Texts.{text_in}
use Rattle.prim_types.proofs.texts.fill_by_parts.Given as goal

abbrev pub invariant-loop-from : goal.invariant-loop-from
invariant-loop-from g l =
    let texts = g.C.Constants.text_of l.consts in
    let tuples = g.C.Constants.items_of l.consts in
    let text = text_in texts tuples l.initial.arena l.raw l.v in
    (l.arena ≡ with_text l.initial.arena l.fn.t.cell (paste (text_at l.initial.arena l.fn.t.cell) 0 (take l.from text) l.from)) × (l.from ≤ l.fn.count)

abbrev pub decreases-loop-from : goal.decreases-loop-from
decreases-loop-from g l = l.fn.count - l.from
