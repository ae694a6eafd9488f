use Rattle.std.proofs.Common.{◌≡◌, length, take}
use Rattle.mpy_base.specs.World.{text_at, with_text}
use Rattle.prim_builtins.specs.py_primitives.Texts.{joined}
use Rattle.prim_str_methods.specs.Parts.{parts_in, cut_bytes, written}
use Rattle.prim_str_methods.proofs.joins.put_parts.Given as goal

abbrev pub invariant-loop-at : goal.invariant-loop-at
invariant-loop-at g l =
    let texts = g.C.Constants.text_of l.consts in
    let tuples = g.C.Constants.items_of l.consts in
    let h = l.initial.arena in
    let front = joined (cut_bytes texts h l.fn.separator) (take l.at (parts_in texts h tuples l.fn.over)) in
    (l.arena ≡ with_text h l.fn.t.cell (written (text_at h l.fn.t.cell) 0 front)) × (l.from ≡ length front)
