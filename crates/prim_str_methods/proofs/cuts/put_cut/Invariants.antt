use Rattle.std.proofs.Common.{◌≡◌, take}
use Rattle.mpy_base.specs.World.{text_at, with_text}
use Rattle.prim_str_methods.specs.Parts.{cut_bytes, written}
use Rattle.prim_str_methods.proofs.cuts.put_cut.Given as goal

abbrev pub invariant-loop-k : goal.invariant-loop-k
invariant-loop-k g l =
    l.arena ≡ with_text l.initial.arena l.fn.t.cell (written (text_at l.initial.arena l.fn.t.cell) l.fn.from (take l.k (cut_bytes (g.C.Constants.text_of l.consts) l.initial.arena l.fn.cut)))
