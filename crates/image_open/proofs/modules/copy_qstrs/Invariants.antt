use Rattle.std.proofs.Common.{◌≡◌, take}
use Rattle.image_open.proofs.modules.copy_qstrs.Given as goal

abbrev pub invariant-loop-qstr : goal.invariant-loop-qstr
invariant-loop-qstr l = l.copies ≡ take l.qstr-index l.qstrs
