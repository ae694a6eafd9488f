use Rattle.std.proofs.Common.{◌≡◌, ◌++◌, map, drop}
use Rattle.mpy_merge.specs.Moved.{text_at}
use Rattle.mpy_merge.proofs.moved.texts_at.Given as goal

abbrev pub invariant-loop-number : goal.invariant-loop-number
invariant-loop-number l = l.texts.items ++ map (text_at l.module) (drop l.number-index l.numbers) ≡ map (text_at l.module) l.numbers
