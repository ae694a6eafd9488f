use Rattle.std.proofs.Common.{◌≡◌, All, take, false}
use Rattle.mpy_writer.specs.Positions.{is_jump}
use Rattle.mpy_writer.proofs.jumps.has_jumps.Given as goal

-- no item so far is a jump
abbrev pub invariant-loop-item : goal.invariant-loop-item
invariant-loop-item l = All (λ item. is_jump item ≡ false) (take l.item-index l.items)
