use Rattle.std.proofs.Common.{All, take}
use Rattle.mpy_base.specs.Vuint.{HasMore}
use Rattle.bc_prelude.proofs.chain.chain_end.Given as goal

-- each byte so far has bit 7 set
abbrev pub invariant-loop-i : goal.invariant-loop-i
invariant-loop-i l = All HasMore (take l.i l.bytes)
