use Rattle.std.proofs.Common.{◌≡◌, ◌≤◌, All, take}
use Rattle.mpy_base.specs.Vuint.{HasMore, value_of}
use Rattle.bc_ops.proofs.signed.read_groups.Given as goal

-- each byte so far has bit 7 set, and they give the value
abbrev pub invariant-loop-i : goal.invariant-loop-i
invariant-loop-i l = record {
  few : l.i ≤ 5;
  more : All HasMore (take l.i l.bytes);
  value : l.value ≡ value_of (take l.i l.bytes);
}
