use Rattle.std.proofs.Common.{◌≡◌, drop}
use Rattle.mpy_base.specs.Kind.{kind_name}
use Rattle.snap_states.specs.Decoded.{called}
use Rattle.snap_states.proofs.naming.first_kind.Given as goal

-- the first of them that has the name is among those that are left
abbrev pub invariant-loop-kind : goal.invariant-loop-kind
invariant-loop-kind l = called kind_name l.name l.kinds ≡ called kind_name l.name (drop l.kind-index l.kinds)
