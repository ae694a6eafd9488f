use Rattle.snap_laws.specs.Renamed.{value}
use Rattle.snap_laws.proofs.Acting.{on_heap_as, given_as}
use Rattle.snap_laws.proofs.effects.effects_law.Goals as goal

pub returns-clause-heap : goal.returns-clause-heap
returns-clause-heap c r w u o p is same = on_heap_as r (value r) w u is o p same

pub returns-clause-given : goal.returns-clause-given
returns-clause-given c r place e d same = given_as r (value r) place e d same
