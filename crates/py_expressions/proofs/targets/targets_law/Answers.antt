use Rattle.py_expressions.proofs.Aimed.{members_aimed}
use Rattle.py_expressions.proofs.Depths.{one_target_is}
use Rattle.py_expressions.proofs.Embedded.{as_members, members_same, members_target}
use Rattle.py_expressions.proofs.targets.targets_law.Goals as goal

pub returns-clause-one : goal.returns-clause-one
returns-clause-one c = one_target_is

pub returns-clause-aimed : goal.returns-clause-aimed
returns-clause-aimed c = members_aimed

pub returns-clause-embedded : goal.returns-clause-embedded
returns-clause-embedded c = λ aims. (as_members aims, members_same aims, members_target aims)
