use Rattle.bc_ops.proofs.Law.{spelled, shortest, encodable, one_instruction}
use Rattle.bc_ops.proofs.decoding.instruction_law.Goals as goal

pub returns-clause-spells : goal.returns-clause-spells
returns-clause-spells c = spelled

pub returns-clause-one_instruction : goal.returns-clause-one_instruction
returns-clause-one_instruction c = one_instruction

pub returns-clause-encodable : goal.returns-clause-encodable
returns-clause-encodable c = encodable

pub returns-clause-shortest : goal.returns-clause-shortest
returns-clause-shortest c = shortest
