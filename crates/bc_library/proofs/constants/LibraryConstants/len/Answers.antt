use Rattle.std.proofs.Common.{arith}
use Rattle.bc_library.proofs.constants.LibraryConstants.len.Goals as goal

pub overflow_cast-result : goal.overflow_cast-result
overflow_cast-result c = omega (arith, c.in-Some.ensures.told.few)

pub returns-in-Some-clause-nests : goal.returns-in-Some-clause-nests
returns-in-Some-clause-nests c = c.in-Some.ensures.told.nests
