use Rattle.py_values.proofs.TwosComplement.{bit_of-and, bit_of-or, bit_of-xor, same_bits}
use Rattle.py_values.proofs.bits.bits_law.Goals as goal

pub returns-clause-and : goal.returns-clause-and
returns-clause-and c = bit_of-and

pub returns-clause-or : goal.returns-clause-or
returns-clause-or c = bit_of-or

pub returns-clause-xor : goal.returns-clause-xor
returns-clause-xor c = bit_of-xor

pub returns-clause-only : goal.returns-clause-only
returns-clause-only c = same_bits
