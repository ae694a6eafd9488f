use Rattle.bc_labels.proofs.Fewest.{never_both}
use Rattle.mpy_writer.specs.File.{labelled}
use Rattle.mpy_writer.proofs.Faults.{same_own}
use Rattle.mpy_writer.proofs.file.code_law.Goals as goal

pub returns-clause-one_own : goal.returns-clause-one_own
returns-clause-one_own c tables code a b h k = same_own tables code a b h k

pub returns-clause-none : goal.returns-clause-none
returns-clause-none c tables code own h far = never_both (labelled tables code) h.instructions h.layout far
