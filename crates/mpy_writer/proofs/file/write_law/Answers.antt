use Rattle.mpy_writer.proofs.Faults.{one_file, one_fault}
use Rattle.mpy_writer.proofs.file.write_law.Goals as goal

pub returns-clause-one_file : goal.returns-clause-one_file
returns-clause-one_file c m a b h k = one_file m a b h k

pub returns-clause-one_fault : goal.returns-clause-one_fault
returns-clause-one_fault c m f g h k = one_fault m f g h k
