use Rattle.std.proofs.Common.{◌≡◌, Result, Ok, Err}
use Rattle.mpy_tree.specs.Raw.{Module}
use Rattle.mpy_reader.specs.declared.fault.FileFault.{FileFault}
use Rattle.mpy_reader.proofs.Found.{done, ok_is}
use Rattle.mpy_reader.proofs.TakenCodes.{file_read}
use Rattle.mpy_reader.proofs.Single.{file_single}
use Rattle.mpy_reader.proofs.file.file_law.Goals as goal

pub returns-clause-one_module : goal.returns-clause-one_module
returns-clause-one_module c = λ bytes m n h k. ok_is m n ((file_single bytes).same (Ok m) (Ok n) (file_read bytes m h) (file_read bytes n k))

abbrev failed : FileFault → Result Module FileFault
failed fault = Err fault

pub returns-clause-one_fault : goal.returns-clause-one_fault
returns-clause-one_fault c = λ bytes f g h k. let e : failed f ≡ failed g = (file_single bytes).same (Err f) (Err g) h k in cc

pub returns-clause-not_both : goal.returns-clause-not_both
returns-clause-not_both c = λ bytes m fault h k. let e : done m ≡ failed fault = (file_single bytes).same (Ok m) (Err fault) (file_read bytes m h) k in cc
