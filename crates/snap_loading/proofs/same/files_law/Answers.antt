use Rattle.vm_starting.specs.Programs.{stored_of}
use Rattle.snap_loading.proofs.Filing.{of_files}
use Rattle.snap_loading.proofs.same.files_law.Goals as goal

pub returns : goal.returns
returns c shelf p program = record { files = of_files (stored_of shelf) p.library program.library_is }
