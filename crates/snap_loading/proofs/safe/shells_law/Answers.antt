use Rattle.snap_loading.proofs.Hollowing.{shells_sound, shell_cells, shell_bytes}
use Rattle.snap_loading.proofs.safe.shells_law.Goals as goal

pub returns-clause-sound : goal.returns-clause-sound
returns-clause-sound c shelf s title k is fits fine = shells_sound shelf s title is.first fits fine k

pub returns-clause-cells : goal.returns-clause-cells
returns-clause-cells c shelf s title = shell_cells shelf s title s.objects

pub returns-clause-bytes : goal.returns-clause-bytes
returns-clause-bytes c shelf s title = shell_bytes shelf s title s.objects
