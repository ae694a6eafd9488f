use Rattle.std.proofs.Common.{◌≡◌}
use Rattle.board_files.specs.Files.{AreEmpty, KeepsOthers}
use Rattle.board_files.proofs.Stopping.{KeepsFrom}
use Rattle.board_files.proofs.files.begin_files.Given as goal

abbrev pub invariant-loop-task : goal.invariant-loop-task
invariant-loop-task g l =
    AreEmpty l.task (g.F.Folder.files l.initial.folder) (g.F.Folder.files l.folder)
    × KeepsOthers l.count (g.F.Folder.files l.initial.folder) (g.F.Folder.files l.folder)
    × (g.F.Folder.count l.folder ≡ g.F.Folder.count l.initial.folder)
    × KeepsFrom l.task l.count (g.F.Folder.files l.initial.folder) (g.F.Folder.files l.folder)
