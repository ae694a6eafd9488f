use Rattle.std.proofs.Common.{◌≡◌, length}
use Rattle.board_tasks.specs.vm_starting.Kept.{AreFetched}
use Rattle.board_files.proofs.Loops.{MadeTurns}
use Rattle.board_files.proofs.turns.make_turns.Given as goal

abbrev pub invariant-more : goal.invariant-more
invariant-more g l =
    MadeTurns l.library l.turns l.rest l.initial.board l.board (g.F.Folder.files l.initial.folder) (g.F.Folder.files l.folder)
    × (g.F.Folder.count l.folder ≡ g.F.Folder.count l.initial.folder) × AreFetched l.library l.cache

abbrev pub decreases-more : goal.decreases-more
decreases-more g l = length l.rest
