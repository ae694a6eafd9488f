use Rattle.std.proofs.Common.{◌≡◌}
use Rattle.board_tasks.specs.vm_starting.Kept.{AreFetched}
use Rattle.board_files.proofs.Loops.{MadeSome}
use Rattle.board_files.proofs.turns.make_turn.Given as goal

abbrev pub invariant-parts : goal.invariant-parts
invariant-parts g l =
    MadeSome l.library l.turn.task l.turn.steps l.left l.initial.board l.board (g.F.Folder.files l.initial.folder) (g.F.Folder.files l.folder)
    × (g.F.Folder.count l.folder ≡ g.F.Folder.count l.initial.folder) × AreFetched l.library l.cache

abbrev pub decreases-parts : goal.decreases-parts
decreases-parts g l = l.left
