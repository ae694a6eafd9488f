use Rattle.std.proofs.Common.{◌≡◌, map, take, string_bytes}
use Rattle.std.specs.declared.alloc.Global.{Global}
use Rattle.file_commands.specs.Merge.{HoldModules}
use Rattle.file_commands.proofs.merging.all_opened.Given as goal

abbrev pub invariant-loop-at : goal.invariant-loop-at
invariant-loop-at g l =
    HoldModules (g.F.Folder.files l.initial.folder) (take l.at (map (string_bytes {Z = Global}) l.names)) l.modules.items
    × (g.F.Folder.files l.folder ≡ g.F.Folder.files l.initial.folder) × (g.F.Folder.count l.folder ≡ g.F.Folder.count l.initial.folder)
