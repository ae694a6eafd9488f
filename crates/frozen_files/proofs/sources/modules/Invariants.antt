use Rattle.std.proofs.Common.{◌≡◌, take}
use Rattle.std.specs.List.{AllZip}
use Rattle.frozen_files.specs.Sources.{HoldsSource}
use Rattle.frozen_files.proofs.sources.modules.Given as goal

abbrev pub invariant-loop-entry : goal.invariant-loop-entry
invariant-loop-entry g l = record {
  sources : AllZip (HoldsSource (g.F.Folder.files l.fn.folder)) (take l.entry-index l.entries) l.modules.items;
  files : g.F.Folder.files l.folder ≡ g.F.Folder.files l.fn.folder;
  counts : g.F.Folder.count l.folder ≡ g.F.Folder.count l.fn.folder;
}
