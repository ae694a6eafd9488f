use Rattle.std.proofs.Common.{◌≡◌, drop}
use Rattle.library_files.specs.Comes.{NameComesTo}
use Rattle.library_files.specs.Steps.{AreKnownAbsent}
use Rattle.library_files.proofs.Asks.{Asking}
use Rattle.library_files.proofs.loading.ask_all.Given as goal

abbrev pub invariant-loop-asked : goal.invariant-loop-asked
invariant-loop-asked g l = record {
  asking : Asking (NameComesTo (g.R.Reader.ending l.reader) (g.R.Reader.comes l.reader) l.base) (g.F.Folder.files l.fn.folder) l.fn.begun l.begun l.names (drop l.asked-index l.names) l.fn.found.items l.found.items;
  same : g.F.Folder.files l.folder ≡ g.F.Folder.files l.fn.folder;
  still : g.F.Folder.count l.folder ≡ g.F.Folder.count l.fn.folder;
  absent : AreKnownAbsent (NameComesTo (g.R.Reader.ending l.reader) (g.R.Reader.comes l.reader) l.base) (g.F.Folder.files l.folder) l.begun.absent.texts;
}
