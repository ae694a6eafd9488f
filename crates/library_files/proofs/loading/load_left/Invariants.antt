use Rattle.std.proofs.Common.{◌≡◌, ◌+◌, ◌*◌, ◌^◌, length}
use Rattle.library_files.specs.Comes.{NameComesTo}
use Rattle.library_files.specs.Steps.{AreKnownAbsent, places_left}
use Rattle.library_files.proofs.Asks.{Leaving}
use Rattle.library_files.proofs.loading.load_left.Given as goal

abbrev pub invariant-loop-name : goal.invariant-loop-name
invariant-loop-name g l = record {
  leaving : Leaving (NameComesTo (g.R.Reader.ending l.reader) (g.R.Reader.comes l.reader) l.base) (g.F.Folder.files l.fn.folder) l.fn.begun l.begun l.fn.left.items l.left.items;
  same : g.F.Folder.files l.folder ≡ g.F.Folder.files l.fn.folder;
  still : g.F.Folder.count l.folder ≡ g.F.Folder.count l.fn.folder;
  absent : AreKnownAbsent (NameComesTo (g.R.Reader.ending l.reader) (g.R.Reader.comes l.reader) l.base) (g.F.Folder.files l.folder) l.begun.absent.texts;
}

abbrev pub decreases-loop-name : goal.decreases-loop-name
decreases-loop-name g l = places_left l.begun.library * 2 ^ 64 + length l.left.items
