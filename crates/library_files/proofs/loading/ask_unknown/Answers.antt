use Rattle.std.proofs.Common.{Ok, refl}
use Rattle.library_files.specs.declared.entry.Entry.TheVariants as entries
use Rattle.library_files.specs.Comes.{NameComesTo}
use Rattle.library_files.proofs.Absent.{known_absent}
use Rattle.library_files.proofs.Asks.{entry_asked}
use Rattle.library_files.proofs.Taken.{absent_adds, absent_takes, no_step}
use Rattle.library_files.proofs.loading.ask_unknown.Goals as goal

pub returns-in-Some-clause-loads : goal.returns-in-Some-clause-loads
returns-in-Some-clause-loads g c =
    entry_asked (NameComesTo (g.R.Reader.ending c.args.reader.now) (g.R.Reader.comes c.args.reader.now) c.args.base.now) (g.F.Folder.files c.args.folder.now) c.args.begun.now c.args.begun.now c.args.name.now entries.Absent c.args.found.now.items c.args.found.now.items (Ok tt)
    (known_absent (NameComesTo (g.R.Reader.ending c.args.reader.now) (g.R.Reader.comes c.args.reader.now) c.args.base.now) (g.F.Folder.files c.args.folder.now) c.args.begun.now.absent c.args.name.now c.find.result _ c.find.ensures.number c.in-Some.is c.requires.absent)
    c.requires.fresh (absent_takes c.args.begun.now c.args.name.now entries.Absent refl) (absent_adds entries.Absent c.args.found.now.items refl)

pub returns-in-Some-clause-step : goal.returns-in-Some-clause-step
returns-in-Some-clause-step g c = no_step c.args.begun.now.library c.args.found.now.items
