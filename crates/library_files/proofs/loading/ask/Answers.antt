use Rattle.library_files.specs.Comes.{NameComesTo}
use Rattle.library_files.proofs.Asks.{known_by, known_asked}
use Rattle.library_files.proofs.Taken.{no_step}
use Rattle.library_files.proofs.loading.ask.Goals as goal

pub returns-in-Some-clause-loads : goal.returns-in-Some-clause-loads
returns-in-Some-clause-loads g c =
    known_asked (NameComesTo (g.R.Reader.ending c.args.reader.now) (g.R.Reader.comes c.args.reader.now) c.args.base.now) (g.F.Folder.files c.args.folder.now) c.args.begun.now c.args.name.now c.args.found.now.items (known_by c.find.result _ _ c.find.ensures c.in-Some.is)

pub returns-in-Some-clause-step : goal.returns-in-Some-clause-step
returns-in-Some-clause-step g c = no_step c.args.begun.now.library c.args.found.now.items
