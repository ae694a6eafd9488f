use Rattle.std.proofs.Common.{sym, subst, ◌∙◌}
use Rattle.library_files.specs.Comes.{NameComesTo}
use Rattle.library_files.specs.Asked.{asked_for}
use Rattle.library_files.specs.Steps.{AreAsked}
use Rattle.library_files.proofs.Plain.{all_asked}
use Rattle.library_files.proofs.Asks.{import_asks, no_import}
use Rattle.library_files.proofs.loading.import.Goals as goal

pub ask_found-requires-clause-names_are : goal.ask_found-requires-clause-names_are
ask_found-requires-clause-names_are g c = subst AreAsked (sym (c.deref.ensures.value ∙ c.in-Ok.ensures)) (all_asked c.args.name.now c.requires.short)

pub returns-in-Ok-clause-loads : goal.returns-in-Ok-clause-loads
returns-in-Ok-clause-loads g c =
    import_asks (NameComesTo (g.R.Reader.ending c.args.reader.now) (g.R.Reader.comes c.args.reader.now) c.args.base.now) (g.F.Folder.files c.args.folder.now) c.args.begun.now c.ask_found.new.begun c.deref.result.now (asked_for c.args.name.now) c.ask_found.result
    (c.deref.ensures.value ∙ c.in-Ok.ensures) c.ask_found.ensures.loads

pub returns-in-Err-clause-loads : goal.returns-in-Err-clause-loads
returns-in-Err-clause-loads g c = no_import (NameComesTo (g.R.Reader.ending c.args.reader.now) (g.R.Reader.comes c.args.reader.now) c.args.base.now) (g.F.Folder.files c.args.folder.now) c.args.begun.now c.args.begun.now c.args.name.now
