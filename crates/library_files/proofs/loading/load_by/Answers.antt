use Rattle.library_files.specs.Comes.{NameComesTo}
use Rattle.library_files.specs.Ends.{BeginsWith}
use Rattle.std.proofs.lemmas.Result.{IfOk-weaker}
use Rattle.library_files.specs.Steps.{AddsModules}
use Rattle.library_files.proofs.Absent.{none_known}
use Rattle.library_files.proofs.Whole.{begins_with, main_held, main_loaded, main_past}
use Rattle.library_files.proofs.loading.load_by.Goals as goal

pub load_all-requires-clause-short : goal.load_all-requires-clause-short
load_all-requires-clause-short g c = c.in-Ok.ensures.short

pub load_all-requires-clause-held : goal.load_all-requires-clause-held
load_all-requires-clause-held g c = main_held c.args.main c.args.size c.in-Ok.begun c.in-Ok.imports.items c.in-Ok.ensures

pub load_all-requires-clause-absent : goal.load_all-requires-clause-absent
load_all-requires-clause-absent g c =
    none_known (NameComesTo (g.R.Reader.ending c.args.reader.now) (g.R.Reader.comes c.args.reader.now) c.args.base.now) (g.F.Folder.files c.args.folder.now) c.in-Ok.begun.absent.texts c.in-Ok.ensures.absent_is

pub returns-in-Ok-clause-loaded : goal.returns-in-Ok-clause-loaded
returns-in-Ok-clause-loaded g c =
    main_loaded c.args.main c.args.size c.in-Ok.begun c.in-Ok.imports.items c.in-Ok.ensures (NameComesTo (g.R.Reader.ending c.args.reader.now) (g.R.Reader.comes c.args.reader.now) c.args.base.now) (g.F.Folder.files c.args.folder.now) c.load_all.result c.load_all.ensures.loaded

pub returns-in-Ok-clause-main_first : goal.returns-in-Ok-clause-main_first
returns-in-Ok-clause-main_first g c =
    IfOk-weaker c.load_all.result (AddsModules c.in-Ok.begun.library) (BeginsWith c.args.main)
    (λ library adds. begins_with c.args.main c.args.size c.in-Ok.begun c.in-Ok.imports.items c.in-Ok.ensures library adds) c.load_all.ensures.adds

pub returns-in-Err-clause-loaded : goal.returns-in-Err-clause-loaded
returns-in-Err-clause-loaded g c = main_past c.args.main c.args.size (NameComesTo (g.R.Reader.ending c.args.reader.now) (g.R.Reader.comes c.args.reader.now) c.args.base.now) (g.F.Folder.files c.args.folder.now) c.in-Err.refused c.in-Err.ensures
