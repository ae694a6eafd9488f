use Rattle.std.proofs.Common.{Bool, sym, subst}
use Rattle.mpy_io.specs.Count.{Counts}
use Rattle.library_files.specs.declared.entry.Entry.{Entry}
use Rattle.library_files.specs.Comes.{NameComesTo}
use Rattle.library_files.proofs.Absent.{remembered}
use Rattle.library_files.proofs.Asks.{entry_asked, unread_asked, unread_at, failed_alike}
use Rattle.library_files.proofs.Taken.{takes_at, takes_unfailed}
use Rattle.library_files.proofs.loading.read_asked.Goals as goal

pub returns-in-Ok-clause-loads : goal.returns-in-Ok-clause-loads
returns-in-Ok-clause-loads g c =
    entry_asked (NameComesTo (g.R.Reader.ending c.args.reader.now) (g.R.Reader.comes c.args.reader.now) c.args.base.now) (g.F.Folder.files c.args.folder.now) c.args.begun.now c.take_entry.new.begun c.args.name.now c.in-Ok.entry c.args.found.now.items c.take_entry.new.found.items c.take_entry.result
    c.in-Ok.ensures.entry c.requires.fresh c.take_entry.ensures.takes c.take_entry.ensures.imports

pub returns-in-Ok-clause-at : goal.returns-in-Ok-clause-at
returns-in-Ok-clause-at g c = takes_at (g.R.Reader.ending c.args.reader.now) (g.R.Reader.comes c.args.reader.now) c.args.base.now c.args.begun.now c.take_entry.new.begun c.args.name.now c.in-Ok.entry c.take_entry.result c.take_entry.ensures.takes

pub returns-in-Ok-clause-cause : goal.returns-in-Ok-clause-cause
returns-in-Ok-clause-cause g c =
    subst (λ (b : Bool). Counts (g.F.Folder.count c.args.folder.now) (g.F.Folder.count c.entry_of.new.folder) b)
    (sym (takes_unfailed c.args.begun.now c.take_entry.new.begun c.args.name.now c.in-Ok.entry c.take_entry.result c.take_entry.ensures.takes)) c.in-Ok.ensures.cause

pub returns-in-Err-clause-loads : goal.returns-in-Err-clause-loads
returns-in-Err-clause-loads g c =
    unread_asked (NameComesTo (g.R.Reader.ending c.args.reader.now) (g.R.Reader.comes c.args.reader.now) c.args.base.now) (g.F.Folder.files c.args.folder.now) c.args.begun.now c.args.begun.now c.args.name.now c.args.found.now.items c.args.found.now.items c.in-Err.refused c.in-Err.ensures.entry c.requires.fresh

pub returns-in-Err-clause-at : goal.returns-in-Err-clause-at
returns-in-Err-clause-at g c = unread_at (g.R.Reader.ending c.args.reader.now) (g.R.Reader.comes c.args.reader.now) c.args.base.now c.args.name.now c.in-Err.refused c.requires.name_is c.in-Err.ensures.at

pub returns-in-Err-clause-cause : goal.returns-in-Err-clause-cause
returns-in-Err-clause-cause g c =
    subst (λ (b : Bool). Counts (g.F.Folder.count c.args.folder.now) (g.F.Folder.count c.entry_of.new.folder) b)
    (failed_alike Entry (Unit {0}) c.in-Err.refused) c.in-Err.ensures.cause

pub returns-in-Ok-clause-absent : goal.returns-in-Ok-clause-absent
returns-in-Ok-clause-absent g c =
    remembered (NameComesTo (g.R.Reader.ending c.args.reader.now) (g.R.Reader.comes c.args.reader.now) c.args.base.now) (g.F.Folder.files c.args.folder.now) (g.F.Folder.files c.entry_of.new.folder) c.args.begun.now.absent c.take_entry.new.begun.absent c.args.name.now c.in-Ok.entry c.take_entry.result
    c.in-Ok.ensures.same c.in-Ok.ensures.entry c.requires.absent c.take_entry.ensures.remembers
