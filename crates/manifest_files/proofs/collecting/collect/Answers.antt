use Rattle.std.proofs.Common.{Err, Result, Vec, refl}
use Rattle.std.specs.declared.alloc.Global.{Global}
use Rattle.mpy_base.specs.declared.refused.Refused.{Refused}
use Rattle.manifest_lines.specs.declared.entry.Entry.{Entry}
use Rattle.manifest_files.specs.declared.fault.ManifestFault.{ManifestFault}
use Rattle.manifest_files.proofs.FailedReads.{tree_read}
use Rattle.manifest_files.proofs.Passing.{none_opened}
use Rattle.manifest_files.proofs.Tells.{found_all, first_fault}
use Rattle.manifest_files.proofs.collecting.collect.Goals as goal

pub returns-in-Ok-clause-found : goal.returns-in-Ok-clause-found
returns-in-Ok-clause-found g c =
    found_all (g.F.Folder.files c.args.folder.now) c.new-opened.result.items c.args.name.now c.new-entries.result.items c.manifest.new.entries.items c.new-opened.ensures.items c.new-entries.ensures.items c.in-Ok.ensures.told

pub returns-clause-fault : goal.returns-clause-fault
returns-clause-fault g c =
    let result : Result (Vec Entry Global) (Refused ManifestFault) = Err c.in-Err.refused in
    first_fault result (g.F.Folder.files c.args.folder.now) c.new-opened.result.items c.args.name.now c.new-entries.result.items c.manifest.new.entries.items c.in-Err.refused refl c.new-opened.ensures.items c.new-entries.ensures.items c.in-Err.ensures.told

pub manifest-requires-clause-over : goal.manifest-requires-clause-over
manifest-requires-clause-over g c = none_opened (g.F.Folder.files c.args.folder.now) c.new-opened.result.items c.args.name.now c.new-opened.ensures.items

pub returns-clause-reads : goal.returns-clause-reads
returns-clause-reads g c =
    tree_read (g.F.Folder.files c.args.folder.now) c.new-opened.result.items c.args.name.now c.in-Err.refused c.new-opened.ensures.items c.in-Err.ensures.reads
