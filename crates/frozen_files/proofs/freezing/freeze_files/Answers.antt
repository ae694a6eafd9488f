use Rattle.frozen_files.proofs.Modules.{is_frozen}
use Rattle.frozen_files.proofs.freezing.freeze_files.Goals as goal

pub returns-in-Ok-freeze-clause-frozen : goal.returns-in-Ok-freeze-clause-frozen
returns-in-Ok-freeze-clause-frozen g c =
    is_frozen c.args.version c.args.below.now (g.F.Folder.files c.args.folder.now) c.args.manifest.now c.in-Ok.modules.items c.deref.result.now c.in-Ok-freeze.bytes.items c.deref.ensures.value c.in-Ok.ensures.sources c.in-Ok-freeze.ensures.written c.in-Ok-freeze.ensures.opens
