use Rattle.std.proofs.Common.{List, subst}
use Rattle.std.specs.Prelude.{All}
use Rattle.manifest_lines.specs.declared.entry.Entry.{Entry}
use Rattle.manifest_files.specs.Plain.{IsPlain}
use Rattle.frozen_files.proofs.Modules.{names_ascii, refuses_source, refuses_manifest}
use Rattle.frozen_files.proofs.sources.read_sources.Goals as goal

pub returns-in-Ok-modules-clause-ascii : goal.returns-in-Ok-modules-clause-ascii
returns-in-Ok-modules-clause-ascii g c =
    names_ascii (g.F.Folder.files c.entries.new.folder) c.deref.result.now c.in-Ok-modules.modules.items (rw c.deref.ensures.value c.in-Ok.ensures.plain) c.in-Ok-modules.ensures.sources
