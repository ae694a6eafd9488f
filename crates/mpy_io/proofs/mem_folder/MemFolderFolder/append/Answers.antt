use Rattle.std.proofs.Common.{rules}
use Rattle.mpy_io.specs.Memory.{entries_of}
use Rattle.mpy_io.proofs.Fronts.{append_front}
use Rattle.mpy_io.proofs.mem_folder.MemFolderFolder.append.Goals as goal

pub returns-clause-err : goal.returns-clause-err
returns-clause-err c =
    append_front c.end.result c.extend_file-stored.result c.begin-listed.result (entries_of c.self.inside.files.items) (entries_of c.extend_file-stored.new.files.items) _ _ _ _ _ (search rules) c.extend_file-stored.ensures.ok c.extend_file-stored.ensures.err (search rules) (search rules) (search rules)
