use Rattle.std.proofs.Common.{rules}
use Rattle.mpy_io.specs.Memory.{entries_of}
use Rattle.mpy_io.proofs.Fronts.{write_front}
use Rattle.mpy_io.proofs.mem_folder.MemFolderFolder.write.Goals as goal

pub returns-clause-err : goal.returns-clause-err
returns-clause-err c =
    write_front c.end.result c.set_file-stored.result c.begin-listed.result (entries_of c.self.inside.files.items) (entries_of c.set_file-stored.new.files.items) _ _ _ _ _ (search rules) c.set_file-stored.ensures.ok c.set_file-stored.ensures.err (search rules) (search rules) (search rules)
