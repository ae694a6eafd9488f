use Rattle.std.proofs.Common.{sym, subst, ◌∙◌}
use Rattle.mpy_reader.specs.mpy_tree.File.{IsAscii}
use Rattle.source_files.proofs.Names.{stored_is_ascii}
use Rattle.source_files.proofs.source.source_file.Goals as goal

pub compile-requires-clause-name_is : goal.compile-requires-clause-name_is
compile-requires-clause-name_is c = subst IsAscii (sym (c.bytes.ensures ∙ c.in-Ok.ensures)) (stored_is_ascii c.args.path.now)
