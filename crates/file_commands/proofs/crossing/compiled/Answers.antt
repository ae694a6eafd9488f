use Rattle.std.proofs.Common.{sym, subst, ◌∙◌}
use Rattle.command_files.specs.mpy_writer.mpy_tree.File.{IsAscii}
use Rattle.file_commands.proofs.Crossings.{stored_is_ascii}
use Rattle.file_commands.proofs.crossing.compiled.Goals as goal

pub compile-requires-clause-name_is : goal.compile-requires-clause-name_is
compile-requires-clause-name_is c = subst IsAscii (sym (c.bytes.ensures ∙ c.in-Ok.ensures)) (stored_is_ascii c.as_bytes.result.now)
