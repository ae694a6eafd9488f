use Rattle.meant_commands.specs.file_commands.Check.{Checks}
use Rattle.meant_commands.specs.file_commands.CheckAs.{ChecksAs}
use Rattle.meant_commands.specs.file_commands.Cross.{Crosses}
use Rattle.meant_commands.specs.file_commands.Dump.{Dumps}
use Rattle.meant_commands.specs.file_commands.Merge.{Merges}
use Rattle.meant_commands.specs.file_commands.Freeze.{Freezes}
use Rattle.meant_commands.specs.file_commands.Migrate.{Migrates}
use Rattle.board_command.specs.Boards.{Boards}
use Rattle.tool_laws.proofs.Settling.{ends_at_done, ends_done, writes_done, writes_of_done}
use Rattle.tool_laws.proofs.statuses.completeness_law.Goals as goal

pub returns : goal.returns
returns c = record {
  check = λ files name count held. ends_done files Checks name (λ before behind. c.check_law.ensures.done files name count before behind held);
  check_as = λ level files source file count words held.
      ends_at_done files (λ old new before behind. ChecksAs level old source file before behind) words
      (λ new before behind place. c.check_as_law.ensures.done level files source file count before behind place held);
  dump = λ files name text held. ends_done files Dumps name (λ before behind. c.dump_law.ensures.done files name text before behind held);
  cross = λ level files name stored source written at none.
      writes_done files (Crosses level name stored written) name written (λ new. c.cross_law.ensures.accepted level files name stored source written new at none);
  merge = λ files names written words modules held none.
      writes_of_done files (Merges names written) words (λ new place. c.merge_law.ensures.done files names written modules new place held none);
  freeze = λ version below files manifest written modules held none.
      writes_done files (Freezes version below manifest written) manifest written (λ new. c.freeze_law.ensures.done version below files manifest written modules new held none);
  migrate = λ files name written bytes entries at is small.
      writes_done files (Migrates name written) name written (λ new. c.migrate_law.ensures.done files name written bytes entries new at is small);
  board = λ opened below files image name words shelf plan is held planned none.
      ends_at_done files (Boards below image name) words
      (λ new before behind place. c.board_law.ensures.done opened below files image name shelf plan new before behind place is held planned none);
}
