use Rattle.meant_commands.specs.file_commands.Check.{Checks}
use Rattle.meant_commands.specs.file_commands.CheckAs.{ChecksAs}
use Rattle.meant_commands.specs.file_commands.Cross.{Crosses}
use Rattle.meant_commands.specs.file_commands.Dump.{Dumps}
use Rattle.meant_commands.specs.file_commands.Merge.{Merges}
use Rattle.meant_commands.specs.file_commands.Freeze.{Freezes}
use Rattle.meant_commands.specs.file_commands.Migrate.{Migrates}
use Rattle.board_command.specs.Boards.{Boards}
use Rattle.command_files.specs.Outside.{EndsAt, Writes}
use Rattle.tool_laws.proofs.Based.{over_once}
use Rattle.tool_laws.proofs.Settling.{ends_at_once, ends_once, writes_of_once, writes_once}
use Rattle.tool_laws.proofs.statuses.one_status_law.Goals as goal

pub returns : goal.returns
returns c = record {
  check = λ files name. ends_once files Checks name (c.check_law.ensures.one_ending files name);
  check_as = λ level files source file words.
      ends_at_once files (λ old new before behind. ChecksAs level old source file before behind) words
      (λ a b before behind printed after place another. c.check_as_law.ensures.one_ending level files source file before behind printed after place another);
  dump = λ files name. ends_once files Dumps name (c.dump_law.ensures.one_ending files name);
  cross = λ level files name stored written. writes_once files (Crosses level name stored written) name written (c.cross_law.ensures.one_ending level files name stored written);
  merge = λ files names written words. writes_of_once files (Merges names written) words (c.merge_law.ensures.one_ending files names written);
  freeze = λ version below files manifest written.
      writes_once files (Freezes version below manifest written) manifest written (c.freeze_law.ensures.one_ending version below files manifest written);
  migrate = λ files name written. writes_once files (Migrates name written) name written (c.migrate_law.ensures.one_ending files name written);
  board = λ opened below files image plan words is.
      ends_at_once files (Boards below image plan) words
      (λ a b before behind printed after place another. c.board_law.ensures.one_ending opened below files image plan a b before behind printed after place another is);
  freeze_over = λ version files base manifest written.
      over_once c.image_laws.ensures files base (λ below. Writes (Freezes version below manifest written) manifest written)
      (λ opened below is. writes_once files (Freezes version below manifest written) manifest written (c.freeze_law.ensures.one_ending version below files manifest written));
  board_over = λ files base image plan words.
      over_once c.image_laws.ensures files base (λ below. EndsAt (Boards below image plan) words)
      (λ opened below is.
      ends_at_once files (Boards below image plan) words
      (λ a b before behind printed after place another. c.board_law.ensures.one_ending opened below files image plan a b before behind printed after place another is));
}
