use Rattle.std.proofs.Common.{map, string_bytes, sym, subst}
use Rattle.std.proofs.KnownBytes.{Keeps-refl}
use Rattle.mpy_io.specs.Count.{Counts}
use Rattle.mpy_words.specs.declared.order.Command.{Command}
use Rattle.mpy_endings.specs.declared.ending.Ending.{Ending}
use Rattle.mpy_endings.specs.Ending.{is_folder_fault}
use Rattle.mpy_tool.specs.Below.{image_version, library_below}
use Rattle.mpy_tool.specs.Order.{ChangesBy}
use Rattle.mpy_tool.proofs.Alone.{freeze_did, board_did, freeze_changed}
use Rattle.mpy_tool.proofs.Under.{is_opened}
use Rattle.mpy_tool.proofs.doing.ran.Goals as goal

pub board_below-requires : goal.board_below-requires
board_below-requires g c = is_opened c.args.below c.args.order.base c.requires.below

pub returns-in-Freeze-clause-went : goal.returns-in-Freeze-clause-went
returns-in-Freeze-clause-went g c =
    freeze_did c.args.order (map string_bytes c.args.words.now) (library_below c.args.below) c.args.order.command (g.F.Folder.files c.args.folder.now) (g.F.Folder.files c.freeze_below.new.folder) (g.S.Sink.told c.args.out.now) (g.S.Sink.told c.args.out.now) c.of_two.result.place c.of_two.result.ending c.freeze_below.result c.word_at-name.result.now c.word_at-written.result.now
    c.in-Freeze.is c.word_at-name.ensures c.word_at-written.ensures c.of_two.ensures.ending c.of_two.ensures.place c.freeze_below.ensures.went (Keeps-refl (g.S.Sink.told c.args.out.now))

pub returns-in-Freeze-clause-files : goal.returns-in-Freeze-clause-files
returns-in-Freeze-clause-files g c =
    freeze_changed (map string_bytes c.args.words.now) c.args.order.save c.args.order.command (g.F.Folder.files c.args.folder.now) (g.F.Folder.files c.freeze_below.new.folder) (image_version c.args.order.base) (library_below c.args.below) c.word_at-name.result.now c.word_at-written.result.now c.freeze_below.result c.in-Freeze.is c.word_at-written.ensures c.freeze_below.ensures.went

pub returns-in-Freeze-clause-folder_counts : goal.returns-in-Freeze-clause-folder_counts
returns-in-Freeze-clause-folder_counts g c =
    subst (λ (x : Ending). Counts (g.F.Folder.count c.args.folder.now) (g.F.Folder.count c.freeze_below.new.folder) (is_folder_fault x)) (sym c.of_two.ensures.ending) c.freeze_below.ensures.folder_counts

pub returns-in-Board-clause-went : goal.returns-in-Board-clause-went
returns-in-Board-clause-went g c =
    board_did c.args.order (map string_bytes c.args.words.now) (library_below c.args.below) c.args.order.command (g.F.Folder.files c.args.folder.now) (g.F.Folder.files c.board_below.new.folder) (g.S.Sink.told c.args.out.now) (g.S.Sink.told c.board_below.new.out) c.board_below.result.place c.board_below.result.ending c.word_at-name.result.now c.word_at.result.now
    c.in-Board.is c.word_at-name.ensures c.word_at.ensures c.board_below.ensures.went

pub returns-in-Board-clause-files : goal.returns-in-Board-clause-files
returns-in-Board-clause-files g c =
    subst (λ (command : Command). ChangesBy (map string_bytes c.args.words.now) c.args.order.save command (g.F.Folder.files c.args.folder.now) (g.F.Folder.files c.board_below.new.folder)) (sym c.in-Board.is) c.board_below.ensures.files
