use Rattle.std.proofs.Common.{map, string_bytes, subst}
use Rattle.mpy_endings.specs.declared.ending.Ending.{Ending}
use Rattle.mpy_tool.specs.Below.{library_below}
use Rattle.mpy_tool.specs.Doing.{DoesBy}
use Rattle.mpy_tool.proofs.Handing.{handed_on, held_back}
use Rattle.mpy_tool.proofs.doing.done.Goals as goal

pub returns-in-Ok-clause-went : goal.returns-in-Ok-clause-went
returns-in-Ok-clause-went g c =
    let words = map string_bytes c.args.words.now in
    let files = g.F.Folder.files c.ran-ending.new.folder in
    handed_on c.args.order words (library_below c.args.below) (g.F.Folder.files c.args.folder.now) files (g.S.Sink.told c.args.out.now) (g.S.Sink.told c.ran-ending.new.out) (g.S.Sink.told c.flush.new.self) c.ran-ending.result.place c.flush.ensures.same c.args.order.command
    (subst (λ (x : Ending). DoesBy c.args.order words (library_below c.args.below) c.args.order.command (g.F.Folder.files c.args.folder.now) files (g.S.Sink.told c.args.out.now) (g.S.Sink.told c.ran-ending.new.out) c.ran-ending.result.place x) c.in-Done.is c.ran-ending.ensures.went)

pub returns-in-Err-clause-went : goal.returns-in-Err-clause-went
returns-in-Err-clause-went g c =
    let words = map string_bytes c.args.words.now in
    let files = g.F.Folder.files c.ran-ending.new.folder in
    held_back c.args.order words (library_below c.args.below) (g.F.Folder.files c.args.folder.now) files (g.S.Sink.told c.args.out.now) (g.S.Sink.told c.ran-ending.new.out) (g.S.Sink.told c.flush.new.self) c.ran-ending.result.place c.flush.ensures.same c.args.order.command
    (subst (λ (x : Ending). DoesBy c.args.order words (library_below c.args.below) c.args.order.command (g.F.Folder.files c.args.folder.now) files (g.S.Sink.told c.args.out.now) (g.S.Sink.told c.ran-ending.new.out) c.ran-ending.result.place x) c.in-Done.is c.ran-ending.ensures.went)
