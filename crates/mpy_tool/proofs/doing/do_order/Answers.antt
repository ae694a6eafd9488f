use Rattle.std.proofs.Common.{map, string_bytes, subst, sym, ◌∙◌}
use Rattle.mpy_endings.specs.Ending.{IsRunStatus}
use Rattle.mpy_tool.specs.Below.{library_below}
use Rattle.mpy_tool.specs.Call.{call_of}
use Rattle.mpy_tool.proofs.Ended.{said_at}
use Rattle.mpy_tool.proofs.Handing.{done_of, not_unsaved}
use Rattle.mpy_tool.proofs.doing.do_order.Goals as goal

pub returns-clause-ended : goal.returns-clause-ended
returns-clause-ended g c =
    let call = call_of g.F.Folder g.S.Sink g.P.Port g.E.Sink c.args.words.now c.args.outside.now (record c.args.outside.now { folder = c.done-ended.new.folder; out = c.done-ended.new.out; say = c.say_ending.new.say }) c.status.result in
    record {
      ending = c.done-ended.result.ending;
      place = c.done-ended.result.place;
      status_is = c.status.ensures;
      went = c.done-ended.ensures.went;
      folder_counts = c.done-ended.ensures.folder_counts;
      out_counts = c.done-ended.ensures.out_counts;
      says = said_at call.old.say call.new.say call.old.say_faults call.new.say_faults call.words c.word_at-name.result.now c.done-ended.result.place c.done-ended.result.ending c.say_ending.result c.word_at-name.ensures c.say_ending.ensures.line;
    }

pub returns-clause-flushed : goal.returns-clause-flushed
returns-clause-flushed g c = λ s.
    let files = g.F.Folder.files in
    let told = g.S.Sink.told in
    c.done-ended.ensures.flushed (done_of c.args.order (map string_bytes c.args.words.now) (library_below c.args.below) (files c.args.outside.now.folder) (files c.done-ended.new.folder)
    (told c.args.outside.now.out) (told c.done-ended.new.out) c.done-ended.result.place c.args.order.command c.done-ended.result.ending c.done-ended.ensures.went (subst IsRunStatus c.status.ensures s))

pub returns-clause-handed_on : goal.returns-clause-handed_on
returns-clause-handed_on g c = λ s.
    let files = g.F.Folder.files in
    let told = g.S.Sink.told in
    absurd (not_unsaved c.args.order (map string_bytes c.args.words.now) (library_below c.args.below) (files c.args.outside.now.folder) (files c.done-ended.new.folder)
    (told c.args.outside.now.out) (told c.done-ended.new.out) c.done-ended.result.place c.args.order.command c.done-ended.result.ending c.done-ended.ensures.went (sym c.status.ensures ∙ s))
