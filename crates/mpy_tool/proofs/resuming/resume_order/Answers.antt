use Rattle.std.proofs.Common.{ℕ, List, ◌++◌, refl, sym, ap, subst, ◌∙◌}
use Rattle.mpy_words.specs.Words.{first_name, saved_name, second_name}
use Rattle.mpy_endings.specs.Ending.{IsRunStatus}
use Rattle.mpy_endings.specs.Line.{Says, line_of}
use Rattle.mpy_endings.proofs.Statuses.{unsaved_ended}
use Rattle.meant_commands.specs.run_commands.library_runs.Runs.{sight}
use Rattle.meant_commands.specs.run_commands.Resume.{ResumeLibrary}
use Rattle.meant_commands.specs.run_commands.Run.{sight_in}
use Rattle.meant_commands.proofs.run_commands_lemmas.Resumption.{resumed_unsaid}
use Rattle.meant_commands.proofs.run_commands_lemmas.Running.{said_all}
use Rattle.mpy_tool.specs.Call.{call_of, texts}
use Rattle.mpy_tool.specs.Below.{library_below}
use Rattle.mpy_tool.proofs.Saving.{resumed_changes}
use Rattle.mpy_tool.proofs.resuming.resume_order.Goals as goal

pub returns-clause-ended : goal.returns-clause-ended
returns-clause-ended g c =
    let order = c.args.order in
    let call = call_of g.F.Folder g.S.Sink g.P.Port g.E.Sink c.args.words.now c.args.outside.now
    (record { folder = c.resume_below-ended.new.outside.folder; out = c.resume_below-ended.new.outside.out; say = c.say_ending.new.say; ports = c.resume_below-ended.new.outside.ports }) c.status.result in
    let ended = c.resume_below-ended.result in
    let went = c.resume_below-ended.ensures.went in
    let between = c.resume_below-ended.new.outside.say in
    let Comes = ResumeLibrary (library_below c.args.below) call.old.files (first_name call.words) in
    let says = said_all call.old.say (g.E.Sink.told between) call.new.say call.old.say_faults (g.E.Sink.count between) call.new.say_faults c.word_at-name.result.now went.0 ended.ending c.say_ending.result
    (λ e. (
      ap g.E.Sink.told (c.resume_below-ended.ensures.silent e),
      ap g.E.Sink.count (c.resume_below-ended.ensures.silent e),
      resumed_unsaid (second_name call.words) call.words order.save order.steps (sight_in call.old call.ports_old) (sight_in call.new call.ports_new) went.0 call.old.files call.new.files Comes ended.place ended.ending went.1 e,
    ))
    (λ e. (ap g.E.Sink.told (c.say_ending.ensures.said e), ap g.E.Sink.count (c.say_ending.ensures.said e)))
    went.2 c.say_ending.ensures.line in
    record {
      ending = ended.ending;
      place = ended.place;
      said = went.0;
      status_is = c.status.ensures;
      went = went.1;
      folder_counts = c.resume_below-ended.ensures.folder_counts;
      out_counts = c.resume_below-ended.ensures.out_counts;
      says = subst (λ (name : List ℕ). Says call.old.say call.new.say call.old.say_faults call.new.say_faults (went.0 ++ line_of name ended.ending)) c.word_at-name.ensures says;
    }

pub returns-clause-flushed : goal.returns-clause-flushed
returns-clause-flushed g c = λ s. c.resume_below-ended.ensures.flushed (subst IsRunStatus c.status.ensures s)

pub returns-clause-handed_on : goal.returns-clause-handed_on
returns-clause-handed_on g c = λ s. c.resume_below-ended.ensures.handed_on (unsaved_ended c.resume_below-ended.result.ending (sym c.status.ensures ∙ s))

pub returns-clause-files : goal.returns-clause-files
returns-clause-files g c =
    let order = c.args.order in
    let words = texts c.args.words.now in
    let old = g.F.Folder.files c.args.outside.now.folder in
    let new = g.F.Folder.files c.resume_below-ended.new.outside.folder in
    let went = c.resume_below-ended.ensures.went in
    resumed_changes (saved_name words order.save) (ResumeLibrary (library_below c.args.below) old (first_name words)) (second_name words) words order.save order.steps
    (sight g.S.Sink.told g.P.Port.seen c.args.outside.now.out c.args.outside.now.ports) (sight g.S.Sink.told g.P.Port.seen c.resume_below-ended.new.outside.out c.resume_below-ended.new.outside.ports)
    went.0 old new c.resume_below-ended.result.place c.resume_below-ended.result.ending refl went.1
