use Rattle.std.proofs.Common.{◌≡◌, ℕ, List, [], Bool, Option, Result, ap, sym, subst, ◌∙◌}
use Rattle.std.specs.Prelude.{◌||◌, slice_index_or}
use Rattle.mpy_io.specs.Count.{Counts}
use Rattle.mpy_io.specs.Files.{FileOf}
use Rattle.mpy_words.specs.Words.{first_name, saved_name}
use Rattle.mpy_endings.specs.Ending.{IsRunStatus}
use Rattle.mpy_endings.specs.declared.ending.Ending.{Ending}
use Rattle.mpy_endings.proofs.Statuses.{unsaved_ended}
use Rattle.board_command.specs.command_files.Opened.{failed_in}
use Rattle.meant_commands.specs.run_commands.declared.ready.Ready.{Ready}
use Rattle.meant_commands.specs.run_commands.library_runs.Runs.{sight}
use Rattle.meant_commands.specs.run_commands.Run.{room_of, sight_in}
use Rattle.meant_commands.specs.run_commands.Save.{EndsRunTo, RunsTo, is_unwritten, place_to}
use Rattle.meant_commands.proofs.run_commands_lemmas.Suspending.{counts_to, ends_run_to, says_to}
use Rattle.mpy_tool.specs.Call.{call_of, texts}
use Rattle.mpy_tool.specs.Below.{library_below}
use Rattle.mpy_tool.specs.Doing.{LibraryBy}
use Rattle.mpy_tool.specs.Order.{ChangesSaved, save_by}
use Rattle.mpy_tool.proofs.Acting.{run_changes}
use Rattle.mpy_tool.proofs.Saving.{named_by, saved_changes}
use Rattle.mpy_tool.proofs.running.run_order.Goals as goal

pub returns-clause-ended : goal.returns-clause-ended
returns-clause-ended g c =
    let order = c.args.order in
    let call = call_of g.F.Folder g.S.Sink g.P.Port g.E.Sink c.args.words.now c.args.outside.now
    (record { folder = c.run_to-ended.new.outside.folder; out = c.run_to-ended.new.outside.out; say = c.say_ending.new.say; ports = c.run_to-ended.new.outside.ports }) c.status.result in
    let room = room_of order in
    let save = c.save_place-save.result in
    let snap = saved_name call.words save in
    let loaded = c.library_of-loaded.result in
    let ending = c.run_to-ended.result.ending in
    let went = c.run_to-ended.ensures.went in
    let between = c.run_to-ended.new.outside.say in
    let Comes = LibraryBy order call.words (library_below c.args.below) order.command in
    let ran = subst (λ (f : Option FileOf). RunsTo snap (λ r. r ≡ loaded) room order.steps (sight_in call.old call.ports_old) (sight_in call.new call.ports_new) went.0 f call.new.files ending) c.library_of-loaded.ensures.files went.1 in
    let says = says_to snap (λ r. r ≡ loaded) room order.steps (sight_in call.old call.ports_old) (sight_in call.new call.ports_new) call.old.files call.new.files call.old.say call.new.say (g.E.Sink.told between) call.old.say_faults call.new.say_faults (g.E.Sink.count between) went.0 c.word_at-name.result.now ending c.say_ending.result ran
    (λ e. (ap g.E.Sink.told (c.run_to-ended.ensures.silent e), ap g.E.Sink.count (c.run_to-ended.ensures.silent e)))
    (λ e. (ap g.E.Sink.told (c.say_ending.ensures.said e), ap g.E.Sink.count (c.say_ending.ensures.said e)))
    went.2 c.say_ending.ensures.line in
    let word = c.word_at-name.ensures ∙ (ap (λ (n : ℕ). slice_index_or call.words n []) c.run_to-ended.ensures.place ∙ named_by call.words save ending) in
    let reads = subst (Counts call.old.folder_faults call.new.folder_faults) c.run_to-ended.ensures.folder
    (counts_to loaded call.old.folder_faults (g.F.Folder.count c.library_of-loaded.new.folder) call.new.folder_faults c.library_of-loaded.ensures.counts snap room order.steps (sight_in call.old call.ports_old) (sight_in call.new call.ports_new) went.0 call.old.files call.new.files ending ran c.run_to-ended.ensures.unwritten) in
    let ended = ends_run_to snap room order.steps call.old call.new call.ports_old call.ports_new loaded ending went.0 ran Comes (first_name call.words) c.word_at-name.result.now c.status.result
    c.status.ensures word c.library_of-loaded.ensures.comes reads c.run_to-ended.ensures.out_counts says in
    subst (λ (s : Option ℕ). EndsRunTo (saved_name call.words s) Comes room order.steps (first_name call.words) call.old call.new call.ports_old call.ports_new c.status.result) c.save_place-save.ensures ended

pub returns-clause-flushed : goal.returns-clause-flushed
returns-clause-flushed g c = λ s. c.run_to-ended.ensures.flushed (subst IsRunStatus c.status.ensures s)

pub returns-clause-handed_on : goal.returns-clause-handed_on
returns-clause-handed_on g c = λ s. c.run_to-ended.ensures.handed_on (unsaved_ended c.run_to-ended.result.ending (sym c.status.ensures ∙ s))

pub returns-clause-files : goal.returns-clause-files
returns-clause-files g c =
    let order = c.args.order in
    let words = texts c.args.words.now in
    let old = g.F.Folder.files c.args.outside.now.folder in
    let new = g.F.Folder.files c.run_to-ended.new.outside.folder in
    let went = c.run_to-ended.ensures.went in
    let a = sight g.S.Sink.told g.P.Port.seen c.args.outside.now.out c.args.outside.now.ports in
    let b = sight g.S.Sink.told g.P.Port.seen c.run_to-ended.new.outside.out c.run_to-ended.new.outside.ports in
    let saved = saved_changes (saved_name words c.save_place-save.result) (λ (r : Result Ready Ending). r ≡ c.library_of-loaded.result) (room_of order) order.steps a b went.0 (g.F.Folder.files c.library_of-loaded.new.folder) new c.run_to-ended.result.ending went.1 in
    let here = subst (λ (f : Option FileOf). ChangesSaved (saved_name words c.save_place-save.result) f new) c.library_of-loaded.ensures.files saved in
    run_changes words order.save order.command old new c.requires.runs (subst (λ (s : Option ℕ). ChangesSaved (saved_name words s) old new) c.save_place-save.ensures here)
