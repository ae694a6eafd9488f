use Rattle.std.proofs.Common.{◌≡◌, ℕ, List, [], Bool, false, Option, Some, None, Result, refl, map, sym, ap, subst, ◌∙◌, string_bytes}
use Rattle.mpy_io.specs.Count.{Counts}
use Rattle.mpy_words.specs.Words.{saved_name}
use Rattle.mpy_endings.specs.Ending.{is_folder_fault}
use Rattle.board_command.specs.command_files.Opened.{failed_in}
use Rattle.mpy_endings.specs.declared.ending.Ending.{Ending}
use Rattle.meant_commands.specs.run_commands.declared.ready.Ready.{Ready}
use Rattle.meant_commands.specs.run_commands.library_runs.Runs.{sight}
use Rattle.meant_commands.specs.run_commands.Run.{Runs, room_of}
use Rattle.meant_commands.specs.run_commands.Save.{RunsTo, is_unwritten}
use Rattle.meant_commands.proofs.run_commands_lemmas.Suspending.{or_false, runs_written}
use Rattle.mpy_tool.proofs.running.run_to.Goals as goal

pub returns-in-Some-clause-went : goal.returns-in-Some-clause-went
returns-in-Some-clause-went g c =
    let words = map string_bytes c.args.words.now in
    let went = c.run_saving-ending.ensures.went in
    let Went = λ (snap : Option (List ℕ)). RunsTo snap (λ (r : Result Ready Ending). r ≡ c.args.loaded) (room_of c.args.order) c.args.order.steps
    (sight g.S.Sink.told g.P.Port.seen c.args.outside.now.out c.args.outside.now.ports) (sight g.S.Sink.told g.P.Port.seen c.run_saving-ending.new.out c.run_saving-ending.new.ports)
    went.0 (g.F.Folder.files c.args.outside.now.folder) (g.F.Folder.files c.run_saving-ending.new.folder) c.run_saving-ending.result in
    (went.0, subst Went (ap (λ (s : List ℕ). Some s) c.word_at.ensures ∙ ap (saved_name words) (sym c.in-Some.is)) went.1, went.2)

pub returns-in-None-clause-went : goal.returns-in-None-clause-went
returns-in-None-clause-went g c =
    let words = map string_bytes c.args.words.now in
    let went = c.run_loaded.ensures.went in
    let files = g.F.Folder.files c.args.outside.now.folder in
    let Went = λ (snap : Option (List ℕ)). RunsTo snap (λ (r : Result Ready Ending). r ≡ c.args.loaded) (room_of c.args.order) c.args.order.steps
    (sight g.S.Sink.told g.P.Port.seen c.args.outside.now.out c.args.outside.now.ports) (sight g.S.Sink.told g.P.Port.seen c.run_loaded.new.out c.run_loaded.new.ports)
    went.0 files files c.run_loaded.result in
    (went.0, subst Went (ap (saved_name words) (sym c.in-None.is)) (went.1, refl), went.2)

pub returns-in-None-clause-handed_on : goal.returns-in-None-clause-handed_on
returns-in-None-clause-handed_on g c = λ s.
    let went = c.run_loaded.ensures.went in
    absurd (subst (Runs (λ (r : Result Ready Ending). r ≡ c.args.loaded) (room_of c.args.order) c.args.order.steps
    (sight g.S.Sink.told g.P.Port.seen c.args.outside.now.out c.args.outside.now.ports) (sight g.S.Sink.told g.P.Port.seen c.run_loaded.new.out c.run_loaded.new.ports) went.0) s went.1)

pub returns-in-None-clause-unwritten : goal.returns-in-None-clause-unwritten
returns-in-None-clause-unwritten g c =
    let went = c.run_loaded.ensures.went in
    let old = sight g.S.Sink.told g.P.Port.seen c.args.outside.now.out c.args.outside.now.ports in
    let new = sight g.S.Sink.told g.P.Port.seen c.run_loaded.new.out c.run_loaded.new.ports in
    let count = g.F.Folder.count c.args.outside.now.folder in
    let none = runs_written (λ (r : Result Ready Ending). r ≡ c.args.loaded) (room_of c.args.order) c.args.order.steps old new went.0 c.run_loaded.result went.1 in
    subst (λ (b : Bool). Counts count count b) (sym none) refl

pub returns-in-None-clause-folder : goal.returns-in-None-clause-folder
returns-in-None-clause-folder g c =
    let went = c.run_loaded.ensures.went in
    let old = sight g.S.Sink.told g.P.Port.seen c.args.outside.now.out c.args.outside.now.ports in
    let new = sight g.S.Sink.told g.P.Port.seen c.run_loaded.new.out c.run_loaded.new.ports in
    let none = runs_written (λ (r : Result Ready Ending). r ≡ c.args.loaded) (room_of c.args.order) c.args.order.steps old new went.0 c.run_loaded.result went.1 in
    or_false (failed_in c.args.loaded) (is_unwritten c.run_loaded.result) (is_folder_fault c.run_loaded.result) c.run_loaded.ensures.reads none
