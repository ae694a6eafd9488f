use Rattle.std.proofs.Common.{◌≡◌, ℕ, List, [], Bool, Option, Result, Ok, Err, inl, map, string_bytes, refl, sym, subst, ap, ◌∙◌}
use Rattle.mpy_io.specs.Count.{Counts}
use Rattle.mpy_io.specs.Files.{FileOf}
use Rattle.bc_library.specs.Shelf.{Shelf}
use Rattle.library_runs.specs.Runs.{sight}
use Rattle.command_files.specs.mpy_endings.declared.ending.Ending.{Ending}
use Rattle.command_files.specs.mpy_endings.Ending.{is_folder_fault}
use Rattle.command_files.specs.mpy_words.Words.{first_name, second_name}
use Rattle.run_commands.specs.Resume.{ResumeLibrary, Resumes}
use Rattle.run_commands.specs.Run.{IsUnloaded}
use Rattle.run_commands.proofs.Resumption.{resumed_known, untouched}
use Rattle.run_commands.proofs.Running.{says_nothing, unloaded_quiet, unloaded_unrun}
use Rattle.run_commands.proofs.resuming.resume.Goals as goal

-- the library isn't loaded
-- ========================

pub returns-in-Err-clause-went : goal.returns-in-Err-clause-went
returns-in-Err-clause-went g c =
    let here = sight g.S.Sink.told g.P.Port.seen c.args.out.now c.args.ports.now in
    let comes = subst (λ (n : List ℕ). ResumeLibrary c.args.below.now (g.F.Folder.files c.args.folder.now) n (Err c.in-Err.ending)) c.word_at.ensures c.in-Err.ensures.comes in (
      [],
      inl (record { comes = comes; place_is = refl; untouched = untouched here here refl; files = c.in-Err.ensures.files }),
      says_nothing (g.E.Sink.told c.args.say.now) (g.E.Sink.count c.args.say.now),
    )

pub returns-in-Err-clause-flushed : goal.returns-in-Err-clause-flushed
returns-in-Err-clause-flushed g c = λ s. absurd (unloaded_unrun c.in-Err.ending c.in-Err.ensures.unloaded s)

pub returns-in-Err-clause-handed_on : goal.returns-in-Err-clause-handed_on
returns-in-Err-clause-handed_on g c = λ s. absurd (subst IsUnloaded s c.in-Err.ensures.unloaded)

pub returns-in-Err-clause-out_counts : goal.returns-in-Err-clause-out_counts
returns-in-Err-clause-out_counts g c =
    let count = g.S.Sink.count c.args.out.now in
    subst (λ (b : Bool). Counts count count b) (sym (unloaded_quiet c.in-Err.ending c.in-Err.ensures.unloaded)) refl

-- it is
-- =====

pub returns-clause-went : goal.returns-clause-went
returns-clause-went g c =
    let words = map string_bytes c.args.words.now in
    let snap = second_name words in
    let old = sight g.S.Sink.told g.P.Port.seen c.args.out.now c.args.ports.now in
    let new = sight g.S.Sink.told g.P.Port.seen c.resume_in.new.out c.resume_in.new.ports in
    let files = g.F.Folder.files c.args.folder.now in
    let behind = g.F.Folder.files c.resume_in.new.folder in
    let went = c.resume_in.ensures.went in
    let Known = ResumeLibrary c.args.below.now files (first_name words) in
    let comes = subst (λ (n : List ℕ). ResumeLibrary c.args.below.now files n (Ok c.in-Ok.library)) c.word_at.ensures c.in-Ok.ensures.comes in
    let here = subst (λ (f : Option FileOf). Resumes (λ (r : Result Shelf Ending). r ≡ Ok c.in-Ok.library) snap words c.args.save c.args.steps old new went.0 f behind c.resume_in.result.place c.resume_in.result.ending) c.in-Ok.ensures.files went.1 in (
      went.0,
      resumed_known snap words c.args.save c.args.steps old new went.0 files behind (λ (r : Result Shelf Ending). r ≡ Ok c.in-Ok.library) Known (λ r e. subst Known (sym e) comes) c.resume_in.result.place c.resume_in.result.ending here,
      went.2,
    )

pub returns-clause-folder_counts : goal.returns-clause-folder_counts
returns-clause-folder_counts g c =
    subst (λ (n : ℕ). Counts n (g.F.Folder.count c.resume_in.new.folder) (is_folder_fault c.resume_in.result.ending)) c.in-Ok.ensures.counts c.resume_in.ensures.folder_counts
