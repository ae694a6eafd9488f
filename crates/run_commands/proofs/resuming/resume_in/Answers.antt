use Rattle.std.proofs.Common.{◌≡◌, ℕ, List, [], Option, Some, Result, Ok, map, string_bytes, refl, sym, subst, ap, ◌∙◌}
use Rattle.mpy_io.specs.Count.{Counts}
use Rattle.mpy_io.specs.Files.{FileOf}
use Rattle.bc_library.specs.Shelf.{Shelf}
use Rattle.library_runs.specs.Runs.{sight}
use Rattle.command_files.specs.Folder.{MayHold}
use Rattle.command_files.specs.mpy_endings.declared.ending.Ending.{Ending}
use Rattle.command_files.specs.mpy_endings.Ending.{IsRunStatus, is_folder_fault, is_out_fault, status_of}
use Rattle.command_files.specs.mpy_words.Words.{second_name}
use Rattle.run_commands.specs.Resume.{RefusesState, Resumes}
use Rattle.run_commands.proofs.Resumption.{is_refused, refused_quiet, refused_unrun, refused_unsaved, untouched}
use Rattle.run_commands.proofs.Running.{says_nothing}
use Rattle.run_commands.proofs.resuming.resume_in.Goals as goal

-- the file isn't read
-- ===================

pub returns-in-Err-clause-went : goal.returns-in-Err-clause-went
returns-in-Err-clause-went g c =
    let here = sight g.S.Sink.told g.P.Port.seen c.args.out.now c.args.ports.now in
    let words = map string_bytes c.args.words.now in
    let files = g.F.Folder.files c.args.folder.now in
    let refuses = subst (λ (n : List ℕ). RefusesState c.args.library.now files n c.in-Err.ending) c.word_at.ensures (c.in-Err.ensures.refused c.args.library.now) in (
      [],
      is_refused (second_name words) words c.args.save c.args.steps here here [] files (g.F.Folder.files c.read_snapshot.new.folder) c.args.library.now c.in-Err.ending c.not_resumed.result.ending c.not_resumed.result.place
          c.not_resumed.ensures.ending c.not_resumed.ensures.place refuses (untouched here here refl) c.in-Err.ensures.files,
      says_nothing (g.E.Sink.told c.args.say.now) (g.E.Sink.count c.args.say.now),
    )

pub returns-in-Err-clause-flushed : goal.returns-in-Err-clause-flushed
returns-in-Err-clause-flushed g c = λ s.
    absurd (refused_unrun c.args.library.now (g.F.Folder.files c.args.folder.now) c.word_at.result.now c.in-Err.ending (c.in-Err.ensures.refused c.args.library.now)
    (subst (λ (e : Ending). IsRunStatus (status_of e)) c.not_resumed.ensures.ending s))

pub returns-in-Err-clause-handed_on : goal.returns-in-Err-clause-handed_on
returns-in-Err-clause-handed_on g c = λ s.
    absurd (refused_unsaved c.args.library.now (g.F.Folder.files c.args.folder.now) c.word_at.result.now c.in-Err.ending (c.in-Err.ensures.refused c.args.library.now) (sym c.not_resumed.ensures.ending ∙ s))

pub returns-in-Err-clause-folder_counts : goal.returns-in-Err-clause-folder_counts
returns-in-Err-clause-folder_counts g c =
    subst (λ (e : Ending). Counts (g.F.Folder.count c.args.folder.now) (g.F.Folder.count c.read_snapshot.new.folder) (is_folder_fault e)) (sym c.not_resumed.ensures.ending) c.in-Err.ensures.counts

pub returns-in-Err-clause-out_counts : goal.returns-in-Err-clause-out_counts
returns-in-Err-clause-out_counts g c =
    let count = g.S.Sink.count c.args.out.now in
    let quiet = refused_quiet c.args.library.now (g.F.Folder.files c.args.folder.now) c.word_at.result.now c.in-Err.ending (c.in-Err.ensures.refused c.args.library.now) in
    subst (λ (e : Ending). Counts count count (is_out_fault e)) (sym c.not_resumed.ensures.ending) (rw quiet refl)

-- it is
-- =====

pub resume_bytes-requires-clause-read : goal.resume_bytes-requires-clause-read
resume_bytes-requires-clause-read g c =
    let snap = second_name (map string_bytes c.args.words.now) in
    let read = subst (λ (n : List ℕ). MayHold (g.F.Folder.files c.args.folder.now) n (Some c.in-Ok.bytes.items)) c.word_at.ensures c.in-Ok.ensures.read in
    let here = subst (λ (f : Option FileOf). MayHold f snap (Some c.in-Ok.bytes.items)) (sym c.in-Ok.ensures.files) read in
    subst (λ (bs : List ℕ). MayHold (g.F.Folder.files c.read_snapshot.new.folder) snap (Some bs)) (sym c.deref.ensures.value) here

pub returns-clause-went : goal.returns-clause-went
returns-clause-went g c =
    let words = map string_bytes c.args.words.now in
    let went = c.resume_bytes.ensures.went in (
      went.0,
      subst (λ (f : Option FileOf). Resumes (λ (r : Result Shelf Ending). r ≡ Ok c.args.library.now) (second_name words) words c.args.save c.args.steps
          (sight g.S.Sink.told g.P.Port.seen c.args.out.now c.args.ports.now) (sight g.S.Sink.told g.P.Port.seen c.resume_bytes.new.out c.resume_bytes.new.ports)
          went.0 f (g.F.Folder.files c.resume_bytes.new.folder) c.resume_bytes.result.place c.resume_bytes.result.ending) c.in-Ok.ensures.files went.1,
      went.2,
    )

pub returns-clause-folder_counts : goal.returns-clause-folder_counts
returns-clause-folder_counts g c =
    subst (λ (n : ℕ). Counts n (g.F.Folder.count c.resume_bytes.new.folder) (is_folder_fault c.resume_bytes.result.ending)) c.in-Ok.ensures.counts c.resume_bytes.ensures.folder_counts
