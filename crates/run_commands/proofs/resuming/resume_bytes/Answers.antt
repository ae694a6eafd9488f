use Rattle.std.proofs.Common.{[], map, string_bytes, refl, sym, subst, ◌∙◌, Bool}
use Rattle.mpy_io.specs.Count.{Counts}
use Rattle.library_runs.specs.Runs.{sight}
use Rattle.command_files.specs.mpy_endings.declared.ending.Ending.{Ending}
use Rattle.command_files.specs.mpy_endings.declared.ending.Ending.TheVariants.{NoMemory}
use Rattle.command_files.specs.mpy_endings.Ending.{IsRunStatus, is_folder_fault, is_out_fault, status_of}
use Rattle.command_files.specs.mpy_words.Words.{second_name}
use Rattle.run_commands.proofs.Resumption.{countable, has_resumed, is_refused, refused_quiet, refused_unrun, refused_unsaved, untouched}
use Rattle.run_commands.proofs.Running.{says_nothing}
use Rattle.run_commands.proofs.resuming.resume_bytes.Goals as goal

pub load_state-requires-clause-runnable : goal.load_state-requires-clause-runnable
load_state-requires-clause-runnable g c = record { distinct = c.requires.holds.distinct; are_modules = c.requires.holds.are_modules; are_verified = c.requires.holds.are_verified }

pub go_on-ending-requires-clause-countable : goal.go_on-ending-requires-clause-countable
go_on-ending-requires-clause-countable g c = countable c.args.library.now c.args.bytes.now c.in-Ok-load_state.vm c.args.steps c.in-Ok-load_state.ensures.loaded c.requires.steps

-- memory for the rows wasn't found
-- ================================

pub returns-in-Err-clause-went : goal.returns-in-Err-clause-went
returns-in-Err-clause-went g c =
    let here = sight g.S.Sink.told g.P.Port.seen c.args.out.now c.args.ports.now in
    let words = map string_bytes c.args.words.now in
    let files = g.F.Folder.files c.args.folder.now in (
      [],
      is_refused (second_name words) words c.args.save c.args.steps here here [] files files c.args.library.now NoMemory c.not_resumed.result.ending c.not_resumed.result.place
          c.not_resumed.ensures.ending c.not_resumed.ensures.place tt (untouched here here refl) refl,
      says_nothing (g.E.Sink.told c.args.say.now) (g.E.Sink.count c.args.say.now),
    )

pub returns-in-Err-clause-flushed : goal.returns-in-Err-clause-flushed
returns-in-Err-clause-flushed g c = λ s.
    absurd (refused_unrun c.args.library.now (g.F.Folder.files c.args.folder.now) [] NoMemory tt (subst (λ (e : Ending). IsRunStatus (status_of e)) c.not_resumed.ensures.ending s))

pub returns-in-Err-clause-handed_on : goal.returns-in-Err-clause-handed_on
returns-in-Err-clause-handed_on g c = λ s.
    absurd (refused_unsaved c.args.library.now (g.F.Folder.files c.args.folder.now) [] NoMemory tt (sym c.not_resumed.ensures.ending ∙ s))

pub returns-in-Err-clause-folder_counts : goal.returns-in-Err-clause-folder_counts
returns-in-Err-clause-folder_counts g c =
    let count = g.F.Folder.count c.args.folder.now in
    subst (λ (e : Ending). Counts count count (is_folder_fault e)) (sym c.not_resumed.ensures.ending) refl

pub returns-in-Err-clause-out_counts : goal.returns-in-Err-clause-out_counts
returns-in-Err-clause-out_counts g c =
    let count = g.S.Sink.count c.args.out.now in
    subst (λ (e : Ending). Counts count count (is_out_fault e)) (sym c.not_resumed.ensures.ending) refl

-- the bytes are refused
-- =====================

pub returns-in-Err-load_state-clause-went : goal.returns-in-Err-load_state-clause-went
returns-in-Err-load_state-clause-went g c =
    let here = sight g.S.Sink.told g.P.Port.seen c.args.out.now c.args.ports.now in
    let words = map string_bytes c.args.words.now in
    let files = g.F.Folder.files c.args.folder.now in (
      [],
      is_refused (second_name words) words c.args.save c.args.steps here here [] files files c.args.library.now c.in-Err-load_state.ending c.not_resumed-in-Err-load_state.result.ending c.not_resumed-in-Err-load_state.result.place
          c.not_resumed-in-Err-load_state.ensures.ending c.not_resumed-in-Err-load_state.ensures.place (c.in-Err-load_state.ensures.refused files (second_name words) c.requires.read) (untouched here here refl) refl,
      says_nothing (g.E.Sink.told c.args.say.now) (g.E.Sink.count c.args.say.now),
    )

pub returns-in-Err-load_state-clause-flushed : goal.returns-in-Err-load_state-clause-flushed
returns-in-Err-load_state-clause-flushed g c = λ s.
    let files = g.F.Folder.files c.args.folder.now in
    let snap = second_name (map string_bytes c.args.words.now) in
    absurd (refused_unrun c.args.library.now files snap c.in-Err-load_state.ending (c.in-Err-load_state.ensures.refused files snap c.requires.read)
    (subst (λ (e : Ending). IsRunStatus (status_of e)) c.not_resumed-in-Err-load_state.ensures.ending s))

pub returns-in-Err-load_state-clause-handed_on : goal.returns-in-Err-load_state-clause-handed_on
returns-in-Err-load_state-clause-handed_on g c = λ s.
    let files = g.F.Folder.files c.args.folder.now in
    let snap = second_name (map string_bytes c.args.words.now) in
    absurd (refused_unsaved c.args.library.now files snap c.in-Err-load_state.ending (c.in-Err-load_state.ensures.refused files snap c.requires.read) (sym c.not_resumed-in-Err-load_state.ensures.ending ∙ s))

pub returns-in-Err-load_state-clause-folder_counts : goal.returns-in-Err-load_state-clause-folder_counts
returns-in-Err-load_state-clause-folder_counts g c =
    let count = g.F.Folder.count c.args.folder.now in
    subst (λ (e : Ending). Counts count count (is_folder_fault e)) (sym c.not_resumed-in-Err-load_state.ensures.ending)
    (subst (λ (b : Bool). Counts count count b) (sym c.in-Err-load_state.ensures.read) refl)

pub returns-in-Err-load_state-clause-out_counts : goal.returns-in-Err-load_state-clause-out_counts
returns-in-Err-load_state-clause-out_counts g c =
    let count = g.S.Sink.count c.args.out.now in
    let files = g.F.Folder.files c.args.folder.now in
    let snap = second_name (map string_bytes c.args.words.now) in
    subst (λ (e : Ending). Counts count count (is_out_fault e)) (sym c.not_resumed-in-Err-load_state.ensures.ending)
    (subst (λ (b : Bool). Counts count count b) (sym (refused_quiet c.args.library.now files snap c.in-Err-load_state.ending (c.in-Err-load_state.ensures.refused files snap c.requires.read))) refl)

-- it went on
-- ==========

pub returns-clause-went : goal.returns-clause-went
returns-clause-went g c =
    let old = sight g.S.Sink.told g.P.Port.seen c.args.out.now c.args.ports.now in
    let new = sight g.S.Sink.told g.P.Port.seen c.go_on-ending.new.out c.go_on-ending.new.ports in
    let words = map string_bytes c.args.words.now in
    let went = c.go_on-ending.ensures.went in (
      went.0,
      has_resumed (second_name words) words c.args.save c.args.steps old new went.0 (g.F.Folder.files c.args.folder.now) (g.F.Folder.files c.go_on-ending.new.folder)
          c.args.library.now c.in-Ok-load_state.vm c.go_on-ending.result c.place_of-place.result c.place_of-place.ensures
          (record { bytes = c.args.bytes.now; holds = c.requires.read; loaded = c.in-Ok-load_state.ensures.loaded; is_vm = c.in-Ok-load_state.ensures.ready; tabled = c.in-Ok-load_state.ensures.tabled }) went.1,
      went.2,
    )

pub returns-clause-folder_counts : goal.returns-clause-folder_counts
returns-clause-folder_counts g c =
    subst (λ (b : Bool). Counts (g.F.Folder.count c.args.folder.now) (g.F.Folder.count c.go_on-ending.new.folder) b) c.go_on-ending.ensures.folder c.go_on-ending.ensures.unwritten
