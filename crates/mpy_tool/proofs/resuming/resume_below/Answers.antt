use Rattle.std.proofs.Common.{[], refl, subst, inl}
use Rattle.image_open.specs.image_grammar.bc_library.Shelf.{Shelf}
use Rattle.mpy_words.specs.Words.{first_name, second_name}
use Rattle.mpy_endings.specs.declared.ending.Ending.TheVariants.{NoMemory}
use Rattle.mpy_endings.proofs.Statuses.{not_nine}
use Rattle.meant_commands.specs.run_commands.library_runs.Runs.{sight}
use Rattle.meant_commands.specs.run_commands.Resume.{ResumeLibrary, Resumes, not_read}
use Rattle.meant_commands.proofs.run_commands_lemmas.Resumption.{untouched}
use Rattle.meant_commands.proofs.run_commands_lemmas.Running.{says_nothing}
use Rattle.mpy_tool.specs.Call.{texts}
use Rattle.mpy_tool.proofs.Under.{is_opened}
use Rattle.mpy_tool.proofs.resuming.resume_below.Goals as goal

pub or_nothing-requires : goal.or_nothing-requires
or_nothing-requires g c = is_opened c.args.below c.args.order.base c.requires.below

pub returns-in-Ok-clause-went : goal.returns-in-Ok-clause-went
returns-in-Ok-clause-went g c =
    let words = texts c.args.words.now in
    let files = g.F.Folder.files c.args.outside.now.folder in
    let went = c.resume.ensures.went in (
      went.0,
      subst (λ (below : Shelf). Resumes (ResumeLibrary below files (first_name words)) (second_name words) words c.args.order.save c.args.order.steps
          (sight g.S.Sink.told g.P.Port.seen c.args.outside.now.out c.args.outside.now.ports) (sight g.S.Sink.told g.P.Port.seen c.resume.new.out c.resume.new.ports)
          went.0 files (g.F.Folder.files c.resume.new.folder) c.resume.result.place c.resume.result.ending) c.in-Ok.ensures.below went.1,
      went.2,
    )

pub returns-in-Err-clause-went : goal.returns-in-Err-clause-went
returns-in-Err-clause-went g c =
    let here = sight g.S.Sink.told g.P.Port.seen c.args.outside.now.out c.args.outside.now.ports in (
      [],
      inl (record { comes = not_read NoMemory tt refl; place_is = refl; untouched = untouched here here refl; files = refl }),
      says_nothing (g.E.Sink.told c.args.outside.now.say) (g.E.Sink.count c.args.outside.now.say),
    )

pub returns-in-Err-clause-flushed : goal.returns-in-Err-clause-flushed
returns-in-Err-clause-flushed g c = λ s. absurd (not_nine s)
