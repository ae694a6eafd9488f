use Rattle.std.proofs.Common.{◌≡◌, [], Result, refl, sym, subst}
use Rattle.std.specs.Prelude.{IfOk, IfErr}
use Rattle.std.proofs.lemmas.Option.{slice_get_within}
use Rattle.bc_library.specs.mpy_tree.Raw.{Module}
use Rattle.command_files.specs.image_runs.Main.{IsMainAt}
use Rattle.library_runs.specs.declared.ending.RunEnd.TheVariants as ends
use Rattle.library_runs.specs.Runs.{sight}
use Rattle.command_files.specs.mpy_endings.declared.ending.Ending.{Ending}
use Rattle.run_commands.specs.declared.ready.Ready.{Ready}
use Rattle.run_commands.specs.Run.{IsUnloaded, Runs}
use Rattle.run_commands.proofs.Running.{ran_library, not_loaded, run_over, same_sight, says_nothing, unloaded_unrun}
use Rattle.run_commands.proofs.run.run_loaded.Goals as goal

pub returns-in-Ok-clause-went : goal.returns-in-Ok-clause-went
returns-in-Ok-clause-went g c =
    let old = sight g.S.Sink.told g.P.Port.seen c.args.out.now c.args.ports.now in
    let new = sight g.S.Sink.told g.P.Port.seen c.run_library-end.new.out c.run_library-end.new.ports in
    let end = c.run_library-end.result in
    let Comes = λ (r : Result Ready Ending). r ≡ c.args.loaded in
    let first = subst (λ (r : Result Ready Ending). IfOk r (λ ready. (m : Module) × IsMainAt ready.main ready.place m ready.library)) c.in-Ok.is c.requires.there in
    let ran = c.run_library-end.ensures.runs (record { name = c.in-Ok.ready.main; held = first.0 }) first.1 in
    let none = λ (e : end ≡ ends.NoMemory). same_sight g.S.Sink.told g.P.Port.seen c.args.out.now c.run_library-end.new.out c.args.ports.now c.run_library-end.new.ports (c.run_library-end.ensures.none e).0 (c.run_library-end.ensures.none e).1 in
    let went = ran_library Comes c.args.room c.args.steps old new ran.0 c.in-Ok.ready end (sym c.in-Ok.is) none ran.1 in
    (ran.0, subst (λ (x : Ending). Runs Comes c.args.room c.args.steps old new ran.0 x) (sym c.ending_of.ensures) went, ran.2)

pub returns-in-Err-clause-went : goal.returns-in-Err-clause-went
returns-in-Err-clause-went g c =
    let here = sight g.S.Sink.told g.P.Port.seen c.args.out.now c.args.ports.now in
    let Comes = λ (r : Result Ready Ending). r ≡ c.args.loaded in
    ([], not_loaded Comes c.args.room c.args.steps here here [] c.in-Err.ending (subst (λ (r : Result Ready Ending). IfErr r IsUnloaded) c.in-Err.is c.requires.unloaded) (sym c.in-Err.is) refl refl, says_nothing (g.E.Sink.told c.args.say.now) (g.E.Sink.count c.args.say.now))

pub run_library-end-requires : goal.run_library-end-requires
run_library-end-requires g c =
    let first = subst (λ (r : Result Ready Ending). IfOk r (λ ready. (m : Module) × IsMainAt ready.main ready.place m ready.library)) c.in-Ok.is c.requires.there in
    record { there = slice_get_within c.in-Ok.ready.library.modules c.in-Ok.ready.place (record { name = c.in-Ok.ready.main; held = first.0 }) first.1 }

pub returns-in-Ok-clause-flushed : goal.returns-in-Ok-clause-flushed
returns-in-Ok-clause-flushed g c = λ s. c.run_library-end.ensures.flushed (run_over c.run_library-end.result c.args.steps c.ending_of.result c.ending_of.ensures s)

pub returns-in-Err-clause-flushed : goal.returns-in-Err-clause-flushed
returns-in-Err-clause-flushed g c = λ s.
    absurd (unloaded_unrun c.in-Err.ending (subst (λ (r : Result Ready Ending). IfErr r IsUnloaded) c.in-Err.is c.requires.unloaded) s)
