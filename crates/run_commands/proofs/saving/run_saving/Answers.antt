use Rattle.std.proofs.Common.{◌≡◌, [], Bool, Option, Result, refl, sym, subst, ap}
use Rattle.std.specs.Prelude.{◌≢◌, IfOk, IfErr, MatchOption}
use Rattle.std.proofs.lemmas.Option.{slice_get_within}
use Rattle.mpy_io.specs.Count.{Counts}
use Rattle.bc_library.specs.mpy_tree.Raw.{Module}
use Rattle.bc_library.specs.Shelf.{Named}
use Rattle.command_files.specs.image_runs.Main.{IsMainAt}
use Rattle.library_runs.specs.declared.ending.RunEnd.{RunEnd}
use Rattle.library_runs.specs.declared.ending.RunEnd.TheVariants as ends
use Rattle.library_runs.specs.Runs.{IsOver, RunsAs, StandsAt, is_write_fault, sight, speaks}
use Rattle.library_runs.specs.vm_starting.declared.opening.Vm.{Vm}
use Rattle.command_files.specs.mpy_endings.declared.ending.Ending.{Ending}
use Rattle.run_commands.specs.declared.ready.Ready.{Ready}
use Rattle.run_commands.specs.Run.{IsUnloaded}
use Rattle.run_commands.specs.Save.{RunsSaving}
use Rattle.run_commands.proofs.Running.{same_sight, says_nothing}
use Rattle.run_commands.proofs.Suspending.{ended_so, not_begun, not_unsaved, saved_quiet, was_saved}
use Rattle.run_commands.proofs.saving.run_saving.Goals as goal

pub run_for-end-requires : goal.run_for-end-requires
run_for-end-requires g c =
    let first = subst (λ (r : Result Ready Ending). IfOk r (λ ready. (m : Module) × IsMainAt ready.main ready.place m ready.library)) c.in-Ok.is c.requires.there in
    record { there = slice_get_within c.in-Ok.ready.library.modules c.in-Ok.ready.place (record { name = c.in-Ok.ready.main; held = first.0 }) first.1 }

-- it took all its steps
-- ======================

pub returns-in-Some-clause-went : goal.returns-in-Some-clause-went
returns-in-Some-clause-went g c =
    let old = sight g.S.Sink.told g.P.Port.seen c.args.out.now c.args.ports.now in
    let new = sight g.S.Sink.told g.P.Port.seen c.run_for-end.new.out c.run_for-end.new.ports in
    let end = c.run_for-end.result.0 in
    let ready = c.in-Ok.ready in
    let first = subst (λ (r : Result Ready Ending). IfOk r (λ ready. (m : Module) × IsMainAt ready.main ready.place m ready.library)) c.in-Ok.is c.requires.there in
    let named : Named = record { name = ready.main; held = first.0 } in
    let left = subst (λ (o : Option Vm). MatchOption o (end ≢ ends.Limit) (λ vm. (end ≡ ends.Limit) × StandsAt ready.library ready.main c.args.room c.args.steps old new vm)) c.in-Some.is (c.run_for-end.ensures.leaves named first.1) in
    let Comes = λ (r : Result Ready Ending). r ≡ c.args.loaded in
    let ran = c.run_for-end.ensures.runs named first.1 in
    let runs = subst (λ (e : RunEnd). RunsAs ready.library ready.main c.args.room c.args.steps old new e ran.0) left.0 ran.1 in
    (ran.0, was_saved Comes c.args.room c.args.steps old new ran.0 c.args.snap.now (g.F.Folder.files c.args.folder.now) (g.F.Folder.files c.save_state.new.folder) ready (sym c.in-Ok.is) runs c.in-Some.vm left.1 c.save_state.result c.save_state.ensures.saves, ran.2)

pub returns-in-Some-clause-flushed : goal.returns-in-Some-clause-flushed
returns-in-Some-clause-flushed g c = λ s.
    let old = sight g.S.Sink.told g.P.Port.seen c.args.out.now c.args.ports.now in
    let new = sight g.S.Sink.told g.P.Port.seen c.run_for-end.new.out c.run_for-end.new.ports in
    let end = c.run_for-end.result.0 in
    let ready = c.in-Ok.ready in
    let first = subst (λ (r : Result Ready Ending). IfOk r (λ ready. (m : Module) × IsMainAt ready.main ready.place m ready.library)) c.in-Ok.is c.requires.there in
    let named : Named = record { name = ready.main; held = first.0 } in
    let left = subst (λ (o : Option Vm). MatchOption o (end ≢ ends.Limit) (λ vm. (end ≡ ends.Limit) × StandsAt ready.library ready.main c.args.room c.args.steps old new vm)) c.in-Some.is (c.run_for-end.ensures.leaves named first.1) in
    c.run_for-end.ensures.flushed (subst IsOver (sym left.0) tt)

pub returns-in-Some-clause-handed_on : goal.returns-in-Some-clause-handed_on
returns-in-Some-clause-handed_on g c = λ s.
    let old = sight g.S.Sink.told g.P.Port.seen c.args.out.now c.args.ports.now in
    let new = sight g.S.Sink.told g.P.Port.seen c.run_for-end.new.out c.run_for-end.new.ports in
    let end = c.run_for-end.result.0 in
    let ready = c.in-Ok.ready in
    let first = subst (λ (r : Result Ready Ending). IfOk r (λ ready. (m : Module) × IsMainAt ready.main ready.place m ready.library)) c.in-Ok.is c.requires.there in
    let named : Named = record { name = ready.main; held = first.0 } in
    let left = subst (λ (o : Option Vm). MatchOption o (end ≢ ends.Limit) (λ vm. (end ≡ ends.Limit) × StandsAt ready.library ready.main c.args.room c.args.steps old new vm)) c.in-Some.is (c.run_for-end.ensures.leaves named first.1) in
    c.run_for-end.ensures.flushed (subst IsOver (sym left.0) tt)

pub returns-in-Some-clause-silent : goal.returns-in-Some-clause-silent
returns-in-Some-clause-silent g c = λ s.
    let old = sight g.S.Sink.told g.P.Port.seen c.args.out.now c.args.ports.now in
    let new = sight g.S.Sink.told g.P.Port.seen c.run_for-end.new.out c.run_for-end.new.ports in
    let end = c.run_for-end.result.0 in
    let ready = c.in-Ok.ready in
    let first = subst (λ (r : Result Ready Ending). IfOk r (λ ready. (m : Module) × IsMainAt ready.main ready.place m ready.library)) c.in-Ok.is c.requires.there in
    let named : Named = record { name = ready.main; held = first.0 } in
    let left = subst (λ (o : Option Vm). MatchOption o (end ≢ ends.Limit) (λ vm. (end ≡ ends.Limit) × StandsAt ready.library ready.main c.args.room c.args.steps old new vm)) c.in-Some.is (c.run_for-end.ensures.leaves named first.1) in
    c.run_for-end.ensures.silent (ap speaks left.0)

pub returns-in-Some-clause-out_counts : goal.returns-in-Some-clause-out_counts
returns-in-Some-clause-out_counts g c =
    let old = sight g.S.Sink.told g.P.Port.seen c.args.out.now c.args.ports.now in
    let new = sight g.S.Sink.told g.P.Port.seen c.run_for-end.new.out c.run_for-end.new.ports in
    let end = c.run_for-end.result.0 in
    let ready = c.in-Ok.ready in
    let first = subst (λ (r : Result Ready Ending). IfOk r (λ ready. (m : Module) × IsMainAt ready.main ready.place m ready.library)) c.in-Ok.is c.requires.there in
    let named : Named = record { name = ready.main; held = first.0 } in
    let left = subst (λ (o : Option Vm). MatchOption o (end ≢ ends.Limit) (λ vm. (end ≡ ends.Limit) × StandsAt ready.library ready.main c.args.room c.args.steps old new vm)) c.in-Some.is (c.run_for-end.ensures.leaves named first.1) in
    let quiet = saved_quiet ready.library c.in-Some.vm c.args.steps c.args.snap.now (g.F.Folder.files c.args.folder.now) (g.F.Folder.files c.save_state.new.folder) c.save_state.result c.save_state.ensures.saves in
    subst (λ (b : Bool). Counts (g.S.Sink.count c.args.out.now) (g.S.Sink.count c.run_for-end.new.out) b) (sym quiet)
    (subst (λ (e : RunEnd). Counts (g.S.Sink.count c.args.out.now) (g.S.Sink.count c.run_for-end.new.out) (is_write_fault e)) left.0 c.run_for-end.ensures.counts)

-- it ended before
-- ===============

pub returns-in-Ok-clause-went : goal.returns-in-Ok-clause-went
returns-in-Ok-clause-went g c =
    let old = sight g.S.Sink.told g.P.Port.seen c.args.out.now c.args.ports.now in
    let new = sight g.S.Sink.told g.P.Port.seen c.run_for-end.new.out c.run_for-end.new.ports in
    let end = c.run_for-end.result.0 in
    let ready = c.in-Ok.ready in
    let first = subst (λ (r : Result Ready Ending). IfOk r (λ ready. (m : Module) × IsMainAt ready.main ready.place m ready.library)) c.in-Ok.is c.requires.there in
    let named : Named = record { name = ready.main; held = first.0 } in
    let files = g.F.Folder.files c.args.folder.now in
    let Comes = λ (r : Result Ready Ending). r ≡ c.args.loaded in
    let other = subst (λ (o : Option Vm). MatchOption o (end ≢ ends.Limit) (λ vm. (end ≡ ends.Limit) × StandsAt ready.library ready.main c.args.room c.args.steps old new vm)) c.in-None.is (c.run_for-end.ensures.leaves named first.1) in
    let ran = c.run_for-end.ensures.runs named first.1 in
    let none = λ (e : end ≡ ends.NoMemory). same_sight g.S.Sink.told g.P.Port.seen c.args.out.now c.run_for-end.new.out c.args.ports.now c.run_for-end.new.ports (c.run_for-end.ensures.none e).0 (c.run_for-end.ensures.none e).1 in
    let went = ended_so Comes c.args.room c.args.steps old new ran.0 c.args.snap.now files files ready (sym c.in-Ok.is) end other none ran.1 refl in
    (ran.0, subst (λ (x : Ending). RunsSaving Comes c.args.room c.args.steps old new ran.0 c.args.snap.now files files x) (sym c.ending_of.ensures) went, ran.2)

pub returns-in-Ok-clause-handed_on : goal.returns-in-Ok-clause-handed_on
returns-in-Ok-clause-handed_on g c = λ s. absurd (not_unsaved c.run_for-end.result.0 c.args.steps c.ending_of.result c.ending_of.ensures s)

-- it wasn't begun
-- ===============

pub returns-clause-handed_on : goal.returns-clause-handed_on
returns-clause-handed_on g c = λ s. absurd (subst IsUnloaded s (subst (λ (r : Result Ready Ending). IfErr r IsUnloaded) c.in-Err.is c.requires.unloaded))

pub returns-clause-went : goal.returns-clause-went
returns-clause-went g c =
    let here = sight g.S.Sink.told g.P.Port.seen c.args.out.now c.args.ports.now in
    let files = g.F.Folder.files c.args.folder.now in
    let Comes = λ (r : Result Ready Ending). r ≡ c.args.loaded in
    ([], not_begun Comes c.args.room c.args.steps here here [] c.args.snap.now files files c.in-Err.ending (subst (λ (r : Result Ready Ending). IfErr r IsUnloaded) c.in-Err.is c.requires.unloaded) (sym c.in-Err.is) refl refl refl, says_nothing (g.E.Sink.told c.args.say.now) (g.E.Sink.count c.args.say.now))
