use Rattle.std.proofs.Common.{◌≡◌, ℕ, List, inl, inr, Bool, Option, Some, None, map, string_bytes, refl, sym, subst, ap, ◌∙◌}
use Rattle.std.specs.Prelude.{◌≢◌, MatchOption}
use Rattle.mpy_io.specs.Count.{Counts}
use Rattle.mpy_io.specs.Files.{FileOf}
use Rattle.library_runs.specs.declared.ending.RunEnd.{RunEnd}
use Rattle.library_runs.specs.declared.ending.RunEnd.TheVariants as ends
use Rattle.library_runs.specs.Runs.{GoesOn, IsOver, StandsOn, is_write_fault, sight, speaks}
use Rattle.library_runs.specs.vm_starting.declared.opening.Vm.{Vm}
use Rattle.command_files.specs.mpy_words.Words.{saved_name}
use Rattle.run_commands.specs.Resume.{WentOn}
use Rattle.run_commands.proofs.Suspending.{not_unsaved, not_unwritten, saved_quiet, saved_reads}
use Rattle.run_commands.proofs.Running.{out_counted, reads_nothing, run_over, speaks_alike}
use Rattle.run_commands.proofs.resuming.go_on.Goals as goal

-- no file to save to is given
-- ===========================

pub returns-in_default-clause-went : goal.returns-in_default-clause-went
returns-in_default-clause-went g c =
    let old = sight g.S.Sink.told g.P.Port.seen c.args.out.now c.args.ports.now in
    let new = sight g.S.Sink.told g.P.Port.seen c.run_on-end.new.out c.run_on-end.new.ports in
    let files = g.F.Folder.files c.args.folder.now in
    let words = map string_bytes c.args.words.now in
    let ran = c.run_on-end.ensures.runs in (
      ran.0,
      subst (λ (save : Option ℕ). WentOn c.args.library.now c.args.vm c.args.steps old new ran.0 files files (saved_name words save) c.ending_of.result) (sym c.in_default.is)
          (record { end = c.run_on-end.result.0; went = ran.1; is = c.ending_of.ensures; files = refl }),
      ran.2,
    )

pub returns-in_default-clause-flushed : goal.returns-in_default-clause-flushed
returns-in_default-clause-flushed g c = λ s. c.run_on-end.ensures.flushed (run_over c.run_on-end.result.0 c.args.steps c.ending_of.result c.ending_of.ensures s)

pub returns-in_default-clause-handed_on : goal.returns-in_default-clause-handed_on
returns-in_default-clause-handed_on g c = λ s. absurd (not_unsaved c.run_on-end.result.0 c.args.steps c.ending_of.result c.ending_of.ensures s)

-- it took all its steps
-- =====================

pub returns-in-Some-left-clause-went : goal.returns-in-Some-left-clause-went
returns-in-Some-left-clause-went g c =
    let old = sight g.S.Sink.told g.P.Port.seen c.args.out.now c.args.ports.now in
    let new = sight g.S.Sink.told g.P.Port.seen c.run_on-end.new.out c.run_on-end.new.ports in
    let end = c.run_on-end.result.0 in
    let words = map string_bytes c.args.words.now in
    let ran = c.run_on-end.ensures.runs in
    let left = subst (λ (o : Option Vm). MatchOption o (end ≢ ends.Limit) (λ vm. (end ≡ ends.Limit) × StandsOn c.args.library.now c.args.vm c.args.steps old new vm)) c.in-Some-left.is c.run_on-end.ensures.leaves in
    let runs = subst (λ (e : RunEnd). GoesOn c.args.library.now c.args.vm c.args.steps old new e ran.0) left.0 ran.1 in
    let saved = ap (λ (s : List ℕ). Some s) c.word_at.ensures ∙ ap (saved_name words) (sym c.in-Some.is) in (
      ran.0,
      subst (λ (s : Option (List ℕ)). WentOn c.args.library.now c.args.vm c.args.steps old new ran.0 (g.F.Folder.files c.args.folder.now) (g.F.Folder.files c.save_state.new.folder) s c.save_state.result) saved
          (inr (record { went = runs; left = c.in-Some-left.vm; stands = left.1; saves = c.save_state.ensures.saves })),
      ran.2,
    )

pub returns-in-Some-left-clause-flushed : goal.returns-in-Some-left-clause-flushed
returns-in-Some-left-clause-flushed g c = λ s.
    let old = sight g.S.Sink.told g.P.Port.seen c.args.out.now c.args.ports.now in
    let new = sight g.S.Sink.told g.P.Port.seen c.run_on-end.new.out c.run_on-end.new.ports in
    let end = c.run_on-end.result.0 in
    let left = subst (λ (o : Option Vm). MatchOption o (end ≢ ends.Limit) (λ vm. (end ≡ ends.Limit) × StandsOn c.args.library.now c.args.vm c.args.steps old new vm)) c.in-Some-left.is c.run_on-end.ensures.leaves in
    c.run_on-end.ensures.flushed (subst IsOver (sym left.0) tt)

pub returns-in-Some-left-clause-handed_on : goal.returns-in-Some-left-clause-handed_on
returns-in-Some-left-clause-handed_on g c = λ s.
    let old = sight g.S.Sink.told g.P.Port.seen c.args.out.now c.args.ports.now in
    let new = sight g.S.Sink.told g.P.Port.seen c.run_on-end.new.out c.run_on-end.new.ports in
    let end = c.run_on-end.result.0 in
    let left = subst (λ (o : Option Vm). MatchOption o (end ≢ ends.Limit) (λ vm. (end ≡ ends.Limit) × StandsOn c.args.library.now c.args.vm c.args.steps old new vm)) c.in-Some-left.is c.run_on-end.ensures.leaves in
    c.run_on-end.ensures.flushed (subst IsOver (sym left.0) tt)

pub returns-in-Some-left-clause-silent : goal.returns-in-Some-left-clause-silent
returns-in-Some-left-clause-silent g c = λ s.
    let old = sight g.S.Sink.told g.P.Port.seen c.args.out.now c.args.ports.now in
    let new = sight g.S.Sink.told g.P.Port.seen c.run_on-end.new.out c.run_on-end.new.ports in
    let end = c.run_on-end.result.0 in
    let left = subst (λ (o : Option Vm). MatchOption o (end ≢ ends.Limit) (λ vm. (end ≡ ends.Limit) × StandsOn c.args.library.now c.args.vm c.args.steps old new vm)) c.in-Some-left.is c.run_on-end.ensures.leaves in
    c.run_on-end.ensures.silent (ap speaks left.0)

pub returns-in-Some-left-clause-out_counts : goal.returns-in-Some-left-clause-out_counts
returns-in-Some-left-clause-out_counts g c =
    let old = sight g.S.Sink.told g.P.Port.seen c.args.out.now c.args.ports.now in
    let new = sight g.S.Sink.told g.P.Port.seen c.run_on-end.new.out c.run_on-end.new.ports in
    let end = c.run_on-end.result.0 in
    let left = subst (λ (o : Option Vm). MatchOption o (end ≢ ends.Limit) (λ vm. (end ≡ ends.Limit) × StandsOn c.args.library.now c.args.vm c.args.steps old new vm)) c.in-Some-left.is c.run_on-end.ensures.leaves in
    let quiet = saved_quiet c.args.library.now c.in-Some-left.vm c.args.steps c.word_at.result.now (g.F.Folder.files c.args.folder.now) (g.F.Folder.files c.save_state.new.folder) c.save_state.result c.save_state.ensures.saves in
    subst (λ (b : Bool). Counts (g.S.Sink.count c.args.out.now) (g.S.Sink.count c.run_on-end.new.out) b) (sym quiet)
    (subst (λ (e : RunEnd). Counts (g.S.Sink.count c.args.out.now) (g.S.Sink.count c.run_on-end.new.out) (is_write_fault e)) left.0 c.run_on-end.ensures.counts)

-- it ended before
-- ===============

pub returns-in-None-clause-went : goal.returns-in-None-clause-went
returns-in-None-clause-went g c =
    let old = sight g.S.Sink.told g.P.Port.seen c.args.out.now c.args.ports.now in
    let new = sight g.S.Sink.told g.P.Port.seen c.run_on-end.new.out c.run_on-end.new.ports in
    let files = g.F.Folder.files c.args.folder.now in
    let end = c.run_on-end.result.0 in
    let words = map string_bytes c.args.words.now in
    let ran = c.run_on-end.ensures.runs in
    let other = subst (λ (o : Option Vm). MatchOption o (end ≢ ends.Limit) (λ vm. (end ≡ ends.Limit) × StandsOn c.args.library.now c.args.vm c.args.steps old new vm)) c.in-None.is c.run_on-end.ensures.leaves in (
      ran.0,
      subst (λ (save : Option ℕ). WentOn c.args.library.now c.args.vm c.args.steps old new ran.0 files files (saved_name words save) c.ending_of-in-None.result) (sym c.in-Some.is)
          (inl (record { end = end; went = ran.1; is = c.ending_of-in-None.ensures; files = refl }, other)),
      ran.2,
    )

pub returns-in-None-clause-handed_on : goal.returns-in-None-clause-handed_on
returns-in-None-clause-handed_on g c = λ s. absurd (not_unsaved c.run_on-end.result.0 c.args.steps c.ending_of-in-None.result c.ending_of-in-None.ensures s)
