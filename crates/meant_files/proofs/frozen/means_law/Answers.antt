use Rattle.std.proofs.Common.{subst}
use Rattle.tr_source.specs.bc_scheme.bc_machine.Library.{Name}
use Rattle.tr_source.specs.bc_scheme.bc_machine.Machine.{run}
use Rattle.meant_runs.specs.Runs.{MeansRun}
use Rattle.meant_files.proofs.frozen.means_law.Goals as goal

pub returns : goal.returns
returns c all main shelf place p h found is cells bytes ports n =
    let its = c.images_law.ensures.program all main shelf place h found in
    let units = c.images_law.ensures.units all main shelf h its.0 its.1 in
    record {
      program = its.0;
      is_program = its.1;
      means = subst (λ (name : Name). MeansRun its.0 cells bytes ports n (run p.library name cells bytes ports n)) its.1.main_name_is (c.runs_law.ensures.means shelf p its.0 is units cells bytes ports n);
    }
