use Rattle.std.proofs.Common.{subst}
use Rattle.tr_source.specs.bc_scheme.bc_machine.Library.{Name}
use Rattle.tr_source.specs.bc_scheme.bc_machine.Machine.{run}
use Rattle.meant_runs.specs.Runs.{MeansRun}
use Rattle.meant_files.proofs.laws.sources_mean_law.Goals as goal

pub returns-clause-of_sources : goal.returns-clause-of_sources
returns-clause-of_sources c files base path level shelf p h is cells bytes ports n =
    let found = c.sources_law.ensures.program files base path level shelf h in
    let units = c.sources_law.ensures.units files base path level shelf h found.0 found.1 in
    record {
      program = found.0;
      is_program = found.1;
      means = subst (λ (name : Name). MeansRun found.0 cells bytes ports n (run p.library name cells bytes ports n)) found.1.main_name_is (c.runs_law.ensures.means shelf p found.0 is units cells bytes ports n);
    }

pub returns-clause-of_files : goal.returns-clause-of_files
returns-clause-of_files c sources files base path level shelf p h is cells bytes ports n =
    let found = c.files_law.ensures.program sources files base path level shelf h in
    let units = c.files_law.ensures.units sources files base path level shelf h found.0 found.1 in
    record {
      program = found.0;
      is_program = found.1;
      means = subst (λ (name : Name). MeansRun found.0 cells bytes ports n (run p.library name cells bytes ports n)) found.1.main_name_is (c.runs_law.ensures.means shelf p found.0 is units cells bytes ports n);
    }
