use Rattle.meant_commands.specs.run_commands.Ready.{GoLibrary, RunLibrary}
use Rattle.meant_commands.specs.run_commands.Stress.{stress_files, stress_name}
use Rattle.meant_commands.specs.run_commands.Run.{EndsRun}
use Rattle.tool_laws.proofs.Based.{run_over_once}
use Rattle.tool_laws.proofs.Settling.{run_once}
use Rattle.tool_laws.proofs.Stressing.{one_stress}
use Rattle.tool_laws.proofs.statuses.one_run_status_law.Goals as goal

pub returns : goal.returns
returns c = record {
  go = λ level files name room steps printed ports states.
      run_once (GoLibrary level) room steps name files printed ports states c.run_laws.ensures (c.library_law.ensures.source level files name);
  run = λ opened below main files name room steps is printed ports states.
      run_once (RunLibrary below main) room steps name files printed ports states c.run_laws.ensures (c.library_law.ensures.file opened below main files name is);
  run_over = λ files base main name room steps.
      run_over_once c.image_laws.ensures files base (λ below. EndsRun (RunLibrary below main) room steps name)
      (λ opened below is printed ports states.
      run_once (RunLibrary below main) room steps name files printed ports states c.run_laws.ensures (c.library_law.ensures.file opened below main files name is));
  stress = λ seed count room steps. one_stress c.run_laws.ensures seed count (c.library_law.ensures.source 0 (stress_files seed count) stress_name) room steps;
}
