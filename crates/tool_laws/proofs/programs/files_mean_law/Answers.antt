use Rattle.tool_laws.proofs.FilesMean.{OfFiles, run_means, run_to_means}
use Rattle.tool_laws.proofs.programs.files_mean_law.Goals as goal

pub returns : goal.returns
returns c =
    let o : OfFiles = record { program = c.built_program_law.ensures.program; holds = c.built_program_law.ensures.holds } in record {
      run = λ below main room steps name old new ports_old ports_new status ended.
          run_means o below main room steps name old new ports_old ports_new status (c.run_means_law.ensures.run below main room steps name old new ports_old ports_new status ended) ended;
      saving = λ below main snap room steps name old new ports_old ports_new status ended.
          run_to_means o below main room steps name old new ports_old ports_new status snap (c.run_means_law.ensures.saving below main snap room steps name old new ports_old ports_new status ended) ended;
    }
