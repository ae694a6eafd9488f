use Rattle.meant_commands.proofs.GoMeaning.{OfSources, go_means}
use Rattle.meant_commands.proofs.meant.go_means_law.Goals as goal

pub returns : goal.returns
returns c level room steps name old new ports_old ports_new status ended =
    let o : OfSources = record { program = c.sources_law.ensures.program; units = c.sources_law.ensures.units } in
    go_means o level room steps name old new ports_old ports_new status ended (c.run_means_law.ensures.source level room steps name old new ports_old ports_new status ended)
