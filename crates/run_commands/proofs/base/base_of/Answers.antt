use Rattle.run_commands.proofs.Bases.{base_utf8}
use Rattle.run_commands.proofs.base.base_of.Goals as goal

pub returns-clause-utf8 : goal.returns-clause-utf8
returns-clause-utf8 c u = base_utf8 c.args.name.now c.base_length.result c.base_length.ensures.within c.base_length.ensures.slash u
