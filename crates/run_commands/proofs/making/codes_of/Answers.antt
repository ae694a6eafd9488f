use Rattle.std.proofs.Common.{sym}
use Rattle.run_commands.proofs.making.codes_of.Goals as goal

pub returns : goal.returns
returns c = record { main = c.in-Some.main.now; is_main = sym c.in-Some.ensures; number_is = c.codes.ensures }
