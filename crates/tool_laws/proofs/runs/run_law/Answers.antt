use Rattle.std.proofs.Common.{Some}
use Rattle.meant_commands.specs.run_commands.Ready.{RunLibrary}
use Rattle.tool_laws.proofs.Running.{alike, one_run}
use Rattle.tool_laws.proofs.runs.run_law.Goals as goal

pub returns : goal.returns
returns c = record {
  one_ending = λ opened below main files name room steps old new_a new_b said_a said_b is.
      one_run c.run_laws.ensures (RunLibrary below main (Some files) name) (c.library_law.ensures.file opened below main files name is) room steps old new_a new_b said_a said_b;
  alike = λ opened below main files name room steps old new_a new_b said_a said_b is.
      alike c.run_laws.ensures (RunLibrary below main (Some files) name) (c.library_law.ensures.file opened below main files name is) room steps old new_a new_b said_a said_b;
}
