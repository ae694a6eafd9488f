use Rattle.std.proofs.Common.{Some}
use Rattle.meant_commands.specs.run_commands.Ready.{GoLibrary}
use Rattle.tool_laws.proofs.Running.{alike, one_run}
use Rattle.tool_laws.proofs.runs.go_law.Goals as goal

pub returns : goal.returns
returns c = record {
  one_ending = λ level files name room steps old new_a new_b said_a said_b.
      one_run c.run_laws.ensures (GoLibrary level (Some files) name) (c.library_law.ensures.source level files name) room steps old new_a new_b said_a said_b;
  alike = λ level files name room steps old new_a new_b said_a said_b.
      alike c.run_laws.ensures (GoLibrary level (Some files) name) (c.library_law.ensures.source level files name) room steps old new_a new_b said_a said_b;
}
