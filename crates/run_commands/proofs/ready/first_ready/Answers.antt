use Rattle.std.proofs.Common.{Result, subst}
use Rattle.std.specs.Prelude.{IfOk}
use Rattle.bc_library.specs.mpy_tree.Raw.{Module}
use Rattle.bc_library.specs.Shelf.{Shelf}
use Rattle.library_files.specs.Ends.{BeginsWith}
use Rattle.command_files.specs.mpy_endings.declared.ending.Ending.{Ending}
use Rattle.run_commands.proofs.ready.first_ready.Goals as goal

pub returns-in-Ok-clause-there : goal.returns-in-Ok-clause-there
returns-in-Ok-clause-there c =
    let first = subst (λ (r : Result Shelf Ending). IfOk r (λ library. (m : Module) × BeginsWith m library)) c.in-Ok.is c.requires.begins in
    (first.0, rw c.requires.name first.1)
