use Rattle.std.proofs.Common.{List, ℕ, Some, Ok, Err, subst}
use Rattle.mpy_io.specs.Memory.{file_of}
use Rattle.run_commands.specs.Ready.{GoLibrary}
use Rattle.run_commands.specs.Stress.{stress_name}
use Rattle.run_commands.proofs.making.made_ready.Goals as goal

pub returns-in-Ok-ready_of-clause-comes : goal.returns-in-Ok-ready_of-clause-comes
returns-in-Ok-ready_of-clause-comes c =
    subst (λ (files : List (List ℕ × List ℕ)). GoLibrary 0 (Some (file_of files)) stress_name (Ok c.in-Ok-ready_of.ready)) c.in-Ok.ensures.files c.in-Ok-ready_of.ensures.comes

pub returns-in-Err-ready_of-clause-refused : goal.returns-in-Err-ready_of-clause-refused
returns-in-Err-ready_of-clause-refused c =
    subst (λ (files : List (List ℕ × List ℕ)). GoLibrary 0 (Some (file_of files)) stress_name (Err c.in-Err-ready_of.ending)) c.in-Ok.ensures.files c.in-Err-ready_of.ensures.comes
