use Rattle.std.proofs.Common.{sym, ◌∙◌}
use Rattle.vm_machine.proofs.Standing as fetching
use Rattle.vm_machine.proofs.at_once.run_here.Goals as goal

pub running-module_number-requires : goal.running-module_number-requires
running-module_number-requires c =
    let p = c.program_law.ensures.exists c.args.library.now c.requires.vm.runnable in
    fetching.some_calls c.args.library.now c.args.vm.now c.requires.vm c.requires.goes_on p.0 p.1

pub run_in-requires-clause-kept : goal.run_in-requires-clause-kept
run_in-requires-clause-kept c offset fetched e =
    c.requires.kept c.running-module_number.result.0 c.running-module_number.result.1 offset fetched (sym (c.in-Some.ensures offset) ∙ e)
