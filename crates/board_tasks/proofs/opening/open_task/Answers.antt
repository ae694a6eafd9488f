use Rattle.std.proofs.Common.{ap, sym, ◌∙◌}
use Rattle.board_tasks.specs.Opened.{number_of}
use Rattle.board_tasks.proofs.Starting.{opened}
use Rattle.board_tasks.proofs.opening.open_task.Goals as goal

pub returns : goal.returns
returns c =
    opened c.args.library.now c.args.task.now c.in-Some.number c.in_ok-vm.vm (ap (number_of c.args.library.now) (sym c.bytes.ensures) ∙ sym c.in-Some.ensures)
    c.in_ok-vm.ensures.vm c.in_ok-vm.ensures.paid c.in_ok-vm.ensures.starts
