use Rattle.vm_starting.proofs.Found.{code_for, module_of_row}
use Rattle.vm_starting.proofs.shown_program.code_law.Goals as goal

pub returns : goal.returns
returns c p i k row means is =
    let n = module_of_row p i k row is in
    code_for p i n.0 n.1 means c.offsets_law.ensures.each c.offsets_law.ensures.within c.rows_law.ensures.runs k row is
