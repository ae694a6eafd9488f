use Rattle.std.proofs.Common.{◌≡◌, List, [], ◌++◌, ℕ, sym, ap, ◌∙◌}
use Rattle.std.proofs.lemmas.List.{append-nil}
use Rattle.mpy_base.specs.Val.{PlainWorld}
use Rattle.bc_machine.specs.Behind.{behind}
use Rattle.bc_machine.specs.py_effects.Ends.{new_world}
use Rattle.bc_machine.specs.Machine.{start}
use Rattle.vm_machine.specs.Machine.{machine_of}
use Rattle.snap_loading.specs.Resumed.{silent}
use Rattle.snap_loading.proofs.suspended.goes_on_law.Goals as goal

pub returns : goal.returns
returns c shelf main cells bytes ports n vm other s tabled names is saved to shown stands p program world e m =
    let first = c.first_law.ensures.first shelf main cells bytes ports n vm p is saved.goes_on to program in
    let same = c.loaded_law.ensures shelf vm other s tabled names is saved first shown stands in
    let put : PlainWorld → List ℕ → PlainWorld = λ w z. record w { output = z } in
    let back : behind world.output (silent world) ≡ world = ap (put world) (append-nil world.output) in
    c.resumes_law.ensures shelf vm other same p program (start p.library main (new_world cells bytes ports)) n m (silent world) world.output
    (ap (machine_of p vm) back ∙ sym e)
