use Rattle.std.proofs.Common.{sym, subst}
use Rattle.bc_machine.specs.py_effects.Ends.{Run}
use Rattle.bc_machine.specs.Machine.{steps, run_of}
use Rattle.vm_machine.specs.Machine.{machine_of}
use Rattle.snap_loading.specs.Resumed.{IsRestOf}
use Rattle.snap_loading.proofs.Resuming.{rest_of, whole}
use Rattle.snap_loading.proofs.resumed.resumes_law.Goals as goal

pub returns : goal.returns
returns c shelf vm other same p program first n m w front e =
    let r = same.renaming in
    let l = p.library in
    let state = c.step_law.ensures.steps r l m (machine_of p vm w) (machine_of p other w) (same.keeps p program) (same.states p program w) in
    let a = steps l m (machine_of p vm w) in
    let b = steps l m (machine_of p other w) in
    subst (λ (z : Run). IsRestOf front z (run_of b)) (sym (whole l c.runs_law.ensures c.output_law.ensures.steps p vm first n m w front e))
    (rest_of r front (run_of a) (run_of b) (c.states_law.ensures.world r a b state) (c.states_law.ensures.end r a b state) (c.states_law.ensures.report r a b state))
