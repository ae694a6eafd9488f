use Rattle.std.proofs.Common.{◌∙◌, w32, ◌≡◌, ℤ, map, Some, Err, sym, subst}
use Rattle.std.proofs.lemmas.Int.{to_z-of_z}
use Rattle.port_set.proofs.Counting.{counts_same}
use Rattle.prim_builtins.specs.py_primitives.Outcome.{Raises}
use Rattle.prim_builtins.specs.py_primitives.Faults.{PortFailed}
use Rattle.prim_builtins.specs.prim_faults.declared.fault.Fault.TheVariants as faults
use Rattle.prim_builtins.specs.prim_faults.declared.stop.Stop.TheVariants as stops
use Rattle.prim_outputs.specs.PortCalls.{DoesPort, Failed, IsListed, get_at}
use Rattle.prim_outputs.proofs.ports.get_numbered.Goals as goal

pub returns-in-Some-clause-told : goal.returns-in-Some-clause-told
returns-in-Some-clause-told g c contents tell =
    let seen = g.P.Port.seen in
    let new = map seen c.get_answer.new.ports in
    let result = c.get_answer.result in
    subst (λ (z : ℤ). (result ≡ Err (stops.Raises faults.PortFailed) → (get_at contents z).answer ≡ Err (Raises PortFailed)) → DoesPort new result (get_at contents z))
    (sym c.in-Some.ensures ∙ to_z-of_z w32 c.args.i c.ranges.i)
    (c.get_answer.ensures.told contents tell)

pub returns-in-Some-clause-failed : goal.returns-in-Some-clause-failed
returns-in-Some-clause-failed g c e =
    let seen = g.P.Port.seen in
    subst (λ (z : ℤ). Failed (Some z) (map seen c.args.ports.now) (map seen c.get_answer.new.ports))
    (sym c.in-Some.ensures ∙ to_z-of_z w32 c.args.i c.ranges.i)
    (c.get_answer.ensures.failed e)

pub returns-in-Some-clause-listed : goal.returns-in-Some-clause-listed
returns-in-Some-clause-listed g c e contents =
    subst (λ (z : ℤ). IsListed (Some z) contents → (get_at contents z).answer ≡ Err (Raises PortFailed))
    (sym c.in-Some.ensures ∙ to_z-of_z w32 c.args.i c.ranges.i)
    (c.get_answer.ensures.listed e contents)

pub returns-in-None-clause-faults : goal.returns-in-None-clause-faults
returns-in-None-clause-faults g c = counts_same (map g.P.Port.seen c.args.ports.now)
