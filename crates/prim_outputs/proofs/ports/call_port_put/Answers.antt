use Rattle.std.proofs.Common.{◌≡◌, ◌<◌, ℤ, map, length, Option, refl, sym, ap, ◌∙◌, subst, arith}
use Rattle.mpy_base.specs.declared.builtin.Builtin.TheVariants as builtins
use Rattle.port_set.proofs.Counting.{counts_same}
use Rattle.prim_builtins.specs.py_primitives.Calls.{Exactly}
use Rattle.prim_builtins.specs.py_primitives.Output.{PortOutcome}
use Rattle.prim_builtins.specs.prim_faults.declared.fault.Fault.TheVariants as faults
use Rattle.prim_builtins.specs.arena_heap.declared.value.Value.TheVariants as values
use Rattle.prim_outputs.specs.PortCalls.{Failed, IsListed}
use Rattle.prim_outputs.proofs.PortArguments.{first_called, put_called}
use Rattle.prim_outputs.proofs.PortRefusals.{refusal_told, refusal_no_port}
use Rattle.prim_outputs.proofs.ports.call_port_put.Goals as goal

pub returns-in-Err-clause-told : goal.returns-in-Err-clause-told
returns-in-Err-clause-told g c contents tell fails =
    let texts = g.C.Constants.text_of c.args.consts.now in
    let tuples = g.C.Constants.items_of c.args.consts.now in
    refusal_told texts tuples c.args.arena.now c.args.args.now c.args.keys.now builtins.PortPut (Exactly 2) c.in-Err.fault c.in-Err.ensures.refused refl refl (map g.P.Port.seen c.args.ports.now) contents tell

pub returns-in-Err-clause-known : goal.returns-in-Err-clause-known
returns-in-Err-clause-known g c = c.in-Err.ensures.refused.known (g.C.Constants.text_of c.args.consts.now) (g.C.Constants.items_of c.args.consts.now) c.args.arena.now

pub returns-in-Err-clause-failed : goal.returns-in-Err-clause-failed
returns-in-Err-clause-failed g c e =
    let texts = g.C.Constants.text_of c.args.consts.now in
    let tuples = g.C.Constants.items_of c.args.consts.now in
    let same : c.in-Err.fault ≡ faults.PortFailed = cc in
    absurd (refusal_no_port texts tuples c.args.arena.now c.args.args.now c.args.keys.now builtins.PortPut (Exactly 2) c.in-Err.fault c.in-Err.ensures.refused refl refl same)

pub returns-in-Ok-clause-failed : goal.returns-in-Ok-clause-failed
returns-in-Ok-clause-failed g c e =
    let seen = g.P.Port.seen in
    let args = c.args.args.now in
    let some : 0 < length args = omega (arith, c.in-Ok.ensures.as_many) in
    subst (λ (z : Option ℤ). Failed z (map seen c.args.ports.now) (map seen c.put_value.new.ports)) (sym (first_called args values.None some)) (c.put_value.ensures.failed e)

pub returns-in-Err-clause-listed : goal.returns-in-Err-clause-listed
returns-in-Err-clause-listed g c e =
    let texts = g.C.Constants.text_of c.args.consts.now in
    let tuples = g.C.Constants.items_of c.args.consts.now in
    let same : c.in-Err.fault ≡ faults.PortFailed = cc in
    absurd (refusal_no_port texts tuples c.args.arena.now c.args.args.now c.args.keys.now builtins.PortPut (Exactly 2) c.in-Err.fault c.in-Err.ensures.refused refl refl same)

pub returns-in-Ok-clause-listed : goal.returns-in-Ok-clause-listed
returns-in-Ok-clause-listed g c e contents listed =
    let texts = g.C.Constants.text_of c.args.consts.now in
    let tuples = g.C.Constants.items_of c.args.consts.now in
    let args = c.args.args.now in
    let some : 0 < length args = omega (arith, c.in-Ok.ensures.as_many) in
    ap (λ (o : PortOutcome). o.answer) (put_called texts tuples c.args.arena.now contents args c.args.keys.now values.None c.in-Ok.ensures.as_many c.in-Ok.ensures.no_keywords)
    ∙ c.put_value.ensures.listed e contents (subst (λ (z : Option ℤ). IsListed z contents) (first_called args values.None some) listed)

pub returns-in-Err-clause-faults : goal.returns-in-Err-clause-faults
returns-in-Err-clause-faults g c = counts_same (map g.P.Port.seen c.args.ports.now)
