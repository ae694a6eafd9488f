use Rattle.std.proofs.Common.{◌≡◌, List, map, refl, sym, ap, ◌∙◌, subst}
use Rattle.mpy_base.specs.declared.builtin.Builtin.TheVariants as builtins
use Rattle.port_set.proofs.Counting.{counts_same}
use Rattle.prim_builtins.specs.py_primitives.Calls.{Exactly}
use Rattle.prim_builtins.specs.py_primitives.Output.{PortOutcome}
use Rattle.prim_builtins.specs.prim_faults.declared.fault.Fault.TheVariants as faults
use Rattle.prim_builtins.specs.arena_heap.declared.value.Value.{Value}
use Rattle.prim_outputs.specs.PortCalls.{Failed, IsListed, called_number}
use Rattle.prim_outputs.proofs.PortArguments.{get_called}
use Rattle.prim_outputs.proofs.PortRefusals.{refusal_told, refusal_no_port}
use Rattle.prim_builtins.proofs.Calls.{one_known}
use Rattle.prim_outputs.proofs.ports.call_port_get.Goals as goal

pub get_value-requires : goal.get_value-requires
get_value-requires g c =
    let texts = g.C.Constants.text_of c.args.consts.now in
    let tuples = g.C.Constants.items_of c.args.consts.now in
    record { leads = (one_known texts tuples c.args.arena.now c.args.args.now c.in-Ok.i c.in-Ok.ensures.given c.requires.known).leads }

pub returns-in-Err-clause-told : goal.returns-in-Err-clause-told
returns-in-Err-clause-told g c contents tell fails =
    let texts = g.C.Constants.text_of c.args.consts.now in
    let tuples = g.C.Constants.items_of c.args.consts.now in
    refusal_told texts tuples c.args.arena.now c.args.args.now c.args.keys.now builtins.PortGet (Exactly 1) c.in-Err.fault c.in-Err.ensures.refused refl refl (map g.P.Port.seen c.args.ports.now) contents tell

pub returns-in-Err-clause-known : goal.returns-in-Err-clause-known
returns-in-Err-clause-known g c = c.in-Err.ensures.refused.known (g.C.Constants.text_of c.args.consts.now) (g.C.Constants.items_of c.args.consts.now) c.args.arena.now

pub returns-in-Err-clause-failed : goal.returns-in-Err-clause-failed
returns-in-Err-clause-failed g c e =
    let texts = g.C.Constants.text_of c.args.consts.now in
    let tuples = g.C.Constants.items_of c.args.consts.now in
    let same : c.in-Err.fault ≡ faults.PortFailed = cc in
    absurd (refusal_no_port texts tuples c.args.arena.now c.args.args.now c.args.keys.now builtins.PortGet (Exactly 1) c.in-Err.fault c.in-Err.ensures.refused refl refl same)

pub returns-in-Ok-clause-failed : goal.returns-in-Ok-clause-failed
returns-in-Ok-clause-failed g c e =
    let seen = g.P.Port.seen in
    subst (λ (vs : List Value). Failed (called_number vs) (map seen c.args.ports.now) (map seen c.get_value.new.ports)) (sym c.in-Ok.ensures.given) (c.get_value.ensures.failed e)

pub returns-in-Err-clause-listed : goal.returns-in-Err-clause-listed
returns-in-Err-clause-listed g c e =
    let texts = g.C.Constants.text_of c.args.consts.now in
    let tuples = g.C.Constants.items_of c.args.consts.now in
    let same : c.in-Err.fault ≡ faults.PortFailed = cc in
    absurd (refusal_no_port texts tuples c.args.arena.now c.args.args.now c.args.keys.now builtins.PortGet (Exactly 1) c.in-Err.fault c.in-Err.ensures.refused refl refl same)

pub returns-in-Ok-clause-listed : goal.returns-in-Ok-clause-listed
returns-in-Ok-clause-listed g c e contents listed =
    let texts = g.C.Constants.text_of c.args.consts.now in
    let tuples = g.C.Constants.items_of c.args.consts.now in
    ap (λ (o : PortOutcome). o.answer) (get_called texts tuples c.args.arena.now contents c.args.args.now c.args.keys.now c.in-Ok.i c.in-Ok.ensures.given c.in-Ok.ensures.no_keywords)
    ∙ c.get_value.ensures.listed e contents (subst (λ (vs : List Value). IsListed (called_number vs) contents) c.in-Ok.ensures.given listed)

pub returns-in-Err-clause-faults : goal.returns-in-Err-clause-faults
returns-in-Err-clause-faults g c = counts_same (map g.P.Port.seen c.args.ports.now)
