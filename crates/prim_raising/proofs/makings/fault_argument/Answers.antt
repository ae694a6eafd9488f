use Rattle.std.proofs.Common.{pos, ap, subst, sym, arith}
use Rattle.prim_types.specs.arena_heap.declared.value.Value.TheVariants as values
use Rattle.mpy_base.specs.Val.{Val}
use Rattle.prim_types.specs.py_primitives.Faults.{fault_value}
use Rattle.prim_types.specs.py_primitives.Outcome.{Outcome, fault_argument}
use Rattle.prim_types.specs.prim_walks.Plain.{plain_heap}
use Rattle.prim_types.specs.prim_faults.declared.fault.Fault.{Fault}
use Rattle.prim_types.specs.prim_faults.Faults.{plain_fault, IsKnownFault}
use Rattle.prim_types.specs.prim_faults.Outcomes.{IsOutcome}
use Rattle.prim_types.proofs.prim_faults_lemmas.Outcomes.{gives_outcome}
use Rattle.prim_raising.specs.Makings.{as_value}
use Rattle.prim_raising.proofs.Arguments.{argument_text}
use Rattle.prim_raising.proofs.makings.fault_argument.Goals as goal

pub returns-in-NoKey : goal.returns-in-NoKey
returns-in-NoKey g c =
    let texts = g.C.Constants.text_of c.args.consts.now in
    let tuples = g.C.Constants.items_of c.args.consts.now in
    let h = c.args.arena.now in
    let known = subst (λ (f : Fault). IsKnownFault texts tuples h.objects f) c.in-NoKey.is c.requires.known in
    gives_outcome texts tuples h c.in-NoKey.key _ c.requires.all_told known.leads known.told
    (ap (λ (f : Fault). fault_argument (plain_heap texts tuples h) (plain_fault texts tuples h f) (fault_value (plain_fault texts tuples h f))) c.in-NoKey.is)

pub returns-in-PortFailed : goal.returns-in-PortFailed
returns-in-PortFailed g c =
    let texts = g.C.Constants.text_of c.args.consts.now in
    let tuples = g.C.Constants.items_of c.args.consts.now in
    let h = c.args.arena.now in
    gives_outcome texts tuples h (values.Int (pos 5)) _ c.requires.all_told (record { meets = tt; small = (omega arith, omega arith) }) tt
    (ap (λ (f : Fault). fault_argument (plain_heap texts tuples h) (plain_fault texts tuples h f) (fault_value (plain_fault texts tuples h f))) c.in-PortFailed.is)

pub returns-in_default : goal.returns-in_default
returns-in_default g c =
    let texts = g.C.Constants.text_of c.args.consts.now in
    let tuples = g.C.Constants.items_of c.args.consts.now in
    let h = c.args.arena.now in
    subst (λ (o : Outcome Val). IsOutcome texts tuples h c.make_fault_text.new.arena (as_value (λ v. v) c.make_fault_text.result) o)
    (sym (argument_text texts tuples h c.args.fault c.in_default.not-NoKey c.in_default.not-PortFailed)) c.make_fault_text.ensures
