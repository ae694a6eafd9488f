use Rattle.std.proofs.Common.{ℤ, Option, Some, map, refl, sym, ap, ◌∙◌, subst}
use Rattle.port_set.proofs.Counting.{counts_same}
use Rattle.prim_builtins.specs.py_primitives.Output.{PortOutcome}
use Rattle.prim_builtins.proofs.arena_objects_lemmas.RangeNumbers.{small_same}
use Rattle.prim_outputs.specs.PortCalls.{Failed, IsListed, IsPortOutcome, get_at}
use Rattle.prim_outputs.proofs.PortNumbers.{no_port_fault, refused_told, get_no_place, get_place}
use Rattle.prim_outputs.proofs.ports.get_value.Goals as goal

pub returns-in-Err-clause-told : goal.returns-in-Err-clause-told
returns-in-Err-clause-told g c contents tell fails =
    let texts = g.C.Constants.text_of c.args._consts.now in
    let tuples = g.C.Constants.items_of c.args._consts.now in
    let h = c.args.arena.now in
    refused_told texts tuples h (map g.P.Port.seen c.args.ports.now) contents tell c.args.i c.in-Err.fault _ c.in-Err.ensures.fault (get_no_place texts tuples h contents c.args.i c.in-Err.ensures.other)

pub returns-in-Err-clause-known : goal.returns-in-Err-clause-known
returns-in-Err-clause-known g c = (c.in-Err.ensures.fault (g.C.Constants.text_of c.args._consts.now) (g.C.Constants.items_of c.args._consts.now)).0

pub returns-in-Err-clause-failed : goal.returns-in-Err-clause-failed
returns-in-Err-clause-failed g c e = absurd (no_port_fault c.args.arena.now c.args.i c.in-Err.fault c.in-Err.ensures.fault _ refl e)

pub returns-in-Ok-clause-told : goal.returns-in-Ok-clause-told
returns-in-Ok-clause-told g c contents tell fails =
    let texts = g.C.Constants.text_of c.args._consts.now in
    let tuples = g.C.Constants.items_of c.args._consts.now in
    let h = c.args.arena.now in
    let new = map g.P.Port.seen c.get_numbered.new.ports in
    let is = ap (get_at contents) (small_same _ c.in-Ok.ensures.small) ∙ sym (get_place texts tuples h contents c.args.i _ c.in-Ok.ensures.number) in
    subst (λ (o : PortOutcome). IsPortOutcome texts tuples h new c.get_numbered.result o) is
    (c.get_numbered.ensures.told contents tell (λ e. ap (λ (o : PortOutcome). o.answer) is ∙ fails e) texts tuples h)

pub returns-in-Ok-clause-failed : goal.returns-in-Ok-clause-failed
returns-in-Ok-clause-failed g c e =
    let seen = g.P.Port.seen in
    subst (λ (z : Option ℤ). Failed z (map seen c.args.ports.now) (map seen c.get_numbered.new.ports))
    (ap (λ (z : ℤ). Some z) (small_same _ c.in-Ok.ensures.small) ∙ sym c.in-Ok.ensures.number)
    (c.get_numbered.ensures.failed e)

pub returns-in-Err-clause-listed : goal.returns-in-Err-clause-listed
returns-in-Err-clause-listed g c e = absurd (no_port_fault c.args.arena.now c.args.i c.in-Err.fault c.in-Err.ensures.fault _ refl e)

pub returns-in-Ok-clause-listed : goal.returns-in-Ok-clause-listed
returns-in-Ok-clause-listed g c e contents listed =
    let texts = g.C.Constants.text_of c.args._consts.now in
    let tuples = g.C.Constants.items_of c.args._consts.now in
    let is = ap (get_at contents) (small_same _ c.in-Ok.ensures.small) ∙ sym (get_place texts tuples c.args.arena.now contents c.args.i _ c.in-Ok.ensures.number) in
    ap (λ (o : PortOutcome). o.answer) (sym is)
    ∙ c.get_numbered.ensures.listed e contents
    (subst (λ (z : Option ℤ). IsListed z contents) (c.in-Ok.ensures.number ∙ ap (λ (z : ℤ). Some z) (sym (small_same _ c.in-Ok.ensures.small))) listed)

pub returns-in-Err-clause-faults : goal.returns-in-Err-clause-faults
returns-in-Err-clause-faults g c = counts_same (map g.P.Port.seen c.args.ports.now)
