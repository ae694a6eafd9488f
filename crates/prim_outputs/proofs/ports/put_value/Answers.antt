use Rattle.std.proofs.Common.{ℤ, Option, Some, map, refl, sym, ap, ap₂, ◌∙◌, subst}
use Rattle.port_set.proofs.Counting.{counts_same}
use Rattle.prim_builtins.specs.py_primitives.Output.{PortOutcome}
use Rattle.prim_builtins.proofs.arena_objects_lemmas.RangeNumbers.{small_same}
use Rattle.prim_outputs.specs.PortCalls.{Failed, IsListed, IsPortOutcome, put_at}
use Rattle.prim_outputs.proofs.PortNumbers.{no_port_fault, refused_told, put_no_place, put_no_number, put_numbers}
use Rattle.prim_outputs.proofs.ports.put_value.Goals as goal

pub returns-in-Err-clause-told : goal.returns-in-Err-clause-told
returns-in-Err-clause-told g c contents tell fails =
    let texts = g.C.Constants.text_of c.args._consts.now in
    let tuples = g.C.Constants.items_of c.args._consts.now in
    let h = c.args.arena.now in
    refused_told texts tuples h (map g.P.Port.seen c.args.ports.now) contents tell c.args.i c.in-Err.fault _ c.in-Err.ensures.fault (put_no_place texts tuples h contents c.args.i c.args.n c.in-Err.ensures.other)

pub returns-in-Err-clause-known : goal.returns-in-Err-clause-known
returns-in-Err-clause-known g c = (c.in-Err.ensures.fault (g.C.Constants.text_of c.args._consts.now) (g.C.Constants.items_of c.args._consts.now)).0

pub returns-in-Err-clause-failed : goal.returns-in-Err-clause-failed
returns-in-Err-clause-failed g c e = absurd (no_port_fault c.args.arena.now c.args.i c.in-Err.fault c.in-Err.ensures.fault _ refl e)

pub returns-in-Ok-number_of-clause-told : goal.returns-in-Ok-number_of-clause-told
returns-in-Ok-number_of-clause-told g c contents tell fails =
    let texts = g.C.Constants.text_of c.args._consts.now in
    let tuples = g.C.Constants.items_of c.args._consts.now in
    let h = c.args.arena.now in
    let new = map g.P.Port.seen c.put_numbered.new.ports in
    let is = put_numbers texts tuples h contents c.args.i c.args.n _ _ c.in-Ok.ensures.number c.in-Ok-number_of.ensures.number in
    let kept = ap₂ (λ (y z : ℤ). put_at contents y z) (small_same _ c.in-Ok.ensures.small) (small_same _ c.in-Ok-number_of.ensures.small) in
    subst (λ (o : PortOutcome). IsPortOutcome texts tuples h new c.put_numbered.result o) (kept ∙ sym is)
    (c.put_numbered.ensures.told contents tell (λ e. ap (λ (o : PortOutcome). o.answer) (kept ∙ sym is) ∙ fails e) texts tuples h)

pub returns-in-Err-number_of-clause-told : goal.returns-in-Err-number_of-clause-told
returns-in-Err-number_of-clause-told g c contents tell fails =
    let texts = g.C.Constants.text_of c.args._consts.now in
    let tuples = g.C.Constants.items_of c.args._consts.now in
    let h = c.args.arena.now in
    refused_told texts tuples h (map g.P.Port.seen c.args.ports.now) contents tell c.args.n c.in-Err-number_of.fault _ c.in-Err-number_of.ensures.fault
    (put_no_number texts tuples h contents c.args.i c.args.n _ c.in-Ok.ensures.number c.in-Err-number_of.ensures.other)

pub returns-in-Err-number_of-clause-known : goal.returns-in-Err-number_of-clause-known
returns-in-Err-number_of-clause-known g c = (c.in-Err-number_of.ensures.fault (g.C.Constants.text_of c.args._consts.now) (g.C.Constants.items_of c.args._consts.now)).0

pub returns-in-Err-number_of-clause-failed : goal.returns-in-Err-number_of-clause-failed
returns-in-Err-number_of-clause-failed g c e = absurd (no_port_fault c.args.arena.now c.args.n c.in-Err-number_of.fault c.in-Err-number_of.ensures.fault _ refl e)

pub returns-in-Ok-number_of-clause-failed : goal.returns-in-Ok-number_of-clause-failed
returns-in-Ok-number_of-clause-failed g c e =
    let seen = g.P.Port.seen in
    subst (λ (z : Option ℤ). Failed z (map seen c.args.ports.now) (map seen c.put_numbered.new.ports))
    (ap (λ (z : ℤ). Some z) (small_same _ c.in-Ok.ensures.small) ∙ sym c.in-Ok.ensures.number)
    (c.put_numbered.ensures.failed e)

pub returns-in-Err-clause-listed : goal.returns-in-Err-clause-listed
returns-in-Err-clause-listed g c e = absurd (no_port_fault c.args.arena.now c.args.i c.in-Err.fault c.in-Err.ensures.fault _ refl e)

pub returns-in-Err-number_of-clause-listed : goal.returns-in-Err-number_of-clause-listed
returns-in-Err-number_of-clause-listed g c e = absurd (no_port_fault c.args.arena.now c.args.n c.in-Err-number_of.fault c.in-Err-number_of.ensures.fault _ refl e)

pub returns-in-Ok-number_of-clause-listed : goal.returns-in-Ok-number_of-clause-listed
returns-in-Ok-number_of-clause-listed g c e contents listed =
    let texts = g.C.Constants.text_of c.args._consts.now in
    let tuples = g.C.Constants.items_of c.args._consts.now in
    let is = put_numbers texts tuples c.args.arena.now contents c.args.i c.args.n _ _ c.in-Ok.ensures.number c.in-Ok-number_of.ensures.number in
    let kept = ap₂ (λ (y z : ℤ). put_at contents y z) (small_same _ c.in-Ok.ensures.small) (small_same _ c.in-Ok-number_of.ensures.small) in
    ap (λ (o : PortOutcome). o.answer) (is ∙ sym kept)
    ∙ c.put_numbered.ensures.listed e contents
    (subst (λ (z : Option ℤ). IsListed z contents) (c.in-Ok.ensures.number ∙ ap (λ (z : ℤ). Some z) (sym (small_same _ c.in-Ok.ensures.small))) listed)

pub returns-in-Err-clause-faults : goal.returns-in-Err-clause-faults
returns-in-Err-clause-faults g c = counts_same (map g.P.Port.seen c.args.ports.now)

pub returns-in-Err-number_of-clause-faults : goal.returns-in-Err-number_of-clause-faults
returns-in-Err-number_of-clause-faults g c = counts_same (map g.P.Port.seen c.args.ports.now)
