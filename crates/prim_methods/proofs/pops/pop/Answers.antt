use Rattle.std.proofs.Common.{◌<◌, ℤ, map, length, sym, ◌∙◌, subst}
use Rattle.mpy_base.specs.World.{items_at}
use Rattle.mpy_base.specs.Val.{Val, Int}
use Rattle.prim_assignments.specs.arena_heap.declared.value.Value.TheVariants as values
use Rattle.prim_builtins.specs.py_primitives.Outcome.{Outcome}
use Rattle.prim_builtins.specs.py_primitives.Methods.{pop_from}
use Rattle.prim_assignments.specs.prim_walks.Plain.{plain, plain_heap}
use Rattle.prim_assignments.specs.prim_faults.Outcomes.{IsOutcome}
use Rattle.prim_assignments.proofs.prim_faults_lemmas.Outcomes.{raises_outcome}
use Rattle.prim_builtins.proofs.Numbered.{numbered, unnumbered}
use Rattle.prim_builtins.proofs.SmallSame.{one_same}
use Rattle.prim_methods.proofs.MethodCalls.{none_are, some_are}
use Rattle.prim_methods.proofs.ItemPops.{popped_at, popped_last}
use Rattle.prim_methods.proofs.pops.pop.Goals as goal

pub number_of-requires : goal.number_of-requires
number_of-requires g c =
    let lt : 0 < length c.args.args.now = some_are c.is_empty.result (length c.args.args.now) c.is_empty.ensures c.if-is_empty.false in
    (c.requires.known 0 values.None lt).leads

pub returns-then-is_empty : goal.returns-then-is_empty
returns-then-is_empty g c =
    let texts = g.C.Constants.text_of c.args.consts.now in
    let tuples = g.C.Constants.items_of c.args.consts.now in
    let h = c.args.arena.now in
    let p = plain texts tuples in
    let l = c.args.l.cell in
    subst (λ (o : Outcome Val). IsOutcome texts tuples h c.pop_from.new.arena c.pop_from.result o)
    (sym (popped_last (plain_heap texts tuples h) l p (map p (items_at h l)) c.args.args.now (none_are c.is_empty.result (length c.args.args.now) c.is_empty.ensures c.if-is_empty.true))) c.pop_from.ensures

pub returns-in-Ok : goal.returns-in-Ok
returns-in-Ok g c =
    let texts = g.C.Constants.text_of c.args.consts.now in
    let tuples = g.C.Constants.items_of c.args.consts.now in
    let h = c.args.arena.now in
    let heap = plain_heap texts tuples h in
    let p = plain texts tuples in
    let l = c.args.l.cell in
    let vs = map p (items_at h l) in
    let args = c.args.args.now in
    let lt : 0 < length args = some_are c.is_empty.result (length c.args.args.now) c.is_empty.ensures c.if-is_empty.false in
    let next : ℤ → Outcome Val = λ z. pop_from heap l vs (Int z) in
    subst (λ (o : Outcome Val). IsOutcome texts tuples h c.pop_from-in-Ok.new.arena c.pop_from-in-Ok.result o)
    (sym (popped_at heap l p vs args values.None lt ∙ numbered texts tuples h _ next c.in-Ok.number c.in-Ok.ensures.number))
    (subst (λ (o : Outcome Val). IsOutcome texts tuples h c.pop_from-in-Ok.new.arena c.pop_from-in-Ok.result o) (one_same next c.in-Ok.number c.in-Ok.ensures.small) c.pop_from-in-Ok.ensures)

pub returns-in-Err : goal.returns-in-Err
returns-in-Err g c =
    let texts = g.C.Constants.text_of c.args.consts.now in
    let tuples = g.C.Constants.items_of c.args.consts.now in
    let h = c.args.arena.now in
    let heap = plain_heap texts tuples h in
    let p = plain texts tuples in
    let l = c.args.l.cell in
    let vs = map p (items_at h l) in
    let args = c.args.args.now in
    let lt : 0 < length args = some_are c.is_empty.result (length c.args.args.now) c.is_empty.ensures c.if-is_empty.false in
    let next : ℤ → Outcome Val = λ z. pop_from heap l vs (Int z) in
    raises_outcome texts tuples h c.in-Err.fault _ c.requires.all_told ((c.in-Err.ensures.fault texts tuples).0)
    (popped_at heap l p vs args values.None lt ∙ unnumbered texts tuples h _ next c.in-Err.fault c.in-Err.ensures.other c.in-Err.ensures.fault)
