use Rattle.std.proofs.Common.{ℤ, sym, ◌∙◌, subst}
use Rattle.prim_operators.specs.mpy_base.Val.{Val}
use Rattle.prim_operators.specs.py_primitives.Outcome.{Outcome}
use Rattle.prim_operators.specs.py_primitives.Calls.{range_of}
use Rattle.prim_operators.specs.prim_walks.Plain.{plain_heap}
use Rattle.prim_operators.specs.prim_faults.Outcomes.{IsOutcome}
use Rattle.prim_operators.proofs.prim_faults_lemmas.Outcomes.{raises_outcome}
use Rattle.prim_builtins.proofs.Numbered.{numbered, unnumbered}
use Rattle.prim_builtins.proofs.SmallSame.{three_same}
use Rattle.prim_builtins.proofs.ranges.with_step.Goals as goal

pub returns-in-Ok : goal.returns-in-Ok
returns-in-Ok g c =
    let texts = g.C.Constants.text_of c.args.consts.now in
    let tuples = g.C.Constants.items_of c.args.consts.now in
    let h = c.args.arena.now in
    let heap = plain_heap texts tuples h in
    let next : ℤ → Outcome Val = λ w. range_of heap c.args.start c.args.stop w in
    subst (λ (o : Outcome Val). IsOutcome texts tuples h c.range_of.new.arena c.range_of.result o) (three_same (λ x y w. range_of heap x y w) c.args.start c.args.stop c.in-Ok.z c.requires.start_small c.requires.stop_small c.in-Ok.ensures.small ∙ sym (numbered texts tuples h c.args.step next c.in-Ok.z c.in-Ok.ensures.number)) c.range_of.ensures

pub returns-in-Err : goal.returns-in-Err
returns-in-Err g c =
    let texts = g.C.Constants.text_of c.args.consts.now in
    let tuples = g.C.Constants.items_of c.args.consts.now in
    let h = c.args.arena.now in
    let heap = plain_heap texts tuples h in
    let next : ℤ → Outcome Val = λ w. range_of heap c.args.start c.args.stop w in
    raises_outcome texts tuples h c.in-Err.fault _ c.requires.all_told ((c.in-Err.ensures.fault texts tuples).0)
    (unnumbered texts tuples h c.args.step next c.in-Err.fault c.in-Err.ensures.other c.in-Err.ensures.fault)
