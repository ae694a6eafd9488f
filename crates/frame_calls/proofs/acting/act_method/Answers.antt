use Rattle.std.proofs.Common.{List, map, refl, subst}
use Rattle.mpy_base.specs.Val.{Val}
use Rattle.frame_moves.specs.arena_heap.declared.value.Value.{Value}
use Rattle.frame_moves.specs.py_primitives.Methods as methods
use Rattle.frame_moves.specs.py_primitives.Outcome.{Outcome}
use Rattle.frame_moves.specs.py_effects.Calling as plain_calls
use Rattle.frame_moves.specs.prim_walks.Plain.{plain, plain_heap, plain_pair}
use Rattle.frame_moves.specs.prim_faults.Outcomes.{IsOutcome}
use Rattle.prim_calls.specs.declared.callees.Callee.TheVariants as callees
use Rattle.frame_calls.specs.Layouts.{tables_of}
use Rattle.frame_calls.proofs.Coming.{puts_come, does_all, put_moved, stop_known}
use Rattle.frame_calls.proofs.Answering.{of_outcome}
use Rattle.frame_calls.proofs.Invokings.{invokes_in}
use Rattle.frame_calls.proofs.Slots.{size_there}
use Rattle.frame_calls.proofs.acting.act_method.Goals as goal

pub put_given-requires-clause-there : goal.put_given-requires-clause-there
put_given-requires-clause-there g c = size_there c.args.size c.args.frames.now.calls c.requires.some c.requires.there

pub returns-clause-steps : goal.returns-clause-steps
returns-clause-steps g c layout item invokes next =
    let texts = g.C.Constants.text_of c.args.consts.now in
    let tuples = g.C.Constants.items_of c.args.consts.now in
    let t = tables_of texts tuples layout in
    let h = c.args.arena.now in
    let given = c.call_method-given.result in
    let new = c.call_method-given.new.arena in
    let vs = c.args.operands.now.args in
    let ks = c.args.operands.now.keys in
    let outcome : Outcome Val = methods.call_method (plain_heap texts tuples h) c.args.method (plain texts tuples c.args.object) (map (plain texts tuples) vs) (map (plain_pair texts tuples) ks) in
    let called : List Value → List (Value × Value) → Outcome Val = λ xs ys. methods.call_method (plain_heap texts tuples h) c.args.method (plain texts tuples c.args.object) (map (plain texts tuples) xs) (map (plain_pair texts tuples) ys) in
    does_all t item outcome.visits h new c.args.frames.now.calls c.put_given.new.frames.calls c.put_given.result
    (λ library. puts_come t library item outcome.visits new c.args.end c.args.size given h
    (λ w. plain_calls.call_method w c.args.method (plain texts tuples c.args.object) (map (plain texts tuples) vs) (map (plain_pair texts tuples) ks)) c.args.frames.now c.put_given.new.frames c.put_given.result
    (invokes_in t library item c.args.size h c.args.frames.now.calls vs ks (callees.Method c.args.object c.args.method) (λ w. plain_calls.call_method w c.args.method (plain texts tuples c.args.object)) invokes (λ w. refl))
    (λ w. of_outcome t w h new given outcome
    (subst (λ (xs : List Value). IsOutcome texts tuples h new given (called xs ks)) c.positional-args.ensures
    (subst (λ (ys : List (Value × Value)). IsOutcome texts tuples h new given (called c.positional-args.result.now ys)) c.keywords-keys.ensures c.call_method-given.ensures)))
    next c.put_given.ensures.calls c.put_given.ensures.done)

pub returns-clause-moved : goal.returns-clause-moved
returns-clause-moved g c =
    put_moved (g.C.Constants.text_of c.args.consts.now) (g.C.Constants.items_of c.args.consts.now) c.call_method-given.new.arena c.args.end c.args.size c.args.frames.now c.put_given.new.frames c.put_given.result c.call_method-given.result
    c.call_method-given.ensures.known c.put_given.ensures.calls c.put_given.ensures.done

pub returns-clause-leaves : goal.returns-clause-leaves
returns-clause-leaves g c = record {
  later = c.call_method-given.ensures.later;
  all_told = c.call_method-given.ensures.all_told;
  stop = stop_known (g.C.Constants.text_of c.args.consts.now) (g.C.Constants.items_of c.args.consts.now) c.call_method-given.new.arena c.put_given.result c.call_method-given.result c.call_method-given.ensures.known c.put_given.ensures.done;
}
