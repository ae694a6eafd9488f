use Rattle.std.proofs.Common.{◌≡◌, List, drop, Some, slice_get, sym, ap, ◌∙◌, subst}
use Rattle.mpy_base.specs.World.{ADict, IsA}
use Rattle.mpy_base.specs.Val.{Val, PlainWorld}
use Rattle.frame_moves.specs.arena_heap.declared.value.Value.{Value}
use Rattle.frame_moves.specs.arena_heap.declared.value.DictNo.{DictNo}
use Rattle.frame_moves.specs.py_effects.Effect.{Effect}
use Rattle.frame_moves.specs.bc_ops.declared.instr.Op.TheVariants as ops
use Rattle.frame_moves.specs.bc_ops.declared.instr.Instr.TheVariants as instrs
use Rattle.frame_moves.specs.bc_machine.Library.{Plain}
use Rattle.frame_moves.specs.bc_machine.Step as step
use Rattle.frame_moves.specs.prim_walks.Plain.{plain, plain_name}
use Rattle.frame_moves.specs.vm_frames.declared.slot.Slot.{Slot}
use Rattle.frame_moves.specs.vm_frames.declared.slot.Slot.TheVariants as slots
use Rattle.frame_moves.specs.prim_faults.Faults.{IsKnown}
use Rattle.frame_moves.specs.vm_frames.Calls.{Call}
use Rattle.frame_moves.specs.vm_frames.Views.{slots_of, starts_of, frame_of}
use Rattle.frame_moves.specs.Shown.{view_of}
use Rattle.frame_moves.specs.Outcomes.{world_of}
use Rattle.frame_calls.specs.Children.{IsChild, judged}
use Rattle.frame_calls.specs.Layouts.{tables_of}
use Rattle.frame_calls.specs.Operands.{running_slots}
use Rattle.frame_calls.proofs.Coming.{gives_in, puts_come, put_moved, stop_known}
use Rattle.frame_calls.proofs.Changes.{some_call}
use Rattle.frame_calls.proofs.Makings.{HasTwo, made_with, names_are, two_on, has_two, two_there}
use Rattle.frame_calls.proofs.Slots.{slot_within, read_value}
use Rattle.frame_calls.proofs.making.make_function_with.Goals as goal

pub names_of-names-requires : goal.names_of-names-requires
names_of-names-requires g c = some_call (λ d. IsA c.args.arena.now.objects ADict d.names.cell) c.args.frames.now.calls c.requires.names

pub value_at-defaults-requires : goal.value_at-defaults-requires
value_at-defaults-requires g c = slot_within c.args.frames.now.calls 1 (slots.Value c.requires.defaults.defaults) c.requires.defaults.there

pub make_judged-given-requires : goal.make_judged-given-requires
make_judged-given-requires g c =
    let texts = g.C.Constants.text_of c.args.consts.now in
    let tuples = g.C.Constants.items_of c.args.consts.now in
    let h = c.args.arena.now in
    let same = read_value (running_slots c.args.frames.now.calls) 1 c.requires.defaults.defaults c.value_at-defaults.result c.requires.defaults.there c.value_at-defaults.ensures in
    record {
      names = names_are c.names_of-names.result (λ (n : DictNo). IsA h.objects ADict n.cell) c.args.frames.now.calls c.requires.names c.names_of-names.ensures;
      known = subst (IsKnown texts tuples h.objects) same c.requires.defaults.known;
      all_told = c.requires.all_told;
    }

pub put_given-requires-clause-there : goal.put_given-requires-clause-there
put_given-requires-clause-there g c = two_there c.args.frames.now.calls (slots.Value c.requires.defaults.defaults) c.requires.defaults.there

pub returns-clause-steps : goal.returns-clause-steps
returns-clause-steps g c layout library at next child =
    let texts = g.C.Constants.text_of c.args.consts.now in
    let tuples = g.C.Constants.items_of c.args.consts.now in
    let t = tables_of texts tuples layout in
    let h = c.args.arena.now in
    let v = c.value_at-defaults.result in
    let names = c.names_of-names.result in
    let C : Call → Type 0 = λ (d : Call). IsChild t library at c.args.child d in
    let same = read_value (running_slots c.args.frames.now.calls) 1 c.requires.defaults.defaults v c.requires.defaults.there c.value_at-defaults.ensures in
    let there = subst (λ (z : Value). slice_get (running_slots c.args.frames.now.calls) 1 ≡ Some (slots.Value z)) same c.requires.defaults.there in
    let made : PlainWorld → DictNo → Effect Val = λ w n. judged w c.args.child.given (plain_name texts tuples c.args.child.name) (plain_name texts tuples c.args.child.module_name) c.args.child.code n.cell (plain texts tuples v) in
    puts_come t library (Plain (instrs.Num ops.MakeFunctionDefargs at)) 0 c.make_judged-given.new.arena c.args.end 2 c.make_judged-given.result h (λ w. made w names) c.args.frames.now c.put_given.new.frames c.put_given.result
    (λ w. gives_in t library (Plain (instrs.Num ops.MakeFunctionDefargs at)) 2 (HasTwo C names slots.Null (slots.Value v)) (world_of t w h) (made (world_of t w h) names) c.args.frames.now.calls
    (λ place paid d frames p.
    let S = slots_of (view_of t) (starts_of (view_of t) d) in
    let F = frame_of (view_of t) d in
    let W = world_of t w h in
    two_on (λ (st : List Slot). step.number_step library place paid F frames W ops.MakeFunctionDefargs at (S st) ≡ step.gives library place paid F frames W (S (drop 2 st)) (made W names)) d.slots slots.Null (slots.Value v) p.above p.below
    (made_with t library place paid d frames W at c.args.child p.other (S (drop 2 d.slots)) (plain texts tuples v)
    ∙ ap (λ (n : DictNo). step.gives library place paid F frames W (S (drop 2 d.slots)) (made W n)) (sym p.names_are)))
    (has_two C names slots.Null (slots.Value v) c.args.frames.now.calls child c.names_of-names.ensures c.requires.defaults.above there))
    (λ w. record { answer = c.make_judged-given.ensures.effect.answer w; world = c.make_judged-given.ensures.effect.world w; visits_are = c.make_judged-given.ensures.effect.visits w })
    next c.put_given.ensures.calls c.put_given.ensures.done

pub returns-clause-moved : goal.returns-clause-moved
returns-clause-moved g c =
    put_moved (g.C.Constants.text_of c.args.consts.now) (g.C.Constants.items_of c.args.consts.now) c.make_judged-given.new.arena c.args.end 2 c.args.frames.now c.put_given.new.frames c.put_given.result c.make_judged-given.result
    c.make_judged-given.ensures.known c.put_given.ensures.calls c.put_given.ensures.done

pub returns-clause-leaves : goal.returns-clause-leaves
returns-clause-leaves g c = record {
  later = c.make_judged-given.ensures.later;
  all_told = c.make_judged-given.ensures.all_told;
  stop = stop_known (g.C.Constants.text_of c.args.consts.now) (g.C.Constants.items_of c.args.consts.now) c.make_judged-given.new.arena c.put_given.result c.make_judged-given.result c.make_judged-given.ensures.known c.put_given.ensures.done;
}
