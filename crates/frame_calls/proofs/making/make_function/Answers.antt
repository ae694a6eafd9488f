use Rattle.std.proofs.Common.{◌≡◌, sym, ap, ◌∙◌}
use Rattle.mpy_base.specs.World.{ADict, IsA}
use Rattle.mpy_base.specs.Val.{Val, Nil, PlainWorld}
use Rattle.frame_moves.specs.arena_heap.declared.value.DictNo.{DictNo}
use Rattle.frame_moves.specs.py_effects.Effect.{Effect}
use Rattle.frame_moves.specs.py_effects.Modules.{make_function}
use Rattle.frame_moves.specs.bc_ops.declared.instr.Op.TheVariants as ops
use Rattle.frame_moves.specs.bc_ops.declared.instr.Instr.TheVariants as instrs
use Rattle.frame_moves.specs.bc_machine.Library.{Plain}
use Rattle.frame_moves.specs.bc_machine.Step as step
use Rattle.frame_moves.specs.prim_walks.Plain.{plain_name}
use Rattle.frame_moves.specs.vm_frames.Views.{slots_of, starts_of, frame_of}
use Rattle.frame_moves.specs.Shown.{view_of}
use Rattle.frame_moves.specs.Outcomes.{world_of}
use Rattle.frame_moves.specs.vm_frames.Calls.{Call}
use Rattle.frame_calls.specs.Children.{IsChild}
use Rattle.frame_calls.specs.Layouts.{tables_of}
use Rattle.frame_calls.proofs.Coming.{gives_in, puts_come, put_moved, stop_known}
use Rattle.frame_calls.proofs.Changes.{some_call}
use Rattle.frame_calls.proofs.Makings.{made_plain, names_same, names_are}
use Rattle.frame_calls.proofs.making.make_function.Goals as goal

pub names_of-requires : goal.names_of-requires
names_of-requires g c = some_call (λ d. IsA c.args.arena.now.objects ADict d.names.cell) c.args.frames.now.calls c.requires.names

pub make_function-given-requires-clause-names : goal.make_function-given-requires-clause-names
make_function-given-requires-clause-names g c =
    names_are c.names_of.result (λ (n : DictNo). IsA c.args.arena.now.objects ADict n.cell) c.args.frames.now.calls c.requires.names c.names_of.ensures

pub returns-clause-steps : goal.returns-clause-steps
returns-clause-steps g c layout library at next child =
    let texts = g.C.Constants.text_of c.args.consts.now in
    let tuples = g.C.Constants.items_of c.args.consts.now in
    let t = tables_of texts tuples layout in
    let h = c.args.arena.now in
    let new = c.make_function-given.new.arena in
    let names = c.names_of.result in
    let P : Call → Type 0 = λ (d : Call). IsChild t library at c.args.child d × (names ≡ d.names) in
    let made : PlainWorld → DictNo → Effect Val = λ w n. make_function w (plain_name texts tuples c.args.child.name) (plain_name texts tuples c.args.child.module_name) c.args.child.code n.cell Nil in
    puts_come t library (Plain (instrs.Num ops.MakeFunction at)) 0 new c.args.end 0 c.make_function-given.result h (λ w. made w names) c.args.frames.now c.push_given.new.frames c.push_given.result
    (λ w. gives_in t library (Plain (instrs.Num ops.MakeFunction at)) 0 P (world_of t w h) (made (world_of t w h) names) c.args.frames.now.calls
    (λ place paid d frames p.
    made_plain t library place paid d frames (world_of t w h) at c.args.child p.0 (slots_of (view_of t) (starts_of (view_of t) d) d.slots) Nil
    ∙ ap (λ (n : DictNo). step.gives library place paid (frame_of (view_of t) d) frames (world_of t w h) (slots_of (view_of t) (starts_of (view_of t) d) d.slots) (made (world_of t w h) n)) (sym p.1))
    (names_same names (IsChild t library at c.args.child) c.args.frames.now.calls child c.names_of.ensures))
    (λ w. record { answer = c.make_function-given.ensures.effect.answer w; world = c.make_function-given.ensures.effect.world w; visits_are = c.make_function-given.ensures.effect.visits w })
    next c.push_given.ensures.calls c.push_given.ensures.done

pub returns-clause-moved : goal.returns-clause-moved
returns-clause-moved g c =
    put_moved (g.C.Constants.text_of c.args.consts.now) (g.C.Constants.items_of c.args.consts.now) c.make_function-given.new.arena c.args.end 0 c.args.frames.now c.push_given.new.frames c.push_given.result c.make_function-given.result
    c.make_function-given.ensures.known c.push_given.ensures.calls c.push_given.ensures.done

pub returns-clause-leaves : goal.returns-clause-leaves
returns-clause-leaves g c = record {
  later = c.make_function-given.ensures.later;
  all_told = c.make_function-given.ensures.all_told;
  stop = stop_known (g.C.Constants.text_of c.args.consts.now) (g.C.Constants.items_of c.args.consts.now) c.make_function-given.new.arena c.push_given.result c.make_function-given.result c.make_function-given.ensures.known c.push_given.ensures.done;
}
