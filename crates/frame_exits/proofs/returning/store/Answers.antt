use Rattle.std.proofs.Common.{[], Result, Err, sym, ap, ◌∙◌}
use Rattle.mpy_base.specs.Val.{Val, PlainWorld}
use Rattle.frame_moves.specs.py_primitives.Outcome as primitives
use Rattle.frame_moves.specs.py_effects.Effect.{given_answer}
use Rattle.frame_moves.specs.py_effects.Modules.{store_module}
use Rattle.frame_moves.specs.bc_machine.State.{Running, Halted, on_given}
use Rattle.frame_moves.specs.py_effects.Ends.{Memory, new_world}
use Rattle.frame_moves.specs.prim_walks.Plain.{plain_name}
use Rattle.frame_moves.specs.prim_faults.declared.stop.Stop.{Stop}
use Rattle.frame_moves.specs.prim_faults.Faults.{plain_fault}
use Rattle.frame_moves.specs.prim_faults.Outcomes.{plain_stop}
use Rattle.prim_modules.specs.Effects.{world_with}
use Rattle.frame_exits.proofs.Leaves.{store_never}
use Rattle.frame_exits.proofs.returning.store.Goals as goal

pub returns-in-Ok-clause-state : goal.returns-in-Ok-clause-state
returns-in-Ok-clause-state g c place w frame frames =
    let texts = g.C.Constants.text_of c.args.consts.now in
    let tuples = g.C.Constants.items_of c.args.consts.now in
    let effect = store_module (world_with texts tuples w c.args.arena.now c.args.modules.now) (plain_name texts tuples c.args.name.name) c.args.m.cell in
    let is = c.in-Ok.ensures.effect in
    ap (λ (a : Result Val primitives.Stop). on_given (given_answer place effect.world a) frame frames (λ done. Running 0 frame frames)) (sym (is.answer w))
    ∙ ap (λ (z : PlainWorld). Running 0 frame frames z) (sym (is.world w))

pub want_of-requires : goal.want_of-requires
want_of-requires g c fault is =
    let texts = g.C.Constants.text_of c.args.consts.now in
    let tuples = g.C.Constants.items_of c.args.consts.now in
    let new = c.store_module.new.arena in
    let w = new_world 0 0 [] in
    store_never (world_with texts tuples w c.args.arena.now c.args.modules.now) (plain_name texts tuples c.args.name.name) c.args.m.cell (plain_fault texts tuples new fault)
    (sym (c.in-Err.ensures.effect.answer w) ∙ ap (λ (s : Stop). let answer : Result Val primitives.Stop = Err (plain_stop texts tuples new s) in answer) is)

pub returns-in-Err-clause-state : goal.returns-in-Err-clause-state
returns-in-Err-clause-state g c place w frame frames =
    let texts = g.C.Constants.text_of c.args.consts.now in
    let tuples = g.C.Constants.items_of c.args.consts.now in
    let new = c.store_module.new.arena in
    let effect = store_module (world_with texts tuples w c.args.arena.now c.args.modules.now) (plain_name texts tuples c.args.name.name) c.args.m.cell in
    let is = c.in-Err.ensures.effect in
    ap (λ (a : Result Val primitives.Stop). on_given (given_answer place effect.world a) frame frames (λ done. Running 0 frame frames))
    (sym (is.answer w) ∙ ap (λ (s : Stop). let answer : Result Val primitives.Stop = Err (plain_stop texts tuples new s) in answer) c.want_of.ensures)
    ∙ ap (λ (z : PlainWorld). Halted (Memory c.want_of.result) z) (sym (is.world w))
