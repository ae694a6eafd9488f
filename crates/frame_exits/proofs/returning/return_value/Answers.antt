use Rattle.std.proofs.Common.{◌<◌, List, All, length, sym, ap, ◌∙◌, subst}
use Rattle.frame_moves.specs.arena_heap.declared.value.Value.{Value}
use Rattle.frame_moves.specs.vm_frames.Calls.{Call, Calls, OfRunning, change_first}
use Rattle.frame_moves.specs.vm_frames.Placed.{IsPlaced}
use Rattle.frame_moves.specs.Shown.{view_of}
use Rattle.frame_moves.specs.Outcomes.{world_of}
use Rattle.frame_exits.specs.Ends.{with_modules}
use Rattle.frame_exits.specs.Known.{HasModule, IsKnownCall}
use Rattle.frame_exits.specs.Left.{left, leaving_of}
use Rattle.frame_exits.proofs.Fails.{top_value, same_value}
use Rattle.frame_exits.proofs.Keeping.{value_later}
use Rattle.frame_exits.proofs.Leaves.{value_known, popped, popped_placed, return_leaves, changed_all, of_changed, return_known}
use Rattle.frame_exits.proofs.returning.return_value.Goals as goal

-- the calls without the value
pub leave-requires-clause-named : goal.leave-requires-clause-named
leave-requires-clause-named g c =
    subst (OfRunning (λ d. d.module_number < length c.args.names.now)) (sym (ap (λ (z : Calls). z.calls) c.pop.ensures.rest))
    (of_changed (λ d. d.module_number < length c.args.names.now) (λ d. d.module_number < length c.args.names.now) popped (λ d h. h) c.args.frames.now.calls c.requires.named)

pub leave-requires-clause-role : goal.leave-requires-clause-role
leave-requires-clause-role g c =
    let H : Call → Type 0 = λ (d : Call). HasModule c.args.arena.now.objects d.role in
    subst (OfRunning H) (sym (ap (λ (z : Calls). z.calls) c.pop.ensures.rest)) (of_changed H H popped (λ d h. h) c.args.frames.now.calls c.requires.role)

pub returns-clause-steps : goal.returns-clause-steps
returns-clause-steps g c tables place w are placed library paid =
    let old = c.args.frames.now.calls in
    let w0 = world_of tables (with_modules tables w c.args.modules.now) c.args.arena.now in
    let P : Call → Type 0 = λ (d : Call). IsPlaced (view_of tables) d in
    let top = top_value old c.requires.value.0 c.in-Value.v c.pop.result c.requires.value.1 c.pop.ensures.top c.in-Value.is in
    let same = ap (λ (z : Calls). z.calls) c.pop.ensures.rest in
    return_leaves tables library place paid w0 c.in-Value.v old top
    ∙ ap (λ (z : List Call). leaving_of tables c.in-Value.v z w0) (sym same)
    ∙ c.leave.ensures.state tables w are (subst (OfRunning P) (sym same) (of_changed P P popped (λ d p. popped_placed (view_of tables) d p) old placed))

pub returns-clause-calls : goal.returns-clause-calls
returns-clause-calls g c v there =
    let old = c.args.frames.now in
    let u = c.in-Value.v in
    let top = top_value old.calls c.requires.value.0 u c.pop.result c.requires.value.1 c.pop.ensures.top c.in-Value.is in
    c.leave.ensures.calls
    ∙ ap (λ (z : Calls). record z { calls = left u z.calls }) c.pop.ensures.rest
    ∙ ap (λ (z : Value). record old { calls = left z (change_first popped old.calls) }) (same_value old.calls u v top there)

pub returns-clause-placed : goal.returns-clause-placed
returns-clause-placed g c view h =
    let P : Call → Type 0 = λ (d : Call). IsPlaced view d in
    c.leave.ensures.placed view
    (subst (All P) (sym (ap (λ (z : Calls). z.calls) c.pop.ensures.rest)) (changed_all P P popped (λ d p. popped_placed view d p) (λ d p. p) c.args.frames.now.calls h))

pub returns-clause-keeps : goal.returns-clause-keeps
returns-clause-keeps g c =
    let texts = g.C.Constants.text_of c.args.consts.now in
    let tuples = g.C.Constants.items_of c.args.consts.now in
    let old = c.args.frames.now in
    let u = c.in-Value.v in
    let top = top_value old.calls c.requires.value.0 u c.pop.result c.requires.value.1 c.pop.ensures.top c.in-Value.is in
    let same = ap (λ (z : Calls). z.calls) (c.leave.ensures.calls ∙ ap (λ (z : Calls). record z { calls = left u z.calls }) c.pop.ensures.rest) in
    record {
      known = λ h. subst (All (IsKnownCall texts tuples (length c.args.names.now) c.leave.new.arena.objects)) (sym same)
          (return_known texts tuples _ c.args.arena.now.objects c.leave.new.arena.objects c.leave.ensures.later u old.calls top h);
      later = c.leave.ensures.later;
      all_told = c.leave.ensures.all_told;
    }

pub returns-clause-after : goal.returns-clause-after
returns-clause-after g c h =
    let texts = g.C.Constants.text_of c.args.consts.now in
    let tuples = g.C.Constants.items_of c.args.consts.now in
    let count = length c.args.names.now in
    let old = c.args.frames.now.calls in
    let before = c.args.arena.now.objects in
    let behind = c.leave.new.arena.objects in
    let u = c.in-Value.v in
    let top = top_value old c.requires.value.0 u c.pop.result c.requires.value.1 c.pop.ensures.top c.in-Value.is in
    c.leave.ensures.after behind (value_later texts tuples c.leave.ensures.later u (value_known texts tuples count before u old top h))
