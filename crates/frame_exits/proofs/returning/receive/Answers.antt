use Rattle.std.proofs.Common.{◌∷◌, All, sym, ap, subst}
use Rattle.std.proofs.lemmas.List.Elements.{All-cons}
use Rattle.frame_moves.specs.bc_labels.Positions.{Starts}
use Rattle.frame_moves.specs.vm_frames.declared.slot.Slot.TheVariants as slots
use Rattle.frame_moves.specs.vm_frames.Calls.{Call, Calls}
use Rattle.frame_moves.specs.vm_frames.Views.{starts_of}
use Rattle.frame_moves.specs.vm_frames.Placed.{IsPlaced}
use Rattle.frame_moves.specs.Stacks.{gone}
use Rattle.frame_exits.specs.Known.{IsKnownSlot, IsKnownCall}
use Rattle.frame_exits.proofs.Finishes.{running_all}
use Rattle.frame_exits.proofs.Keeping.{going}
use Rattle.frame_exits.proofs.Leaves.{receives, pushed, changed_all}
use Rattle.frame_exits.proofs.returning.receive.Goals as goal

pub returns-clause-state : goal.returns-clause-state
returns-clause-state c tables w next =
    receives tables w c.args.v c.args.end c.args.frames.now c.set_offset.new.self
    (pushed c.args.v c.args.end c.args.frames.now c.push.new.self c.set_offset.new.self c.push.ensures c.set_offset.ensures) next

pub returns-clause-moved : goal.returns-clause-moved
returns-clause-moved c = pushed c.args.v c.args.end c.args.frames.now c.push.new.self c.set_offset.new.self c.push.ensures c.set_offset.ensures

pub returns-clause-placed : goal.returns-clause-placed
returns-clause-placed c view starts h =
    let moved = pushed c.args.v c.args.end c.args.frames.now c.push.new.self c.set_offset.new.self c.push.ensures c.set_offset.ensures in
    let P : Call → Type 0 = λ (d : Call). IsPlaced view d in
    let Q : Call → Type 0 = λ (d : Call). Starts (starts_of view d) c.args.end in
    subst (All P) (sym (ap (λ (z : Calls). z.calls) moved))
    (running_all P Q (λ d. gone c.args.end (slots.Value c.args.v ∷ d.slots) d) (λ d s p. c.placed_law.ensures.goes view d c.args.end (slots.Value c.args.v ∷ d.slots) p s) c.args.frames.now.calls starts h)

pub returns-clause-known : goal.returns-clause-known
returns-clause-known c texts tuples modules objects k h =
    let moved = pushed c.args.v c.args.end c.args.frames.now c.push.new.self c.set_offset.new.self c.push.ensures c.set_offset.ensures in
    let K : Call → Type 0 = λ (d : Call). IsKnownCall texts tuples modules objects d in
    subst (All K) (sym (ap (λ (z : Calls). z.calls) moved))
    (changed_all K K (λ d. gone c.args.end (slots.Value c.args.v ∷ d.slots) d)
    (λ d kd. going texts tuples modules objects d kd c.args.end (slots.Value c.args.v ∷ d.slots) d.entries (All-cons (IsKnownSlot texts tuples objects) (slots.Value c.args.v) d.slots k kd.slots) kd.entries)
    (λ d kd. kd) c.args.frames.now.calls h)
