use Rattle.std.proofs.Common.{ℕ, take, drop, reverse, ap, ◌∙◌, List}
use Rattle.vm_frames.specs.declared.slot.Slot.{Slot}
use Rattle.vm_frames.specs.Held.{Held}
use Rattle.vm_frames.specs.Framed.{held_of}
use Rattle.vm_frames.proofs.Heights.{all_but}
use Rattle.vm_frames.proofs.frame.Frame.take_slots.Goals as goal

pub returns : goal.returns
returns c =
    let f = c.self.inside in
    let view : Held = held_of f in
    let xs = f.slots.items in
    let F : List Slot → Held = λ ys. record view { call = record view.call { slots = ys } } in
    let G : Held → Held = λ s. record s { call = record s.call { slots = drop c.args.count s.call.slots } } in
    ap F (ap (λ (n : ℕ). reverse (take n xs)) c.saturating_sub-rest.ensures ∙ all_but xs f.height c.args.count c.self.invariant.slots_there) ∙ ap G c.self.view_is
