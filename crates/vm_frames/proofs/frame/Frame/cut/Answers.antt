use Rattle.std.proofs.Common.{◌-◌, length, drop, take, reverse, ap, ◌∙◌, List, ℕ}
use Rattle.vm_frames.specs.declared.slot.Slot.{Slot}
use Rattle.vm_frames.specs.Held.{Held}
use Rattle.vm_frames.specs.Framed.{held_of}
use Rattle.vm_frames.proofs.Heights.{lowest}
use Rattle.vm_frames.proofs.frame.Frame.cut.Goals as goal

pub returns : goal.returns
returns c =
    let f = c.self.inside in
    let view : Held = held_of f in
    let xs = f.slots.items in
    let F : List Slot → Held = λ ys. record view { call = record view.call { slots = ys } } in
    let G : Held → Held = λ s. record s { call = record s.call { slots = drop (length s.call.slots - c.args.height) s.call.slots } } in
    ap F (ap (λ (n : ℕ). reverse (take n xs)) c.min-self-inside.ensures ∙ lowest xs f.height c.args.height) ∙ ap G c.self.view_is
