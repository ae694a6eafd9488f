use Rattle.std.proofs.Common.{◌≡◌, ◌<◌, length, take, reverse, ap, ◌∙◌, List, arith}
use Rattle.std.proofs.lemmas.List.{length-reverse, length-take}
use Rattle.std.specs.Prelude.{slice_set}
use Rattle.vm_frames.specs.declared.slot.Slot.{Slot}
use Rattle.vm_frames.specs.Held.{Held}
use Rattle.vm_frames.specs.Framed.{held_of}
use Rattle.vm_frames.proofs.Heights.{set_below}
use Rattle.vm_frames.proofs.frame.Frame.set_slot.Goals as goal

pub returns : goal.returns
returns c =
    let f = c.self.inside in
    let view : Held = held_of f in
    let xs = f.slots.items in
    let F : List Slot → Held = λ ys. record view { call = record view.call { slots = ys } } in
    let G : Held → Held = λ s. record s { call = record s.call { slots = slice_set s.call.slots c.args.i c.args.slot } } in
    let n : length (reverse (take f.height xs)) ≡ length c.args.self.now.call.slots = ap (λ (z : Held). length z.call.slots) c.self.view_is in
    let there = c.self.invariant.slots_there in
    let lt : c.args.i < f.height = omega (arith, n, length-reverse (take f.height xs), length-take f.height xs, c.requires, there) in
    ap F (set_below xs f.height c.args.i c.args.slot lt there) ∙ ap G c.self.view_is
