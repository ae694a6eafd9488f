use Rattle.std.proofs.Common.{◌≡◌, List, length, ap, ◌∙◌, arith}
use Rattle.std.proofs.Math.ListN.{set}
use Rattle.std.proofs.lemmas.List.{length-set}
use Rattle.arrayvec.proofs.ArrayVecLemmas.{items-with_items}
use Rattle.vm_frames.specs.Held.{Held}
use Rattle.vm_frames.proofs.Stack.{begun, depth_is}
use Rattle.vm_frames.proofs.frames.Frames.push_call.Goals as goal

pub returns : goal.returns
returns c =
    let f = c.self.inside in
    let deep = depth_is f c.args.self.now c.self.view_is in
    let seen : c.deref_mut.result.now ≡ f.frames.items = c.deref_mut.ensures.value in
    let long : length (set c.deref_mut.result.now f.depth c.swap.new.y) ≡ length f.frames.items = length-set c.deref_mut.result.now f.depth c.swap.new.y ∙ ap length seen in
    begun f c.args.self.now c.begin.new.self c.swap.new.y _ _ c.self.view_is (omega (arith, deep, c.self.invariant.all, c.requires.shallow))
    (items-with_items f.frames (set c.deref_mut.result.now f.depth c.swap.new.y) long ∙ ap (λ (zs : List Held). set zs f.depth c.swap.new.y) seen)
    c.swap.ensures.y_after (ap (λ (z : Held). z.call) c.begin.ensures)
