use Rattle.std.proofs.Common.{◌≡◌, List, length, sym, ap, ◌-◌, ◌∙◌}
use Rattle.std.proofs.Math.ListN.{set}
use Rattle.std.proofs.lemmas.List.{length-set}
use Rattle.std.specs.Prelude.{slice_index_or}
use Rattle.arrayvec.proofs.ArrayVecLemmas.{items-with_items}
use Rattle.vm_frames.specs.Held.{Held}
use Rattle.vm_frames.proofs.Stack.{ended}
use Rattle.vm_frames.proofs.frames.Frames.pop_call.Goals as goal

pub returns-clause-calls : goal.returns-clause-calls
returns-clause-calls c =
    let f = c.self.inside in
    let x = c.index-deref_mut-at.result in
    let seen : c.deref_mut.result.now ≡ f.frames.items = c.deref_mut.ensures.value in
    let long : length (set c.deref_mut.result.now (f.depth - 1) c.swap.new.y) ≡ length f.frames.items = length-set c.deref_mut.result.now (f.depth - 1) c.swap.new.y ∙ ap length seen in
    ended f c.args.self.now c.swap.new.x x c.swap.new.y _ c.self.invariant c.self.view_is c.requires
    (items-with_items f.frames (set c.deref_mut.result.now (f.depth - 1) c.swap.new.y) long ∙ ap (λ (zs : List Held). set zs (f.depth - 1) c.swap.new.y) seen)
    (c.index-deref_mut-at.is ∙ ap (λ (zs : List Held). slice_index_or zs (f.depth - 1) x) seen)
    (c.swap.ensures.x_after ∙ sym c.index-deref_mut-at.is)
