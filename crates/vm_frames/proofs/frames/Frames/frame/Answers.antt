use Rattle.std.proofs.Common.{◌≡◌, ◌+◌, length, arith, ap, ◌∙◌, List, rules}
use Rattle.std.specs.Prelude.{slice_index_or}
use Rattle.vm_frames.specs.Held.{Held}
use Rattle.vm_frames.proofs.Stack.{waits_at, runs_at}
use Rattle.vm_frames.proofs.frames.Frames.frame.Goals as goal

pub bounds-deref-above : goal.bounds-deref-above
bounds-deref-above c =
    let seen : c.deref.result.now ≡ c.self.inside.frames.items = search rules in
    omega (arith, c.if-above-self.true, c.self.invariant.all, c.self.invariant.deep, ap length seen)

pub returns-then-above-self : goal.returns-then-above-self
returns-then-above-self c =
    let seen : c.deref.result.now ≡ c.self.inside.frames.items = search rules in
    let x = c.index-deref-above.result in
    waits_at c.self.inside c.args.self.now c.args.i x c.self.invariant c.self.view_is c.if-above-self.true
    (c.index-deref-above.is ∙ ap (λ (zs : List Held). slice_index_or zs (c.args.i + 1) x) seen)

pub returns-else-above-self : goal.returns-else-above-self
returns-else-above-self c = runs_at c.self.inside c.args.self.now c.args.i c.self.view_is c.requires (omega (arith, c.if-above-self.false))
