use Rattle.std.proofs.Common.{◌≡◌, ℕ, suc, ◌+◌, length, ap, ◌∙◌, arith}
use Rattle.snap_loading.specs.Mixed.{heap_mixed}
use Rattle.snap_loading.proofs.Mixing.{heap_done}
use Rattle.snap_loading.proofs.filling.fill.Goals as goal

pub loop-number-init : goal.loop-number-init
loop-number-init c title e = e

pub fill_one-requires-clause-begun : goal.fill_one-requires-clause-begun
fill_one-requires-clause-begun c = (c.requires.begun.0, c.loop-number.invariant c.requires.begun.0 c.requires.begun.1)

pub loop-number-preserved : goal.loop-number-preserved
loop-number-preserved c title e =
    let on : suc c.loop-number.number ≡ c.loop-number.number + 1 = omega arith in
    c.fill_one.ensures title (c.loop-number.invariant title e) ∙ ap (λ k. heap_mixed c.args.lookup.now.library.now c.args.lookup.now.snapshot.now title k) on

pub returns : goal.returns
returns c title e =
    let all : length c.as_slice-objects.result.now ≡ length c.args.lookup.now.snapshot.now.objects = ap length c.as_slice-objects.ensures in
    let end : c.loop-number.number ≡ length c.args.lookup.now.snapshot.now.objects = omega (arith, all) in
    c.loop-number.invariant title e
    ∙ (ap (λ k. heap_mixed c.args.lookup.now.library.now c.args.lookup.now.snapshot.now title k) end
    ∙ heap_done c.args.lookup.now.library.now c.args.lookup.now.snapshot.now title)
