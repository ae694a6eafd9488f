use Rattle.std.proofs.Common.{◌≤◌}
use Rattle.bc_shapes.specs.Views.{slots_of_rust}
use Rattle.bc_shapes.proofs.InPlace.{run_none, run_skip, runs_same}
use Rattle.bc_shapes.proofs.joining.join_found.Goals as goal

pub returns-then-same_kinds-clause-some : goal.returns-then-same_kinds-clause-some
returns-then-same_kinds-clause-some c ks b p =
    let ls = slots_of_rust c.args.arriving in
    let ms = c.args.slots.now.items in
    run_none ks ls ms (λ k. c.args.to ≤ k) b
    (run_skip ks ls ms c.args.from c.args.to b
    (runs_same ms c.deref.result.now c.args.arriving.found.now c.below-found.result.now c.args.arriving.gives.values c.args.arriving.gives.others.now c.args.arriving.taken c.args.from c.args.to c.len-given.result
    c.deref.ensures.value c.below-found.ensures c.len-given.ensures c.requires.found c.requires.from c.requires.within c.if-same_kinds.ensures)
    p)
