use Rattle.std.proofs.Common.{◌≡◌, ◌<◌, ◌≤◌, true, length, subst, refl, arith, rules}
use Rattle.std.specs.List.{All}
use Rattle.std.proofs.lemmas.List.{take_all}
use Rattle.std.proofs.lemmas.List.Elements.{All-more}
use Rattle.snap_states.specs.States.{IsFineLocal}
use Rattle.snap_states.proofs.frames.are_fine_locals.Goals as goal

pub loop-part-preserved : goal.loop-part-preserved
loop-part-preserved c =
    let i = c.loop-part.part-index in
    let lt : i < length c.args.parts.now = omega arith in
    let yes : c.is_fine_local.result ≡ true = search rules in
    let fine = c.is_fine_local.ensures.0 yes in
    All-more (IsFineLocal c.args.known.now.library.now c.args.known.now.snapshot.now) c.args.parts.now i c.part-item.result lt c.loop-part.invariant
    (subst (IsFineLocal c.args.known.now.library.now c.args.known.now.snapshot.now) c.part-item.is fine)

pub returns : goal.returns
returns c =
    let i = c.loop-part.part-index in
    let le : length c.args.parts.now ≤ i = omega arith in
    (λ t. subst (All (IsFineLocal c.args.known.now.library.now c.args.known.now.snapshot.now)) (take_all i c.args.parts.now le) c.loop-part.invariant, λ h. refl)
