use Rattle.std.proofs.Common.{sym, subst}
use Rattle.snap_states.specs.Fronts.{IsNoSlot}
use Rattle.snap_states.proofs.Fronts.{no_whole, no_left}
use Rattle.snap_states.proofs.slots.slot_of.Goals as goal

pub returns-in-Iterator-clause-none : goal.returns-in-Iterator-clause-none
returns-in-Iterator-clause-none c =
    subst (λ z. IsNoSlot c.args.known.now.library.now c.args.known.now.snapshot.now c.args.offsets.now z c.args.kind) (sym c.in-Iterator.is)
    (no_whole c.args.known.now.library.now c.args.known.now.snapshot.now c.args.offsets.now _ _ c.args.kind c.requires.single)

pub returns-in-Left-clause-none : goal.returns-in-Left-clause-none
returns-in-Left-clause-none c =
    subst (λ z. IsNoSlot c.args.known.now.library.now c.args.known.now.snapshot.now c.args.offsets.now z c.args.kind) (sym c.in-Left.is)
    (no_left c.args.known.now.library.now c.args.known.now.snapshot.now c.args.offsets.now _ _ _ c.args.kind c.requires.single)
