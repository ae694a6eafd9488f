use Rattle.std.proofs.Common.{sym, ◌∙◌}
use Rattle.std.proofs.lemmas.Bool.{false≢true}
use Rattle.snap_states.proofs.Fronts.{open_there, no_open}
use Rattle.snap_states.proofs.slots.caught_slot.Goals as goal

pub returns-then-is_caught-clause-some : goal.returns-then-is_caught-clause-some
returns-then-is_caught-clause-some c = λ offsets.
    open_there c.args.known.now.library.now c.args.known.now.snapshot.now offsets c.args.v.now c.args.kind c.requires.asked (c.is_caught.ensures.0 c.if-is_caught.true)

pub returns-else-is_caught-clause-none : goal.returns-else-is_caught-clause-none
returns-else-is_caught-clause-none c = λ offsets.
    no_open c.args.known.now.library.now c.args.known.now.snapshot.now offsets c.args.v.now c.args.kind c.requires.asked (λ h. false≢true (sym c.if-is_caught.false ∙ c.is_caught.ensures.1 h))
