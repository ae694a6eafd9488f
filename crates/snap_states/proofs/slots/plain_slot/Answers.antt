use Rattle.std.proofs.Common.{sym, ◌∙◌, refl}
use Rattle.std.proofs.lemmas.Bool.{false≢true}
use Rattle.bc_library.specs.bc_shapes.declared.kinds.Kind.TheVariants as kinds
use Rattle.snap_states.proofs.Fronts.{caught_there, plain_there, no_value}
use Rattle.snap_states.proofs.slots.plain_slot.Goals as goal

pub returns-then-is_caught-clause-some : goal.returns-then-is_caught-clause-some
returns-then-is_caught-clause-some c = λ offsets.
    caught_there c.args.known.now.library.now c.args.known.now.snapshot.now offsets c.args.v.now kinds.Value refl (λ e. cc) (c.is_caught.ensures.0 c.if-is_caught.true)

pub returns-then-is_plain-clause-some : goal.returns-then-is_plain-clause-some
returns-then-is_plain-clause-some c = λ offsets.
    plain_there c.args.known.now.library.now c.args.known.now.snapshot.now offsets c.args.v.now (λ h. false≢true (sym c.if-is_caught.false ∙ c.is_caught.ensures.1 h)) (c.is_plain.ensures.0 c.if-is_plain.true)

pub returns-else-is_plain-clause-none : goal.returns-else-is_plain-clause-none
returns-else-is_plain-clause-none c = λ offsets.
    no_value c.args.known.now.library.now c.args.known.now.snapshot.now offsets c.args.v.now kinds.Value refl (λ h. false≢true (sym c.if-is_caught.false ∙ c.is_caught.ensures.1 h)) (λ e h. false≢true (sym c.if-is_plain.false ∙ c.is_plain.ensures.1 h))
