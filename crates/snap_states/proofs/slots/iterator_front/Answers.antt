use Rattle.std.proofs.Common.{sym, ap, ◌∙◌}
use Rattle.std.specs.Prelude.{option_copied}
use Rattle.std.proofs.lemmas.Bool.{false≢true}
use Rattle.snap_states.proofs.Fronts.{no_iterator_in, no_part_in, iterator_taken, no_over}
use Rattle.snap_states.proofs.slots.iterator_front.Goals as goal

pub returns-in-None-clause-none : goal.returns-in-None-clause-none
returns-in-None-clause-none c = λ offsets ps.
    no_iterator_in c.args.known.now.library.now c.args.known.now.snapshot.now offsets c.args.part.now ps c.args.kind c.args.kinds.now c.requires.asked (sym c.iterator_at.ensures ∙ c.in-None.is)

pub returns-in-None-over_of-clause-none : goal.returns-in-None-over_of-clause-none
returns-in-None-over_of-clause-none c = λ offsets ps.
    no_part_in c.args.known.now.library.now c.args.known.now.snapshot.now offsets c.args.part.now ps c.args.kind c.args.kinds.now c.in-Some.front c.requires.asked
    (sym c.iterator_at.ensures ∙ c.in-Some.is) (sym c.over_of.ensures ∙ ap option_copied c.in-None-over_of.is)

pub returns-then-is_over-clause-some : goal.returns-then-is_over-clause-some
returns-then-is_over-clause-some c = λ offsets ps.
    iterator_taken c.args.known.now.library.now c.args.known.now.snapshot.now offsets c.args.part.now ps c.args.kind c.args.kinds.now c.in-Some.front c.in-Some-over_of.over.now c.requires.asked
    (sym c.iterator_at.ensures ∙ c.in-Some.is) (sym c.over_of.ensures ∙ ap option_copied c.in-Some-over_of.is) (c.is_over.ensures.0 c.if-is_over.true)

pub returns-else-is_over-clause-none : goal.returns-else-is_over-clause-none
returns-else-is_over-clause-none c = λ offsets ps.
    no_over c.args.known.now.library.now c.args.known.now.snapshot.now offsets c.args.part.now ps c.args.kind c.args.kinds.now c.in-Some.front c.in-Some-over_of.over.now c.requires.asked
    (sym c.iterator_at.ensures ∙ c.in-Some.is) (sym c.over_of.ensures ∙ ap option_copied c.in-Some-over_of.is) (λ o. false≢true (sym c.if-is_over.false ∙ c.is_over.ensures.1 o))
