use Rattle.std.proofs.Common.{refl, sym}
use Rattle.image_grammar.specs.Opening.{nothing_is_below}
use Rattle.image_grammar.proofs.Steps.{judged, unjudged, not_true}
use Rattle.image_open.proofs.Below.{counts_none, none_counts}
use Rattle.image_grammar.specs.Base.{base_of}
use Rattle.image_open.proofs.image.nothing_is_below.Goals as goal

pub returns-then-not-are_counts : goal.returns-then-not-are_counts
unfolding nothing_is_below
returns-then-not-are_counts c = unjudged (λ h. not_true _ (c.are_counts.ensures.1 (none_counts (base_of c.args.below.now) h.0 h.1)) c.if-not-are_counts.true)

pub returns : goal.returns
unfolding nothing_is_below
returns c = judged (counts_none (base_of c.args.below.now) (c.are_counts.ensures.0 c.if-not-are_counts.false)) refl
