use Rattle.std.proofs.lemmas.Bool.{ne_eqb}
use Rattle.image_grammar.specs.Opening.{base}
use Rattle.image_open.proofs.image.base.Goals as goal

pub returns-then-version-eq1 : goal.returns-then-version-eq1
unfolding base
returns-then-version-eq1 c = rw c.if-version-eq1.true c.nothing_is_below.ensures

pub returns : goal.returns
unfolding base
returns c = rw (ne_eqb _ _ c.if-version-eq1.false) c.counts_below.ensures
