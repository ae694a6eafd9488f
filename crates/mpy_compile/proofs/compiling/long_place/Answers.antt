use Rattle.std.proofs.Common.{sym, ◌∙◌}
use Rattle.mpy_compile.proofs.Longs.{long_text}
use Rattle.mpy_compile.proofs.Outcomes.{so}
use Rattle.mpy_compile.proofs.compiling.long_place.Goals as goal

pub first_long-requires : goal.first_long-requires
first_long-requires c = c.requires.writable (sym c.texts_fit.ensures ∙ c.if-texts_fit.true)

pub returns-else-texts_fit-clause-found : goal.returns-else-texts_fit-clause-found
returns-else-texts_fit-clause-found c = long_text c.args.whole.now (sym c.texts_fit.ensures ∙ c.if-texts_fit.false)

pub returns-then-texts_fit-clause-texts : goal.returns-then-texts_fit-clause-texts
returns-then-texts_fit-clause-texts c = so c.first_long.result (sym c.texts_fit.ensures ∙ c.if-texts_fit.true)
