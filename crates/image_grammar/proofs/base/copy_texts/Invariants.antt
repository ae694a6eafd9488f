use Rattle.image_grammar.proofs.BaseTexts.{TakenTo}
use Rattle.image_grammar.proofs.base.copy_texts.Given as goal

abbrev pub invariant-loop-place : goal.invariant-loop-place
invariant-loop-place l = TakenTo l.lib.pool l.place l.pool
