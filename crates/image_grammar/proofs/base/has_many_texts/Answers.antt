use Rattle.std.proofs.Common.{refl}
use Rattle.mpy_base.specs.declared.limits.TheConstants.{MAX_TABLE}
use Rattle.image_grammar.proofs.BaseTexts.{none_at, some_at}
use Rattle.image_grammar.proofs.base.has_many_texts.Goals as goal

pub returns-in-Some-clause-many : goal.returns-in-Some-clause-many
returns-in-Some-clause-many c = λ _. some_at c.args.lib.now.pool MAX_TABLE _ _ c.library_law.ensures.first refl c.in-Some.ensures.text

pub returns-in-None-clause-few : goal.returns-in-None-clause-few
returns-in-None-clause-few c = λ _. none_at c.args.lib.now.pool MAX_TABLE _ c.library_law.ensures.first refl c.in-None.ensures.text
