use Rattle.tr_source.proofs.TextTrees.{texts_undotted}
use Rattle.tr_source.proofs.text_names.texts_law.Goals as goal

pub returns : goal.returns
returns c = texts_undotted
