use Rattle.meant_commands.proofs.Meaning.{holds_built}
use Rattle.meant_commands.proofs.meant.holds_law.Goals as goal

pub returns : goal.returns
returns c files name main below program built = holds_built c.made_law.ensures.file c.built_law.ensures below files name main program built
