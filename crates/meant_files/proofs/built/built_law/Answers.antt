use Rattle.meant_files.proofs.Holds.{are_units}
use Rattle.meant_files.proofs.built.built_law.Goals as goal

pub returns : goal.returns
returns c files base bytes main shelf program is loads built =
    are_units c.made_law.ensures.file c.made_law.ensures.verified c.made_law.ensures.unit files base bytes main is shelf program built loads
