use Rattle.meant_commands.proofs.GoMeaning.{holds_crossed}
use Rattle.meant_commands.proofs.meant.crossed_holds_law.Goals as goal

pub returns : goal.returns
returns c sources files path name main level below program holds is = holds_crossed c.files_law.ensures.units sources files path name main level below program holds is
