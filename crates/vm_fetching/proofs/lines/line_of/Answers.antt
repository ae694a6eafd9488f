use Rattle.vm_fetching.proofs.Tables.{table_short}
use Rattle.vm_fetching.proofs.lines.line_of.Goals as goal

pub line_in-requires : goal.line_in-requires
line_in-requires c = let v = c.requires in table_short v.0 v.1 c.args.row.now v.2
