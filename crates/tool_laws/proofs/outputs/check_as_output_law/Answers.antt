use Rattle.tool_laws.proofs.Printed.{one_checked}
use Rattle.tool_laws.proofs.outputs.check_as_output_law.Goals as goal

pub returns : goal.returns
returns c level files source file before behind printed after place another =
    one_checked c.file_laws.ensures c.source_laws.ensures level files source file before behind printed after place another
