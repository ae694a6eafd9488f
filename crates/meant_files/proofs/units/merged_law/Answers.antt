use Rattle.meant_files.proofs.Merged.{unit_file}
use Rattle.meant_files.proofs.units.merged_law.Goals as goal

pub returns : goal.returns
returns c units files bytes m h r is = unit_file c.resolves_law.ensures.one c.file_law.ensures.one_module units files bytes m h r is
