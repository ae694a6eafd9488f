use Rattle.vm_starting.proofs.OneRow.{fetched_too}
use Rattle.vm_starting.proofs.cached.row_law.Goals as goal

pub returns : goal.returns
returns c shelf i k at fetched row of is = fetched_too shelf i k at of.row row fetched of.is_row is of.is_fetched
