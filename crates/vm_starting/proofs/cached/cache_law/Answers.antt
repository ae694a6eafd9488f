use Rattle.vm_starting.proofs.Keeping.{one_more}
use Rattle.vm_starting.proofs.cached.cache_law.Goals as goal

pub returns : goal.returns
returns c shelf kept i k at fetched are is_of = one_more shelf kept i k at fetched are is_of
