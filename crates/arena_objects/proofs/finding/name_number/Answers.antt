use Rattle.std.proofs.Common.{ℕ, Some, ap}
use Rattle.arena_objects.proofs.finding.name_number.Goals as goal

pub returns-in-Pool : goal.returns-in-Pool
returns-in-Pool g c = λ m q.
    ap (λ (k : ℕ). Some k) (c.one_number_law.ensures c.args.bytes.now c.in-Pool.n m (c.requires c.in-Pool.n c.in-Pool.is) q)
