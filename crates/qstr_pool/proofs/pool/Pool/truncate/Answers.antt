use Rattle.std.proofs.Common.{ℕ, Vec, Global}
use Rattle.qstr_pool.proofs.Pools.{front_is}
use Rattle.qstr_pool.proofs.pool.Pool.truncate.Goals as goal

pub returns : goal.returns
returns c = front_is (λ (key : Vec ℕ Global). key.items) c.self.inside.texts.keys c.truncate.new.self.keys c.self.inside.first c.args.count c.args.self.now c.self.view_is c.truncate.ensures.keys
