use Rattle.std.proofs.Common.{ℕ, Vec, Global, sym, ap, ◌∙◌}
use Rattle.qstr_pool.specs.Pool.{Texts, all_differ}
use Rattle.qstr_pool.proofs.Places.{differ_from_distinct}
use Rattle.qstr_pool.proofs.Pools.{one_to_one}
use Rattle.qstr_pool.proofs.pool.pool_law.Goals as goal

pub returns-clause-differ : goal.returns-clause-differ
returns-clause-differ c =
    let differ = differ_from_distinct (λ (key : Vec ℕ Global). key.items) c.pool.inside.texts.keys c.len.ensures.unique in
    ap (λ (pool : Texts). all_differ pool.texts) (sym c.pool.view_is) ∙ differ

pub returns-clause-one_to_one : goal.returns-clause-one_to_one
returns-clause-one_to_one c = one_to_one c.args.pool.now (returns-clause-differ c)
