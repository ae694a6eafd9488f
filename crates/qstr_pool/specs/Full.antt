-- The refusal of a pool.
use Rattle.qstr_pool.specs.declared.pool.Full.{Full}

-- the only value of its type
abbrev pub pool_full : Full
pool_full = record {}
