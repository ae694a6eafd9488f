-- What images may lie over.
use Rattle.std.specs.Prelude.{IsTrue}
use Rattle.mpy_writer.specs.qstr_pool.Pool.{all_differ}
use Rattle.image_open.specs.bc_library.Own.{IsOwnPool}
use Rattle.image_open.specs.image_grammar.Opening.{Base, pool_below}

-- texts such as a library's pool has: plain, none that every file may name by number, and each once
pub record IsSound (below : Base) : Type 0 where
  pub own : IsOwnPool (pool_below below)
  pub differ : IsTrue (all_differ below.texts)
