use Rattle.std.proofs.Common.{sym}
use Rattle.image_open.proofs.bc_library_lemmas.Pools.{with_static}
use Rattle.image_freeze.proofs.texts.use_text.Goals as goal

pub returns-in-Some-clause-ok : goal.returns-in-Some-clause-ok
returns-in-Some-clause-ok c = with_static c.args.pool.now c.args.text.now _ (sym c.in-Some.ensures.number)

pub use_own-requires : goal.use_own-requires
use_own-requires c = sym c.in-None.ensures.number
