use Rattle.bc_library.proofs.Shelves.{seen_texts}
use Rattle.bc_library.proofs.laws.texts_law.Goals as goal

pub returns : goal.returns
returns c = seen_texts c.lib.inside.modules.items c.lib.inside.refused c.lib.inside.pool c.args.lib.now c.lib.view_is c.lib.invariant
