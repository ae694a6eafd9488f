use Rattle.bc_library.specs.Constants.{items_at, text_at}
use Rattle.arena_heap.specs.Constants.{IsItemOf}
use Rattle.bc_library.proofs.Told.{formed_at}
use Rattle.bc_library.proofs.constants.LibraryConstants.item.Goals as goal

pub returns-in-Some-clause-formed : goal.returns-in-Some-clause-formed
returns-in-Some-clause-formed c =
    formed_at (IsItemOf (text_at c.args.self.now) (items_at c.args.self.now) c.args.c) c.in-Some.values.now c.args.i c.value_at.result c.value_at.ensures c.in-Some.ensures.told.formed
