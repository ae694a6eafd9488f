use Rattle.std.proofs.Common.{refl, subst}
use Rattle.image_open.specs.image_grammar.bc_library.Shelf.{Shelf}
use Rattle.mpy_endings.specs.declared.ending.Ending.TheVariants.{NoMemory}
use Rattle.meant_commands.specs.run_commands.Ready.{RunLibrary, not_read}
use Rattle.mpy_tool.proofs.running.ready_below.Goals as goal

pub returns-in-Ok-clause-comes : goal.returns-in-Ok-clause-comes
returns-in-Ok-clause-comes g c =
    subst (λ (below : Shelf). RunLibrary below c.args.main.now (g.F.Folder.files c.args.folder.now) c.args.name.now c.run_ready.result) c.in-Ok.ensures.below c.run_ready.ensures.comes

pub returns-in-Err-clause-comes : goal.returns-in-Err-clause-comes
returns-in-Err-clause-comes g c = not_read NoMemory tt refl
