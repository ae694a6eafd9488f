use Rattle.std.proofs.Common.{ℕ, List, Option, sym, subst}
use Rattle.mpy_io.specs.Files.{FileOf}
use Rattle.image_open.specs.image_grammar.bc_library.Shelf.{Shelf}
use Rattle.image_open.specs.image_grammar.Base.{base_of}
use Rattle.meant_commands.specs.file_commands.Freeze.{Freezes}
use Rattle.meant_commands.specs.image_freeze.Fronts.{MayLieOver}
use Rattle.mpy_tool.specs.Below.{image_version}
use Rattle.mpy_tool.proofs.Under.{is_opened, may_lie}
use Rattle.mpy_tool.proofs.doing.freeze_below.Goals as goal

pub or_nothing-requires : goal.or_nothing-requires
or_nothing-requires g c = is_opened c.args.below c.args.base c.requires

pub freeze-requires-clause-version : goal.freeze-requires-clause-version
freeze-requires-clause-version g c =
    subst (MayLieOver (base_of c.in-Ok.below)) (sym c.image_version-version.ensures) (may_lie c.args.below c.args.base c.in-Ok.below c.requires c.in-Ok.ensures.below)

pub freeze-requires-clause-alone : goal.freeze-requires-clause-alone
freeze-requires-clause-alone g c = c.in-Ok.ensures.opened.alone

pub returns-in-Ok-clause-went : goal.returns-in-Ok-clause-went
returns-in-Ok-clause-went g c =
    let files = g.F.Folder.files in
    let old = files c.args.folder.now in
    let new = files c.freeze.new.folder in
    subst (λ (below : Shelf). Freezes (image_version c.args.base) below c.args.manifest.now c.args.written.now old new c.freeze.result) c.in-Ok.ensures.below
    (subst (λ (version : ℕ). Freezes version c.in-Ok.below c.args.manifest.now c.args.written.now old new c.freeze.result) c.image_version-version.ensures c.freeze.ensures.went)
