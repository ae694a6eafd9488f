use Rattle.std.proofs.Common.{sym, subst}
use Rattle.std.specs.Prelude.{IfErr, IfOk}
use Rattle.mpy_endings.specs.image_open.bc_library.Shelf.{Shelf}
use Rattle.mpy_endings.specs.image_open.image_grammar.Base.{IsOpened}
use Rattle.command_files.specs.Images.{HoldsImage, RefusesImage}
use Rattle.command_files.proofs.images.open_base.Goals as goal

pub open_image_file-requires : goal.open_image_file-requires
open_image_file-requires g c = subst IsOpened (sym c.in-Ok.ensures) c.over_law.ensures.nothing

pub returns-in-Ok-clause-holds : goal.returns-in-Ok-clause-holds
returns-in-Ok-clause-holds g c =
    subst (λ (below : Shelf). IfOk c.open_image_file.result (HoldsImage below (g.F.Folder.files c.args.folder.now) c.args.name.now)) c.in-Ok.ensures c.open_image_file.ensures.holds

pub returns-in-Ok-clause-refused : goal.returns-in-Ok-clause-refused
returns-in-Ok-clause-refused g c =
    subst (λ (below : Shelf). IfErr c.open_image_file.result (RefusesImage below (g.F.Folder.files c.args.folder.now) c.args.name.now)) c.in-Ok.ensures c.open_image_file.ensures.refused
