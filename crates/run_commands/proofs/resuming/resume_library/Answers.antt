use Rattle.std.proofs.Common.{Bool, Option, ap, refl, sym, subst, ◌∙◌}
use Rattle.mpy_io.specs.Files.{FileOf}
use Rattle.mpy_io.specs.Count.{Counts}
use Rattle.run_commands.specs.Ready.{begins_image}
use Rattle.run_commands.specs.Resume.{not_read}
use Rattle.run_commands.specs.Run.{FileLibrary}
use Rattle.run_commands.proofs.Resumption.{file_comes, image_comes, image_counted, image_unloaded}
use Rattle.run_commands.proofs.Starting.{unread_unloaded}
use Rattle.run_commands.proofs.resuming.resume_library.Goals as goal

pub returns-in-Err-clause-comes : goal.returns-in-Err-clause-comes
returns-in-Err-clause-comes g c = not_read c.in-Err.ending c.in-Err.ensures.refused refl

pub returns-in-Err-clause-unloaded : goal.returns-in-Err-clause-unloaded
returns-in-Err-clause-unloaded g c = unread_unloaded (g.F.Folder.files c.args.folder.now) c.args.name.now c.in-Err.ending c.in-Err.ensures.refused

-- an image
-- ========

pub returns-then-begins_image-clause-comes : goal.returns-then-begins_image-clause-comes
returns-then-begins_image-clause-comes g c =
    image_comes c.args.below.now (g.F.Folder.files c.args.folder.now) c.args.name.now c.in-Ok.bytes.items c.deref-then-begins_image.result.now c.begins_image.result c.opened_image.result
    c.deref-then-begins_image.ensures.value c.in-Ok.ensures.read c.in-Ok.ensures.short (c.begins_image.ensures ∙ ap begins_image (c.deref.ensures.value ∙ sym c.deref-then-begins_image.ensures.value)) c.if-begins_image.true c.opened_image.ensures.comes

pub returns-then-begins_image-clause-unloaded : goal.returns-then-begins_image-clause-unloaded
returns-then-begins_image-clause-unloaded g c = image_unloaded c.args.below.now c.deref-then-begins_image.result.now c.opened_image.result c.opened_image.ensures.comes

pub returns-then-begins_image-clause-counts : goal.returns-then-begins_image-clause-counts
returns-then-begins_image-clause-counts g c =
    subst (λ (failed : Bool). Counts (g.F.Folder.count c.args.folder.now) (g.F.Folder.count c.read_file.new.folder) failed)
    (sym (image_counted c.args.below.now c.deref-then-begins_image.result.now c.opened_image.result c.opened_image.ensures.comes)) c.in-Ok.ensures.counts

-- a file
-- ======

pub returns-clause-comes : goal.returns-clause-comes
returns-clause-comes g c =
    let files = g.F.Folder.files c.args.folder.now in
    let comes = subst (λ (f : Option FileOf). FileLibrary f c.args.name.now c.file_library.result) c.in-Ok.ensures.files c.file_library.ensures.comes in
    file_comes c.args.below.now files c.args.name.now c.in-Ok.bytes.items c.deref.result.now c.begins_image.result c.file_library.result
    c.deref.ensures.value c.in-Ok.ensures.read c.begins_image.ensures c.if-begins_image.false comes
