use Rattle.std.proofs.Common.{Bool, Option, ap, refl, sym, subst, ◌∙◌}
use Rattle.mpy_io.specs.Files.{FileOf}
use Rattle.mpy_io.specs.Count.{Counts}
use Rattle.run_commands.specs.Ready.{FirstOf, begins_image, not_read}
use Rattle.run_commands.specs.Run.{FileLibrary}
use Rattle.run_commands.proofs.Starting.{unread_unloaded, image_unloaded, image_counted, image_run, file_run}
use Rattle.run_commands.proofs.run.run_ready.Goals as goal

pub returns-in-Err-clause-comes : goal.returns-in-Err-clause-comes
returns-in-Err-clause-comes g c = not_read c.in-Err.ending c.in-Err.ensures.refused refl

pub returns-in-Err-clause-unloaded : goal.returns-in-Err-clause-unloaded
returns-in-Err-clause-unloaded g c = unread_unloaded (g.F.Folder.files c.args.folder.now) c.args.name.now c.in-Err.ending c.in-Err.ensures.refused

-- an image
-- ========

pub returns-then-begins_image-clause-comes : goal.returns-then-begins_image-clause-comes
returns-then-begins_image-clause-comes g c =
    image_run c.args.below.now c.args.main.now (g.F.Folder.files c.args.folder.now) c.args.name.now c.in-Ok.bytes.items c.deref-then-begins_image.result.now c.begins_image.result c.image_ready.result
    c.as_bytes.result.now c.deref-then-begins_image.ensures.value c.as_bytes.ensures.value c.in-Ok.ensures.read c.in-Ok.ensures.short (c.begins_image.ensures ∙ ap begins_image (c.deref.ensures.value ∙ sym c.deref-then-begins_image.ensures.value)) c.if-begins_image.true c.image_ready.ensures.start

pub returns-then-begins_image-clause-unloaded : goal.returns-then-begins_image-clause-unloaded
returns-then-begins_image-clause-unloaded g c = image_unloaded c.args.below.now c.as_bytes.result.now c.deref-then-begins_image.result.now c.image_ready.result c.image_ready.ensures.start

pub returns-then-begins_image-clause-counts : goal.returns-then-begins_image-clause-counts
returns-then-begins_image-clause-counts g c =
    subst (λ (failed : Bool). Counts (g.F.Folder.count c.args.folder.now) (g.F.Folder.count c.read_file.new.folder) failed)
    (sym (image_counted c.args.below.now c.as_bytes.result.now c.deref-then-begins_image.result.now c.image_ready.result c.image_ready.ensures.start)) c.in-Ok.ensures.counts

-- a file
-- ======

pub returns-clause-comes : goal.returns-clause-comes
returns-clause-comes g c =
    let files = g.F.Folder.files c.args.folder.now in
    let comes = subst (λ (f : Option FileOf). FirstOf (FileLibrary f c.args.name.now) c.file_ready.result) c.in-Ok.ensures.files c.file_ready.ensures.comes in
    file_run c.args.below.now c.args.main.now files c.args.name.now c.in-Ok.bytes.items c.deref.result.now c.begins_image.result c.file_ready.result
    c.deref.ensures.value c.in-Ok.ensures.read c.begins_image.ensures c.if-begins_image.false comes
