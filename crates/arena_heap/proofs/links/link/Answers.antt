use Rattle.std.proofs.Common.{◌+◌, ◌*◌, refl, ◌∙◌, ap, arith}
use Rattle.arena_heap.specs.declared.cells.Cell.TheVariants as variants
use Rattle.arena_heap.specs.Links.{bucket_of}
use Rattle.arena_heap.specs.Cells.{texts_in}
use Rattle.arena_heap.proofs.LinkCells.{link_linked, link_relinked}
use Rattle.arena_heap.proofs.links.link.Goals as goal

pub returns-clause-linked : goal.returns-clause-linked
returns-clause-linked c =
    let r = c.args.region in
    let bucket = c.bucket_of-bucket.result in
    link_linked (texts_in c.args.cells.now.items c.args.bytes.now.items) c.args.cells.now.items r.start r.room c.args.at bucket (r.start + 3 * c.args.at) (r.start + 3 * c.args.at + 2) (r.start + 3 * bucket + 2)
    c.index.result.now c.index-3.result.now c.index-2.result.now (variants.Links c.first.result c.first-first.result) c.index-4.result.now (variants.Links (c.args.at + 1) c.next.result)
    (omega arith) c.requires.within c.bucket_of-bucket.ensures.within c.requires.plain (omega arith) (omega arith) (omega arith)
    c.index.ensures c.index-3.ensures c.index-2.ensures c.index-4.ensures (c.bucket_of-bucket.ensures.bucket ∙ ap (bucket_of (texts_in c.args.cells.now.items c.args.bytes.now.items) r.room) c.value.ensures) refl refl
    c.first.ensures c.first-first.ensures refl c.next.ensures

pub returns-clause-relinked : goal.returns-clause-relinked
returns-clause-relinked c =
    let r = c.args.region in
    let bucket = c.bucket_of-bucket.result in
    link_relinked (texts_in c.args.cells.now.items c.args.bytes.now.items) c.args.cells.now.items r.start r.room c.args.at bucket (r.start + 3 * c.args.at) (r.start + 3 * c.args.at + 2) (r.start + 3 * bucket + 2)
    c.index.result.now c.index-3.result.now c.index-2.result.now (variants.Links c.first.result c.first-first.result) c.index-4.result.now (variants.Links (c.args.at + 1) c.next.result)
    (omega arith) c.requires.within c.bucket_of-bucket.ensures.within c.requires.plain (omega arith) (omega arith) (omega arith)
    c.index.ensures c.index-3.ensures c.index-2.ensures c.index-4.ensures (c.bucket_of-bucket.ensures.bucket ∙ ap (bucket_of (texts_in c.args.cells.now.items c.args.bytes.now.items) r.room) c.value.ensures) refl refl
    c.first.ensures c.first-first.ensures refl c.next.ensures
