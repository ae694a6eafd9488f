use Rattle.std.proofs.Common.{◌+◌, ◌*◌, refl, ◌∙◌, le_refl, arith}
use Rattle.arena_heap.specs.declared.cells.Cell.TheVariants as variants
use Rattle.arena_heap.proofs.LinkCells.{linked_none, relinked_not, relinked_set, relinked_twice, unlinked_more}
use Rattle.arena_heap.specs.Cells.{part}
use Rattle.arena_heap.proofs.links.unlink.Goals as goal

pub loop-place-init : goal.loop-place-init
loop-place-init c = (relinked_not c.args.region.start c.args.region.room c.args.cells.now.items, record { none = λ bucket lt. absurd (omega arith) }, le_refl _)

pub index_mut-requires : goal.index_mut-requires
index_mut-requires c = omega (arith, c.loop-place.invariant.0.same_length, c.requires.inside)

pub loop-place-preserved : goal.loop-place-preserved
loop-place-preserved c =
    let r = c.args.region in
    let place = c.loop-place.place in
    let was = c.loop-place.invariant in
    let now = c.loop-place.cells.items in
    let at = r.start + 3 * place + 2 in
    let length_same = was.0.same_length in (
      relinked_twice r.start r.room c.args.cells.now.items now _ was.0
          (relinked_set now r.start r.room place at (variants.Links 0 0) (omega arith) (omega arith) (omega arith) refl
          (was.0.same_heads at ∙ c.requires.plain at (record { low = omega arith; high = omega arith }))),
      unlinked_more now r.start r.room place at (variants.Links 0 0) (omega arith) (omega arith) (omega arith) refl was.1,
      was.2,
    )

pub returns-clause-linked : goal.returns-clause-linked
returns-clause-linked c =
    let r = c.args.region in
    λ texts. linked_none texts (part c.loop-place.cells.items r.start (3 * r.room)) r.room (λ bucket lt. c.loop-place.invariant.1.none bucket (omega arith))

pub returns-clause-relinked : goal.returns-clause-relinked
returns-clause-relinked c = c.loop-place.invariant.0
