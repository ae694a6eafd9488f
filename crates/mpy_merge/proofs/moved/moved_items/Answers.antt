use Rattle.std.proofs.Common.{◌+◌, ◌<◌, ◌++◌, [], ◌∷◌, ℕ, List, length, take, get_or, sym, subst}
use Rattle.std.specs.List.{AllZip}
use Rattle.std.proofs.lemmas.List.{take_more}
use Rattle.bc_scheme.specs.bc_ops.declared.listing.Item as listings
use Rattle.mpy_writer.specs.mpy_tree.declared.module.Item.{Item}
use Rattle.mpy_writer.specs.mpy_tree.Raw.{Module}
use Rattle.mpy_writer.specs.declared.tables.Tables.{Tables}
use Rattle.mpy_merge.specs.Moved.{IsMovedItem}
use Rattle.mpy_merge.proofs.Trees.{zip_push}
use Rattle.mpy_merge.proofs.moved.moved_items.Goals as goal

-- one more item
moved_at : (tables : Tables) (base : ℕ) (m : Module) (items : List listings.Item) (i : ℕ) (d : listings.Item) (moved : List Item) (made : Item) → i < length items → AllZip (IsMovedItem tables base m) (take i items) moved → IsMovedItem tables base m (get_or items i d) made
    → AllZip (IsMovedItem tables base m) (take (i + 1) items) (moved ++ made ∷ [])
moved_at tables base m items i d moved made lt so_far one =
    subst (λ (z : List listings.Item). AllZip (IsMovedItem tables base m) z (moved ++ made ∷ [])) (sym (take_more items i d lt))
    (zip_push (IsMovedItem tables base m) (take i items) moved (get_or items i d) made so_far one)

pub loop-item-preserved : goal.loop-item-preserved
loop-item-preserved c =
    subst (λ (z : List Item). AllZip (IsMovedItem c.args.tables.now c.args.base c.args.module.now) (take (c.loop-item.item-index + 1) c.args.items.now) z) (sym c.in_ok-push.ensures.items)
    (moved_at c.args.tables.now c.args.base c.args.module.now c.args.items.now c.loop-item.item-index _ c.loop-item.moved.items c.moved_item.result c.loop-item-test.true c.loop-item.invariant c.moved_item.ensures)
