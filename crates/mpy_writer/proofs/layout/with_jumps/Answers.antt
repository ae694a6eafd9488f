use Rattle.std.proofs.Common.{Bool, List, ap, sym, ◌∙◌, length}
use Rattle.bc_labels.specs.Places.{width_at, places_to}
use Rattle.mpy_writer.specs.Positions.{numbered, spread}
use Rattle.mpy_writer.proofs.Rounds.{none_wide, none_wide_item, narrow_places, laid_out_is}
use Rattle.mpy_writer.proofs.layout.with_jumps.Goals as goal

pub settle-requires-clause-only : goal.settle-requires-clause-only
settle-requires-clause-only c i e =
    let are = c.deref_mut.ensures.value ∙ c.in_ok-widths.ensures.items_if_clones_equal (λ y same. same) in
    absurd (none_wide_item (length c.args.items.now) i (ap (λ (ws : List Bool). width_at ws i) (sym are) ∙ e))

pub settle-requires-clause-needed : goal.settle-requires-clause-needed
settle-requires-clause-needed c other fit i e =
    let are = c.deref_mut.ensures.value ∙ c.in_ok-widths.ensures.items_if_clones_equal (λ y same. same) in
    absurd (none_wide (length c.args.items.now) i (ap (λ (ws : List Bool). width_at (spread ws) i) (sym are) ∙ e))

pub settle-requires-clause-starts : goal.settle-requires-clause-starts
settle-requires-clause-starts c =
    let xs = numbered c.args.tables.now c.args.items.now in
    let n = length c.args.items.now in
    let are = c.deref_mut.ensures.value ∙ c.in_ok-widths.ensures.items_if_clones_equal (λ y same. same) in
    c.in_ok-starts.ensures.items ∙ (c.deref.ensures.value ∙ (c.requires.short ∙ (narrow_places xs n n ∙ ap (λ (ws : List Bool). places_to xs ws n) (sym are))))

pub returns-clause-ok : goal.returns-clause-ok
returns-clause-ok c =
    laid_out_is c.args.tables.now c.args.items.now c.requires.fit c.requires.sound _ _ c.in_ok-settle.ensures.fewest c.in_ok-settle.ensures.starts c.in_ok-bytes.ensures.ok
