use Rattle.std.proofs.Common.{ℕ, List, map, sym, ap₂, subst, ◌∙◌, arith}
use Rattle.std.specs.List.Sorted.{IsStrictlyIncreasing}
use Rattle.bc_ops.specs.declared.listing.Item.{Item}
use Rattle.bc_ops.specs.Parting.{placed}
use Rattle.bc_ops.proofs.Parts.{rises, all_listed, written_back}
use Rattle.bc_ops.proofs.parting.items_of.Goals as goal

pub place-requires : goal.place-requires
place-requires c = subst IsStrictlyIncreasing (sym c.deref.ensures.value) (rises c.args.code.now _ _ c.in_ok-items.ensures)

pub returns : goal.returns
returns c =
    let parted = c.in_ok-items.field-0 in
    let is = c.place.ensures ∙ ap₂ (λ (ss : List ℕ) (xs : List Item). map (placed ss) xs) c.deref.ensures.value c.deref_mut.ensures.value in
    all_listed c.args.code.now parted.offsets.items parted.items.items _ c.in_ok-items.ensures
    (written_back (placed parted.offsets.items) parted.items.items c.place.new.items parted.items.len (omega (arith, parted.items.ok.0)) is)
