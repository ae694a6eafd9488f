-- A layout with the starts of its instructions.
use Rattle.std.specs.Prelude.{◌≡◌, List}
use Rattle.bc_labels.specs.declared.labelled.Labelled.{Labelled}
use Rattle.bc_labels.specs.Choice.{IsLayout, instrs_of}
use Rattle.mpy_tree.specs.Canonical.{offsets}
use Rattle.mpy_writer.specs.declared.layout.Layout.{Layout}

-- its bytes are those of the items with the fewest wide offsets, and its starts are where their instructions start
pub record IsLaidOut (items : List Labelled) (layout : Layout) : Type 0 where
  pub bytes : IsLayout items layout.bytes.items
  pub starts : layout.starts.items ≡ offsets 0 (instrs_of items bytes.widths)
