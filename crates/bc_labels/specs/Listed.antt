-- The list that a layout is read as.
use Rattle.std.specs.Prelude.{ℕ, List, [], ◌∷◌, count_by, Bool, true, false, nat_lt, if◌then◌else◌, pos}
use Rattle.std.specs.List.{before_first, flat_map}
use Rattle.bc_ops.specs.declared.listing.Target.{Target}
use Rattle.bc_ops.specs.declared.listing.Target.TheVariants.{Position, Offset}
use Rattle.bc_ops.specs.declared.listing.Item.{Item}
use Rattle.bc_ops.specs.declared.listing.Item.TheVariants as listing
use Rattle.bc_labels.specs.declared.labelled.Labelled.{Labelled}
use Rattle.bc_labels.specs.declared.labelled.Labelled.TheVariants.{At, Plain, Jump, Unwind}
use Rattle.bc_labels.specs.Labels.{is_label}

-- is the item an instruction?
abbrev pub is_instr : Labelled → Bool
is_instr (At label) = false
is_instr item = true

-- how many instructions stand in front of the label
abbrev pub label_position : List Labelled → ℕ → ℕ
label_position items label = count_by is_instr (before_first (is_label label) items)

-- where a jump to the label goes: to the instruction behind it, and to the end of the bytes where there is none
abbrev pub label_target : List Labelled → ℕ → ℕ → Target
label_target items len label =
    if nat_lt (label_position items label) (count_by is_instr items) then Position (label_position items label) else Offset (pos len)

-- the item in the list: none of a label
abbrev pub listed_item : List Labelled → ℕ → Labelled → List Item
listed_item items len (At label) = []
listed_item items len (Plain instr) = listing.Plain instr ∷ []
listed_item items len (Jump op label) = listing.Jump op (label_target items len label) ∷ []
listed_item items len (Unwind label byte) = listing.Unwind (label_target items len label) byte ∷ []

-- the list of a layout of `len` bytes
abbrev pub listed : List Labelled → ℕ → List Item
listed items len = flat_map (listed_item items len) items
