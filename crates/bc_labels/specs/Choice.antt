-- The choice of widths with the fewest wide offsets, and the bytes under it.
use Rattle.std.specs.Prelude.{◌≡◌, ◌⊎◌, ℕ, zero, suc, ◌<◌, List, [], ◌∷◌, ◌++◌, length, All, count_by, Bool, true, false, not, ℤ}
use Rattle.std.specs.List.{flat_map}
use Rattle.bc_ops.specs.declared.instr.Instr.{Instr}
use Rattle.bc_ops.specs.declared.instr.Instr.TheVariants as instrs
use Rattle.bc_ops.specs.Code.{spelling, IsEncodable}
use Rattle.bc_ops.specs.Offset as offsets
use Rattle.bc_labels.specs.declared.labelled.Labelled.{Labelled}
use Rattle.bc_labels.specs.declared.labelled.Labelled.TheVariants.{At, Plain, Jump, Unwind}
use Rattle.bc_labels.specs.Labels.{is_jump, signed_of}
use Rattle.bc_labels.specs.Places.{item_at, width_at, offset}

-- the offset of the item fits one byte, or two
abbrev pub FitsAt : List Labelled → List Bool → ℕ → Bool → Type 0
FitsAt items widths i wide = offsets.Fits (signed_of (item_at items i)) wide (offset items widths i)

-- each offset of this width fits it
abbrev pub AllFit : List Labelled → List Bool → Bool → Type 0
AllFit items widths wide = (i : ℕ) → i < length items → is_jump (item_at items i) ≡ true → width_at widths i ≡ wide → FitsAt items widths i wide

-- each offset that is not wide fits one byte
abbrev pub ShortFit : List Labelled → List Bool → Type 0
ShortFit items widths = AllFit items widths false

-- what is wide here is wide in every choice in which the offsets that are not wide fit one byte
abbrev pub IsNeeded : List Labelled → List Bool → Type 0
IsNeeded items widths =
    (other : List Bool) → ShortFit items other → (i : ℕ) → width_at widths i ≡ true → width_at other i ≡ true

-- the choice with the fewest wide offsets of those in which the others fit one byte
pub record IsFewest (items : List Labelled) (widths : List Bool) : Type 0 where
  pub sized : length widths ≡ length items
  pub short_fit : ShortFit items widths
  pub needed : IsNeeded items widths

-- an offset that has to be wide
pub record IsUnfit (items : List Labelled) (widths : List Bool) (i : ℕ) : Type 0 where
  pub jumps : is_jump (item_at items i) ≡ true
  pub within : i < length items
  pub short : width_at widths i ≡ false
  pub unfit : FitsAt items widths i false → ⊥

-- what is wide behind a round was wide, or had to be
abbrev pub IsRound : List Labelled → List Bool → List Bool → Type 0
IsRound items old new = (i : ℕ) → width_at new i ≡ true → (width_at old i ≡ true) ⊎ IsUnfit items old i

-- how many offsets are not wide
abbrev pub shorts : List Bool → ℕ
shorts widths = count_by not widths

-- the instruction of an item: none of a label
abbrev pub instr_of : Labelled → ℤ → Bool → List Instr
instr_of (At label) offset wide = []
instr_of (Plain instr) offset wide = instr ∷ []
instr_of (Jump op label) offset wide = instrs.Jump op offset wide ∷ []
instr_of (Unwind label byte) offset wide = instrs.Unwind offset wide byte ∷ []

-- the instructions of the first items, as many as the third argument says
abbrev pub instrs_to : List Labelled → List Bool → ℕ → List Instr
instrs_to items widths zero = []
instrs_to items widths (suc i) = instrs_to items widths i ++ instr_of (item_at items i) (offset items widths i) (width_at widths i)

-- the instructions of all items
abbrev pub instrs_of : List Labelled → List Bool → List Instr
instrs_of items widths = instrs_to items widths (length items)

-- their bytes
abbrev pub laid_out : List Labelled → List Bool → List ℕ
laid_out items widths = flat_map spelling (instrs_of items widths)

-- the bytes are those of the items, with the fewest wide offsets
pub record IsLayout (items : List Labelled) (bytes : List ℕ) : Type 0 where
  pub widths : List Bool
  pub fewest : IsFewest items widths
  pub wide_fit : AllFit items widths true
  pub bytes_are : bytes ≡ laid_out items widths

-- with the fewest wide offsets one of these fits no two bytes
pub record IsTooFar (items : List Labelled) : Type 0 where
  pub widths : List Bool
  pub fewest : IsFewest items widths
  pub at : ℕ
  pub within : at < length items
  pub jumps : is_jump (item_at items at) ≡ true
  pub wide : width_at widths at ≡ true
  pub far : FitsAt items widths at true → ⊥

-- the bytes are those of a list of instructions that may be written
pub record IsCode (bytes : List ℕ) : Type 0 where
  pub instrs : List Instr
  pub bytes_are : bytes ≡ flat_map spelling instrs
  pub encodable : All IsEncodable instrs
