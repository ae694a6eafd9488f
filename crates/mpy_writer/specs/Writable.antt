-- Modules that may be written.
use Rattle.std.specs.Prelude.{◌≡◌, ℕ, zero, suc, ◌*◌, ◌^◌, ◌<◌, ◌≤◌, List, [], ◌∷◌, length, All}
use Rattle.mpy_base.specs.declared.limits.TheConstants.{MAX_TABLE, MAX_DEPTH, MAX_STATE, MAX_HANDLERS, MAX_ARGUMENTS}
use Rattle.mpy_tree.specs.bc_ops.declared.form.Form.TheVariants as forms
use Rattle.mpy_tree.specs.bc_ops.declared.instr.Op.TheVariants.{LoadConstObj}
use Rattle.mpy_tree.specs.bc_ops.declared.instr.Instr.{Instr}
use Rattle.mpy_tree.specs.bc_ops.declared.instr.Instr.TheVariants as instrs
use Rattle.mpy_tree.specs.bc_ops.Table.{code_of, form_of}
use Rattle.mpy_tree.specs.bc_ops.Code.{IsEncodable}
use Rattle.bc_labels.specs.Labels.{HasNoOffset, HasOffset}
use Rattle.mpy_tree.specs.declared.module.Constant.{Constant, out-Constant}
use Rattle.mpy_tree.specs.declared.module.Constant.TheOpen.{Constant-F}
use Rattle.mpy_tree.specs.declared.module.Item.{Item}
use Rattle.mpy_tree.specs.declared.module.Item.TheVariants as items
use Rattle.mpy_tree.specs.declared.module.Code.{Code, out-Code}
use Rattle.mpy_tree.specs.declared.module.ModuleCode.{ModuleCode}
use Rattle.mpy_tree.specs.File.{IsAscii, IsSmall}
use Rattle.mpy_writer.specs.Codes.{codes}

-- a text is ASCII, and the number in front of it is one of a file
pub record IsText (text : List ℕ) : Type 0 where
  pub ascii : IsAscii text
  pub short : 2 * length text < 2 ^ 31

-- an object that is no tuple
abbrev pub IsAtomBy : Constant-F Constant → Type 0
IsAtomBy (Constant-F.Tuple items) = ⊥
IsAtomBy (Constant-F.Str text) = IsText text
IsAtomBy (Constant-F.Int n) = IsSmall n
IsAtomBy object = Unit {0}

-- an object, by what holds of those in it
abbrev pub IsFineBy : (Constant → Type 0) → Constant-F Constant → Type 0
IsFineBy Inner (Constant-F.Tuple items) = (length items < 2 ^ 31) × All Inner items
IsFineBy Inner object = IsAtomBy object

-- an object of that number of levels of tuples at most, with fine texts and small integers
unfoldable pub IsFine : ℕ → Constant → Type 0
IsFine zero object = IsAtomBy (out-Constant object)
IsFine (suc levels) object = IsFineBy (IsFine levels) (out-Constant object)

-- the instruction names no text, no object and no place
abbrev pub IsPlain : Instr → Type 0
IsPlain (instrs.Name op n) = ⊥
IsPlain (instrs.Num LoadConstObj n) = ⊥
IsPlain (instrs.Jump op offset wide) = ⊥
IsPlain (instrs.Unwind offset wide byte) = ⊥
IsPlain instr = Unit {0}

-- the position of one of `count` instructions, of 32 bits as in an item
pub record IsPosition (count position : ℕ) : Type 0 where
  pub within : position < count
  pub small : position < 2 ^ 32

-- the operation is one of its kind, the operand keeps its bounds, and a jump names one of `count` instructions; the fact
-- `IsInstr` holds of a plain instruction
abbrev pub IsItemWith : (Instr → Type 0) → ℕ → Item → Type 0
IsItemWith IsInstr count (items.Plain instr) = IsInstr instr × IsEncodable instr
IsItemWith IsInstr count (items.Named op text) = (form_of (code_of op) ≡ forms.Name op) × IsText text
IsItemWith IsInstr count (items.Object object) = IsFine MAX_DEPTH object
IsItemWith IsInstr count (items.Jump op position) = HasOffset (form_of (code_of op)) op × IsPosition count position
IsItemWith IsInstr count (items.Unwind position byte) = IsPosition count position

-- plain instructions name no text, no object and no place
abbrev pub IsSoundItem : ℕ → Item → Type 0
IsSoundItem count item = IsItemWith IsPlain count item

-- plain instructions may have the number of a text or an object
abbrev pub IsNumberedItem : ℕ → Item → Type 0
IsNumberedItem count item = IsItemWith HasNoOffset count item

-- the lines never fall, from such a line on
abbrev pub NeverFall : ℕ → List ℕ → Type 0
NeverFall line [] = Unit {0}
NeverFall line (next ∷ lines) = (line ≤ next) × NeverFall next lines

-- a code keeps the limits, and such a fact holds of its instructions
pub record IsCodeWith (IsItem : ℕ → Item → Type 0) (code : Code) : Type 0 where
  pub name : IsText (out-Code code).name
  pub args : All IsText (out-Code code).args
  pub few_args : length (out-Code code).args ≤ MAX_ARGUMENTS
  pub defaults : (out-Code code).defaults ≤ length (out-Code code).args
  pub some_state : 1 ≤ (out-Code code).n_state
  pub few_state : (out-Code code).n_state ≤ MAX_STATE
  pub few_handlers : (out-Code code).n_exc ≤ MAX_HANDLERS
  pub instrs : All (IsItem (length (out-Code code).instrs)) (out-Code code).instrs
  pub a_line_each : length (out-Code code).lines ≡ length (out-Code code).instrs
  pub lines : NeverFall 1 (out-Code code).lines
  pub few_children : length (out-Code code).children ≤ MAX_TABLE

-- a code that may be written, whose plain instructions name no text, no object and no place
abbrev pub IsSoundCode : Code → Type 0
IsSoundCode code = IsCodeWith IsSoundItem code

-- a code that may be written, whose plain instructions may have the number of a text or an object, but no place
abbrev pub IsNumberedCode : Code → Type 0
IsNumberedCode code = IsCodeWith IsNumberedItem code

-- the code has that number of levels of codes at most, itself among them
unfoldable pub IsShallow : ℕ → Code → Type 0
IsShallow zero code = ⊥
IsShallow (suc levels) code = All (IsShallow levels) (out-Code code).children

-- a module that may be written: it keeps the limits of a file, and its codes nest no deeper than a file's
pub record IsWritable (m : ModuleCode) : Type 0 where
  pub source : IsText m.source
  pub shallow : IsShallow MAX_DEPTH m.code
  pub sound : All IsSoundCode (codes m)
