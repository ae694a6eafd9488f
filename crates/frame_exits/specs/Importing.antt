-- What an import comes to, by its operands, the registered modules, the library and the depth.
use Rattle.std.specs.Prelude.{◌≡◌, ◌≤◌, ℕ, List, length, take, Bool, true, false, Option, Some, None, slice_get}
use Rattle.mpy_base.specs.declared.builtin.Builtin.TheVariants as builtins
use Rattle.mpy_base.specs.Val.{Val, Nil, PlainWorld}
use Rattle.frame_moves.specs.arena_heap.declared.value.Value.{Value}
use Rattle.frame_moves.specs.arena_heap.declared.value.Value.TheVariants as values
use Rattle.frame_moves.specs.arena_heap.declared.value.ModuleNo.{ModuleNo}
use Rattle.frame_moves.specs.arena_heap.declared.value.StrNo.{StrNo}
use Rattle.frame_moves.specs.arena_heap.declared.value.StrNo.TheVariants as strs
use Rattle.frame_moves.specs.arena_heap.declared.value.ConstNo.{ConstNo}
use Rattle.frame_moves.specs.py_values.Shown.{shown}
use Rattle.frame_moves.specs.py_effects.Modules.{prefixes, first_of, module_named}
use Rattle.bc_library.specs.declared.fault.Member.TheVariants as members
use Rattle.bc_library.specs.Shelf.{Shelf, member_of}
use Rattle.frame_moves.specs.bc_machine.Library as machine
use Rattle.frame_moves.specs.bc_machine.Library.{Name, Library, Holds, entry_in}
use Rattle.frame_moves.specs.bc_machine.Parts.{is_zero, first_absent}
use Rattle.frame_moves.specs.prim_walks.Plain.{plain}
use Rattle.frame_moves.specs.prim_faults.declared.fault.Fault.{Fault}
use Rattle.frame_moves.specs.prim_faults.declared.fault.Fault.TheVariants as faults
use Rattle.frame_moves.specs.vm_frames.declared.slot.Slot.TheVariants as slots
use Rattle.frame_moves.specs.vm_frames.Calls.{Call, OfRunning}
use Rattle.frame_moves.specs.Shown.{Tables}
use Rattle.frame_exits.specs.declared.importing.Import.{Import}
use Rattle.frame_exits.specs.declared.importing.Import.TheVariants as imports
use Rattle.frame_exits.specs.declared.importing.Refusal.{Refusal}
use Rattle.frame_exits.specs.declared.importing.Refusal.TheVariants as refusals

-- the call's top slots: the names that are imported from the module, or None, and the level below
pub record HasOperands (from level : Value) (c : Call) : Type 0 where
  pub from_is : slice_get c.slots 0 ≡ Some (slots.Value from)
  pub level_is : slice_get c.slots 1 ≡ Some (slots.Value level)

-- the running call's top slots: the names that are imported from the module, or None, and the level below
abbrev pub AreOperands : (from level : Value) → List Call → Type 0
AreOperands from level calls = OfRunning (HasOperands from level) calls

-- a module, or `port`
pub data IsModule : Value → Type 0 where
  registered : (m : ModuleNo) → IsModule (values.Module m)
  port : IsModule (values.Built builtins.Port)

-- the module that an import gives: that of the first prefix where no names are imported from it, and else the named one
abbrev pub given_name : Val → Name → Name
given_name Nil name = first_of (prefixes name)
given_name from name = name

-- there is no entry of the module that is to begin, or a refused one, or a module, which begins where there is depth
abbrev pub IsBeginning : Shelf → (deep : Bool) → (len : ℕ) → (prefix : Name) → Import → Type 0
IsBeginning shelf deep len prefix (imports.Put v) = ⊥
IsBeginning shelf deep len prefix (imports.Begin number) = (member_of shelf prefix ≡ Some (members.Module number)) × (deep ≡ true)
IsBeginning shelf deep len prefix (imports.Stops refusals.Relative) = ⊥
IsBeginning shelf deep len prefix (imports.Stops (refusals.Missing missing)) = (member_of shelf prefix ≡ None) × (missing ≡ len)
IsBeginning shelf deep len prefix (imports.Stops refusals.Incompatible) = member_of shelf prefix ≡ Some members.Refused
IsBeginning shelf deep len prefix (imports.Stops refusals.TooDeep) = (number : ℕ) × (member_of shelf prefix ≡ Some (members.Module number)) × (deep ≡ false)

module _ (texts : StrNo → Option (List ℕ)) (tuples : ConstNo
    → Option (List Value)) (shelf : Shelf) (w : PlainWorld) (deep : Bool) (name : Name) (from level : Value) where
  -- the level is 0, and the first prefix of the name that isn't registered has this length
  pub record IsAbsent (len : ℕ) : Type 0 where
    pub absolute : is_zero (shown w.heap (plain texts tuples level)) ≡ true
    pub absent : first_absent w (prefixes name) ≡ Some (take len name)
    pub within : len ≤ length name

  -- no prefix of the name is absent, and the value is the module that the import gives
  pub record IsGiven (v : Value) : Type 0 where
    pub absolute : is_zero (shown w.heap (plain texts tuples level)) ≡ true
    pub none_absent : first_absent w (prefixes name) ≡ None
    pub value_is : plain texts tuples v ≡ module_named w (given_name (plain texts tuples from) name)

  -- the first prefix of the name that is absent begins, or is refused
  abbrev pub Begins : Import → Type 0
  Begins import = (len : ℕ) × IsAbsent len × IsBeginning shelf deep len (take len name) import

  -- the import of the name in the world comes to this
  abbrev pub IsImport : Import → Type 0
  IsImport (imports.Put v) = IsGiven v
  IsImport (imports.Begin number) = Begins (imports.Begin number)
  IsImport (imports.Stops refusals.Relative) = is_zero (shown w.heap (plain texts tuples level)) ≡ false
  IsImport (imports.Stops (refusals.Missing len)) = Begins (imports.Stops (refusals.Missing len))
  IsImport (imports.Stops refusals.Incompatible) = Begins (imports.Stops refusals.Incompatible)
  IsImport (imports.Stops refusals.TooDeep) = Begins (imports.Stops refusals.TooDeep)

-- the fault of an import of the name whose text has this number
abbrev pub refusal_fault : (name : ℕ) → Refusal → Fault
refusal_fault name refusals.Relative = faults.RelativeImport
refusal_fault name (refusals.Missing len) = faults.NoModule (strs.Pool name) len
refusal_fault name refusals.Incompatible = faults.IncompatibleFile
refusal_fault name refusals.TooDeep = faults.TooDeep

-- the machine's library holds for each name what the shelf has: nothing, a refused file, or a module, which has the name by
-- its number
pub record StandsFor (tables : Tables) (shelf : Shelf) (library : Library) : Type 0 where
  pub absent : (name : Name) → member_of shelf name ≡ None → entry_in library name ≡ None
  pub refused : (name : Name) → member_of shelf name ≡ Some members.Refused → entry_in library name ≡ Some machine.Refused
  pub modules : (name : Name) (number : ℕ) → member_of shelf name ≡ Some (members.Module number)
      → (m : machine.Module) × (entry_in library name ≡ Some (Holds m)) × (tables.module_name number ≡ name)
