-- The codes that functions are made of.
use Rattle.std.specs.Prelude.{◌≡◌, ℕ, List, Option, Some, slice_get, if◌then◌else◌}
use Rattle.mpy_base.specs.World.{Objects}
use Rattle.mpy_base.specs.Val.{Val, PlainWorld}
use Rattle.frame_moves.specs.arena_heap.declared.value.Value.{Value}
use Rattle.frame_moves.specs.arena_heap.declared.value.StrNo.{StrNo}
use Rattle.frame_moves.specs.arena_heap.declared.value.ConstNo.{ConstNo}
use Rattle.frame_moves.specs.py_values.Shown.{shown}
use Rattle.frame_moves.specs.py_primitives.Faults.{BadDefaults}
use Rattle.frame_moves.specs.py_effects.Effect.{Effect, faults}
use Rattle.frame_moves.specs.py_effects.Modules.{has_items, make_function}
use Rattle.frame_moves.specs.prim_walks.Plain.{plain_name}
use Rattle.frame_moves.specs.prim_faults.Faults.{IsKnown}
use Rattle.frame_moves.specs.vm_frames.declared.slot.Slot.{Slot}
use Rattle.frame_moves.specs.vm_frames.declared.slot.Slot.TheVariants as slots
use Rattle.frame_moves.specs.vm_frames.Calls.{Call}
use Rattle.frame_moves.specs.bc_machine.Library.{Code, Library, code_at}
use Rattle.frame_moves.specs.Shown.{Tables}
use Rattle.frame_calls.specs.declared.making.Child.{Child}

-- in the library the child of the call's code that has the place is this code of the call's module
pub record IsChild (tables : Tables) (library : Library) (at : ℕ) (child : Child) (c : Call) : Type 0 where
  pub parent : Code
  pub code : Code
  pub runs : code_at library (tables.module_name c.module_number) c.code ≡ Some parent
  pub numbered : slice_get parent.children at ≡ Some child.code
  pub there : code_at library (tables.module_name c.module_number) child.code ≡ Some code
  pub module_is : tables.module_name c.module_number ≡ plain_name tables.texts tables.tuples child.module_name
  pub name_is : code.name ≡ plain_name tables.texts tables.tuples child.name
  pub given_is : code.given ≡ child.given

-- a function with defaults that are a tuple of as many items as its code takes, or else a fault
abbrev pub judged : PlainWorld → (given : ℕ) → (name module_name : List ℕ) → (code names : ℕ) → (defaults : Val) → Effect Val
judged w given name module_name code names defaults =
    if has_items given (shown w.heap defaults) then make_function w name module_name code names defaults else faults BadDefaults w

-- no keyword defaults lie on top, and known defaults below
pub record HasDefaults (texts : StrNo → Option (List ℕ)) (tuples : ConstNo → Option (List Value)) (objects : Objects Value ℕ) (st : List Slot) : Type 0 where
  pub defaults : Value
  pub above : slice_get st 0 ≡ Some slots.Null
  pub there : slice_get st 1 ≡ Some (slots.Value defaults)
  pub known : IsKnown texts tuples objects defaults
