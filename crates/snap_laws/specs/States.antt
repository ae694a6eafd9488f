-- States of the machine whose objects have other numbers.
use Rattle.std.specs.Prelude.{◌≡◌, ℕ, List, map, Some}
use Rattle.std.specs.Option.{option_map}
use Rattle.bc_machine.specs.mpy_base.Val.{PlainWorld}
use Rattle.bc_machine.specs.py_effects.Ends.{End}
use Rattle.bc_machine.specs.mpy_tree.Raw as raw
use Rattle.bc_machine.specs.mpy_tree.Resolved.{ResolvedModule, Resolves}
use Rattle.bc_machine.specs.Library.{Name, Item, Loads, Line, Module, Holds, Library, entry_in, code_at, module_of}
use Rattle.bc_machine.specs.State.{Slot, Value, Null, Object, Iter, KeptReturn, KeptJump, Entry, Role, Main, Called, Imported}
use Rattle.bc_machine.specs.State.{Frame, State, Running, Halted, Stuck}
use Rattle.bc_machine.specs.Step.{line_at}
use Rattle.snap_laws.specs.Renamed.{Renaming, value}
use Rattle.snap_laws.specs.Worlds.{IsWorld, locals_as, end_as}

-- the module is the one that a file holds
pub record IsOfFile (m : Module) : Type 0 where
  pub held : raw.Module
  pub tree : ResolvedModule
  pub resolves : Resolves held tree
  pub is : m ≡ module_of tree

-- each module of the library is one that a file holds
pub record OfFiles (library : Library) : Type 0 where
  pub files : (name : Name) (m : Module) → entry_in library name ≡ Some (Holds m) → IsOfFile m

module _ (r : Renaming) where
  -- a slot of a frame
  abbrev pub slot_as : Slot → Slot
  slot_as (Value v) = Value (value r v)
  slot_as Null = Null
  slot_as (Object o) = Object (option_map (value r) o)
  slot_as (Iter over at part) = Iter (value r over) at part
  slot_as (KeptReturn v) = KeptReturn (value r v)
  slot_as (KeptJump target count iterator) = KeptJump target count iterator

  -- a handler entry
  abbrev pub entry_as : Entry → Entry
  entry_as e = record e { kept = option_map r.to e.kept }

  -- what a frame's end does
  abbrev pub role_as : Role → Role
  role_as Main = Main
  role_as Called = Called
  role_as (Imported name m) = Imported name (r.to m)

  -- a call
  abbrev pub frame_as : Frame → Frame
  frame_as f = record f {
    locals = locals_as r f.locals;
    slots = map slot_as f.slots;
    entries = map entry_as f.entries;
    names = r.to f.names;
    role = role_as f.role;
  }

  -- the second state is the first one with other numbers
  pub data IsState : State → State → Type 0 where
    runs : {paid : ℕ} {frame : Frame} {frames : List Frame} {w u : PlainWorld} → IsWorld r w u
        → IsState (Running paid frame frames w) (Running paid (frame_as frame) (map frame_as frames) u)
    halts : {end : End} {w u : PlainWorld} → IsWorld r w u → IsState (Halted end w) (Halted (end_as r end) u)
    sticks : {w u : PlainWorld} → IsWorld r w u → IsState (Stuck w) (Stuck u)

  -- an instruction loads no object that has another number
  abbrev pub Stays : Item → Type 0
  Stays (Loads v) = value r v ≡ v
  Stays _ = Unit {0}

  -- no constant of the library is such an object
  pub record KeepsConstants (library : Library) : Type 0 where
    pub stays : (name : Name) (number position : ℕ) (l : Line) → line_at (code_at library name number) position ≡ Some l → Stays l.item
