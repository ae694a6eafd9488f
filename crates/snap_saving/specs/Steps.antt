-- The bytes of a snapshot, part by part, as they are added.
use Rattle.std.specs.Prelude.{◌≡◌, ℕ, ◌+◌, ◌-◌, ◌≤◌, List, [], ◌++◌, length, filter, is_some, reverse, Option, Some, None, min}
use Rattle.std.specs.Prelude.{slice_get, slice_index, if◌then◌else◌}
use Rattle.std.specs.List.{flat_map}
use Rattle.std.specs.Int.{w64, to_le_bytes}
use Rattle.mpy_base.specs.World.{Heap, object}
use Rattle.mpy_base.specs.Weights.{used}
use Rattle.arena_heap.specs.declared.value.Value.{Value}
use Rattle.arena_heap.specs.Values.{ArenaObject}
use Rattle.bc_library.specs.declared.fault.Member.{Member}
use Rattle.bc_library.specs.declared.fault.Member.TheVariants as members
use Rattle.bc_library.specs.Shelf.{Shelf}
use Rattle.vm_frames.specs.declared.slot.Slot.{Slot}
use Rattle.vm_frames.specs.declared.slot.Entry.{Entry}
use Rattle.vm_frames.specs.Calls.{Call}
use Rattle.prim_modules.specs.declared.entry.Entry.{Entry as Registered}
use Rattle.prim_modules.specs.Registry.{Registry}
use Rattle.snap_grammar.specs.Spelling.{header}
use Rattle.snap_saving.specs.Put as put
use Rattle.snap_saving.specs.Shown.{place_in, value_part, object_part, local_part, slot_part, entry_part, frame_part}
use Rattle.snap_saving.specs.Shown.{registered_part, role_part, is_shown, shown_slots}

-- the place of an object in a list of places, one for each cell, and for each further cell the last
abbrev pub found : List ℕ → ℕ → ℕ
found places cell = slice_index places (min cell (length places - 1))

-- the number of a module, 0 where the name leads to none
abbrev pub number_in : Option Member → ℕ
number_in (Some (members.Module number)) = number
number_in _ = 0

-- the places of an arena's objects: for each of its cells, and for the one after them
pub record ArePlaces (heap : Heap Value ℕ) (places : List ℕ) : Type 0 where
  pub long : length places ≡ used heap + 1
  pub each : (cell : ℕ) → cell ≤ used heap → slice_get places cell ≡ Some (place_in heap cell)

module _ (place : ℕ → ℕ) where
  -- an entry of a frame that stands at this offset
  abbrev pub entry_bytes : ℕ → Entry → List ℕ
  entry_bytes at e = put.entry (entry_part place at e)

  -- what a frame runs, where it stands, its namespace and its role
  abbrev pub running_bytes : Call → List ℕ
  running_bytes c = put.number c.module_number ++ (put.number c.code ++ (put.number c.at ++ (put.number (place c.names.cell) ++ put.role (role_part place c.role))))

  -- how many entries, and these
  abbrev pub entries_bytes : ℕ → List Entry → List ℕ
  entries_bytes at es = put.number (length es) ++ flat_map (entry_bytes at) es

  -- a registered module
  abbrev pub registered_bytes : Registered → List ℕ
  registered_bytes e = put.number (registered_part place e)

  -- how many registered modules, and these
  abbrev pub registry_bytes : Registry → List ℕ
  registry_bytes modules = put.number (length modules.entries) ++ flat_map registered_bytes modules.entries

module _ (shelf : Shelf) (place : ℕ → ℕ) where
  -- a value
  abbrev pub value_bytes : Value → List ℕ
  value_bytes v = put.value (value_part shelf place v)

  -- a pair of a dict
  abbrev pub pair_bytes : Value × Value → List ℕ
  pair_bytes p = value_bytes p.0 ++ value_bytes p.1

  -- an object, if there is one
  abbrev pub object_bytes : Option ArenaObject → List ℕ
  object_bytes None = []
  object_bytes (Some o) = put.object (object_part shelf place o)

  -- the object that begins at a cell, if one does
  abbrev pub bytes_at : Heap Value ℕ → ℕ → List ℕ
  bytes_at heap cell = object_bytes (object heap.objects cell)

  -- a local
  abbrev pub local_bytes : Option Value → List ℕ
  local_bytes local = put.slot (local_part shelf place local)

  -- a slot that is shown
  abbrev pub slot_bytes : Slot → List ℕ
  slot_bytes s = put.slot (slot_part shelf place s)

  -- a slot below another one, if it is shown
  abbrev pub shown_bytes : Slot → Option Slot → List ℕ
  shown_bytes s above = if is_shown s above then slot_bytes s else []

  -- how many locals, and these
  abbrev pub locals_bytes : List (Option Value) → List ℕ
  locals_bytes locals = put.number (length locals) ++ flat_map local_bytes locals

  -- how many slots that are shown, and these
  abbrev pub slots_bytes : List Slot → List ℕ
  slots_bytes ss = put.number (length (shown_slots ss)) ++ flat_map slot_bytes (shown_slots ss)

  -- a frame
  abbrev pub call_bytes : Call → List ℕ
  call_bytes c = put.frame (frame_part shelf place c)

  -- how many frames, and these, from the outermost on
  abbrev pub calls_bytes : List Call → List ℕ
  calls_bytes calls = put.number (length calls) ++ flat_map call_bytes (reverse calls)

  -- how many objects, and these
  abbrev pub heap_bytes : Heap Value ℕ → List ℕ
  heap_bytes heap = put.number (length (filter is_some heap.objects)) ++ flat_map object_bytes heap.objects

-- the header, the room and what is used of it, and the paid steps
abbrev pub head_bytes : Heap Value ℕ → (paid : ℕ) → List ℕ
head_bytes heap paid =
    header ++ (put.number heap.cell_size ++ (put.number heap.byte_size ++ (put.number (used heap) ++ (put.number heap.bytes ++ to_le_bytes w64 paid))))
