-- The snapshot of a state. A state numbers an object by the cells that were used when it was made; its snapshot has the count
-- of the objects that were made before it, the object's place.
use Rattle.std.specs.Prelude.{◌≡◌, ℕ, ◌+◌, List, [], ◌∷◌, length, position, slice_get, option_and_then, map, reverse, take}
use Rattle.std.specs.Prelude.{filter, Bool, true, false, not, Option, Some, None, is_some, unwrap_or, ◌==◌, if◌then◌else◌}
use Rattle.std.specs.Option.{option_map}
use Rattle.std.specs.Str.{bytes_eq}
use Rattle.std.specs.List.{filter_map}
use Rattle.mpy_base.specs.Kind.{kind_name}
use Rattle.mpy_base.specs.World.{Heap, ListObject, TupleObject, TextObject, DictObject, FunctionObject, ExceptionObject}
use Rattle.mpy_base.specs.World.{MethodObject, RangeObject, ModuleObject}
use Rattle.mpy_base.specs.Weights.{used}
use Rattle.prim_walks.specs.py_values.Names.{builtin_name}
use Rattle.arena_heap.specs.declared.value.Value.{Value}
use Rattle.arena_heap.specs.declared.value.Value.TheVariants as values
use Rattle.arena_heap.specs.declared.value.StrNo.TheVariants as strs
use Rattle.arena_heap.specs.declared.value.ConstNo.{ConstNo}
use Rattle.arena_heap.specs.declared.value.ExcNo.{ExcNo}
use Rattle.arena_heap.specs.Values.{ArenaObject}
use Rattle.bc_library.specs.Shelf.{Shelf, names}
use Rattle.bc_library.specs.Constants.{items_at, text_at}
use Rattle.vm_frames.specs.declared.slot.Slot.{Slot}
use Rattle.vm_frames.specs.declared.slot.Slot.TheVariants as stacked
use Rattle.vm_frames.specs.declared.slot.Entry.{Entry}
use Rattle.vm_frames.specs.declared.slot.Role.{Role}
use Rattle.vm_frames.specs.declared.slot.Role.TheVariants as ends
use Rattle.vm_frames.specs.Calls.{Call}
use Rattle.vm_frames.specs.Moves.{is_active}
use Rattle.prim_modules.specs.declared.entry.Entry.{Entry as Registered}
use Rattle.prim_modules.specs.Registry.{Registry}
use Rattle.snap_grammar.specs.declared.parts.ValuePart.{ValuePart}
use Rattle.snap_grammar.specs.declared.parts.ValuePart.TheVariants as parts
use Rattle.snap_grammar.specs.declared.parts.PairPart.{PairPart}
use Rattle.snap_grammar.specs.declared.parts.ObjectPart.{ObjectPart}
use Rattle.snap_grammar.specs.declared.parts.ObjectPart.TheVariants as objects
use Rattle.snap_grammar.specs.declared.parts.SlotPart.{SlotPart}
use Rattle.snap_grammar.specs.declared.parts.SlotPart.TheVariants as slots
use Rattle.snap_grammar.specs.declared.parts.EntryPart.{EntryPart}
use Rattle.snap_grammar.specs.declared.parts.RolePart.{RolePart}
use Rattle.snap_grammar.specs.declared.parts.RolePart.TheVariants as roles
use Rattle.snap_grammar.specs.declared.parts.FramePart.{FramePart}
use Rattle.snap_grammar.specs.declared.parts.Snapshot.{Snapshot}
use Rattle.snap_grammar.specs.Spelling.{spelling}

-- how many objects were made before the one that begins at a cell
abbrev pub place_in : Heap Value ℕ → ℕ → ℕ
place_in heap cell = length (filter is_some (take cell heap.objects))

-- the text of a number; the empty text where there is none
abbrev pub name_of : Shelf → ℕ → List ℕ
name_of shelf n = unwrap_or (text_at shelf (strs.Pool n)) []

-- the number of the first module that has the name of this number
abbrev pub module_part : Shelf → ℕ → ℕ
module_part shelf name = unwrap_or (option_and_then (λ text. position (bytes_eq text) (names shelf)) (text_at shelf (strs.Pool name))) 0

-- the next slot is of the same iterator
abbrev pub goes_on : ℕ → Option Slot → Bool
goes_on part (Some (stacked.Iter over at next)) = next == part + 1
goes_on part _ = false

-- a slot below another one, if there is one, stands for itself, or for a whole iterator: its topmost slot does, and no other
abbrev pub is_shown : Slot → Option Slot → Bool
is_shown (stacked.Iter over at part) above = not (goes_on part above)
is_shown s above = true

-- of slots, from the lowest on, those that are shown
abbrev pub shown_slots : List Slot → List Slot
shown_slots [] = []
shown_slots (s ∷ above) = if is_shown s (slice_get above 0) then s ∷ shown_slots above else shown_slots above

-- a bool
abbrev pub bool_part : Bool → ValuePart
bool_part true = parts.True
bool_part false = parts.False

-- a constant tuple of these items: one without items is the empty tuple
abbrev pub fixed_part : ConstNo → Option (List Value) → ValuePart
fixed_part c (Some (item ∷ items)) = parts.Fixed c.«module» c.object
fixed_part c _ = parts.Empty

-- numbers of objects, where they have these places
module _ (place : ℕ → ℕ) where
  -- the dict of a module's names
  abbrev pub names_part : Option ℕ → ℕ
  names_part None = 0
  names_part (Some names) = place names

  -- the exception that an entry keeps
  abbrev pub kept_part : ExcNo → ℕ
  kept_part x = place x.cell

  -- an entry of a frame that stands at this offset
  abbrev pub entry_part : ℕ → Entry → EntryPart
  entry_part at e = record { handler = e.handler; is_finally = e.is_finally; active = is_active at e; height = e.height; kept = option_map kept_part e.kept }

  -- what the end of a frame does
  abbrev pub role_part : Role → RolePart
  role_part ends.Main = roles.Main
  role_part ends.Call = roles.Call
  role_part (ends.Import m) = roles.Import (place m.cell)

  -- a registered module
  abbrev pub registered_part : Registered → ℕ
  registered_part e = place e.object.cell

-- the parts of a state of the library, where the objects have these places
module _ (shelf : Shelf) (place : ℕ → ℕ) where
  -- a value
  abbrev pub value_part : Value → ValuePart
  value_part values.None = parts.None
  value_part (values.Bool b) = bool_part b
  value_part (values.Int z) = parts.Int z
  value_part (values.Str s) = parts.Str (unwrap_or (text_at shelf s) [])
  value_part (values.Fixed c) = fixed_part c (items_at shelf c)
  value_part values.Empty = parts.Empty
  value_part (values.Built b) = parts.Named (builtin_name b)
  value_part (values.List l) = parts.Object (place l.cell)
  value_part (values.Dict d) = parts.Object (place d.cell)
  value_part (values.Tuple t) = parts.Object (place t.cell)
  value_part (values.Text t) = parts.Object (place t.cell)
  value_part (values.Fun f) = parts.Object (place f.cell)
  value_part (values.Exc e) = parts.Object (place e.cell)
  value_part (values.Method m) = parts.Object (place m.cell)
  value_part (values.Range r) = parts.Object (place r.cell)
  value_part (values.Module m) = parts.Object (place m.cell)

  -- a key and its value
  abbrev pub pair_part : Value × Value → PairPart
  pair_part p = record { key = value_part p.0; value = value_part p.1 }

  -- an object
  abbrev pub object_part : ArenaObject → ObjectPart
  object_part (ListObject items room) = objects.List room (map value_part items)
  object_part (TupleObject items) = objects.Tuple (map value_part items)
  object_part (TextObject bytes) = objects.Text bytes
  object_part (DictObject pairs room) = objects.Dict room (map pair_part pairs)
  object_part (FunctionObject name module_name code names defaults) = objects.Function (module_part shelf module_name) code (place names) (value_part defaults)
  object_part (ExceptionObject kind args file line name) = objects.Exception (kind_name kind) (value_part args) (name_of shelf file) line (name_of shelf name)
  object_part (MethodObject v method) = objects.Method (value_part v) (builtin_name method)
  object_part (RangeObject start stop step) = objects.Range start stop step
  object_part (ModuleObject name names) = objects.Module (name_of shelf name) (names_part place names)

  -- an iterator whose topmost slot is this one, from 0 to 3
  abbrev pub iterator_part : Value → ℕ → ℕ → SlotPart
  iterator_part over at part = if part == 3 then slots.Iterator (value_part over) at else slots.Left (part + 1) (value_part over) at

  -- a local, or the second slot of a method's look-up: a value, or nothing
  abbrev pub local_part : Option Value → SlotPart
  local_part None = slots.Empty
  local_part (Some v) = slots.Value (value_part v)

  -- what stands in a slot that is shown
  abbrev pub slot_part : Slot → SlotPart
  slot_part (stacked.Value v) = slots.Value (value_part v)
  slot_part stacked.Null = slots.Empty
  slot_part (stacked.Object o) = local_part o
  slot_part (stacked.Iter over at part) = iterator_part over at part
  slot_part (stacked.Return v) = slots.Return (value_part v)
  slot_part (stacked.Jump target entries iterator) = slots.Jump target entries iterator

  -- a frame
  abbrev pub frame_part : Call → FramePart
  frame_part c = record {
    module_number = c.module_number;
    code = c.code;
    at = c.at;
    names = place c.names.cell;
    role = role_part place c.role;
    locals = map local_part c.locals;
    slots = map slot_part (shown_slots (reverse c.slots));
    entries = map (entry_part place c.at) (reverse c.entries);
  }

-- the state as a snapshot, with the calls from the innermost on, where the objects have these places
abbrev pub snapshot_by : Shelf → (ℕ → ℕ) → Heap Value ℕ → Registry → List Call → (paid : ℕ) → Snapshot
snapshot_by shelf place heap modules calls paid = record {
  cells = heap.cell_size;
  bytes = heap.byte_size;
  used_cells = used heap;
  used_bytes = heap.bytes;
  paid = paid;
  -- those cells at which an object begins, in order
  objects = filter_map (option_map (object_part shelf place)) heap.objects;
  modules = map (registered_part place) modules.entries;
  frames = map (frame_part shelf place) (reverse calls);
}

-- the state as a snapshot
abbrev pub snapshot_of : Shelf → Heap Value ℕ → Registry → List Call → (paid : ℕ) → Snapshot
snapshot_of shelf heap modules calls paid = snapshot_by shelf (place_in heap) heap modules calls paid

-- the bytes are the snapshot of a state of the library: of its heap, its registered modules, its calls, the innermost first, and of
-- the steps that are paid on the running instruction
pub record IsSnapshotOf (shelf : Shelf) (heap : Heap Value ℕ) (modules : Registry) (calls : List Call) (paid : ℕ) (bytes : List ℕ) : Type 0 where
  pub is : bytes ≡ spelling (snapshot_of shelf heap modules calls paid)
