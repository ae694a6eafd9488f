-- Arenas that are made of given objects.
use Rattle.std.specs.Prelude.{ℕ, ◌+◌, ◌*◌, ◌-◌, List, [], ◌∷◌, ◌++◌, length, replicate, Option, Some, None}
use Rattle.std.specs.List.{flat_map}
use Rattle.qstr_pool.specs.mpy_base.declared.room.Room.{Room}
use Rattle.qstr_pool.specs.mpy_base.World.{ListObject, TupleObject, TextObject, DictObject, FunctionObject, ExceptionObject, MethodObject, RangeObject, ModuleObject, Heap}
use Rattle.qstr_pool.specs.mpy_base.Weights.{IsRoom, more_cells}
use Rattle.arena_heap.specs.declared.value.Value.{Value}
use Rattle.arena_heap.specs.declared.value.Value.TheVariants as values
use Rattle.arena_heap.specs.declared.cells.Cell.{Cell}
use Rattle.arena_heap.specs.declared.cells.Cell.TheVariants as cells
use Rattle.arena_heap.specs.declared.building.Shell.{Shell}
use Rattle.arena_heap.specs.declared.building.Shell.TheVariants as shells
use Rattle.arena_heap.specs.Values.{ArenaObject}
use Rattle.arena_heap.specs.Cells.{blank, cell_of}

-- the object of a shell: an empty list or dict, a tuple of None, and each other object as it stays
abbrev pub shell_object : Shell → ArenaObject
shell_object (shells.List room) = ListObject [] room
shell_object (shells.Dict room) = DictObject [] room
shell_object (shells.Tuple count) = TupleObject (replicate count values.None)
shell_object (shells.Text bytes) = TextObject bytes.now
shell_object (shells.Fun name module_no code names defaults) = FunctionObject name module_no code names.cell defaults
shell_object (shells.Exc kind args file line name) = ExceptionObject kind args file line name
shell_object (shells.Method object method) = MethodObject object method
shell_object (shells.Range start stop step) = RangeObject start stop step
shell_object (shells.Module name names) = ModuleObject name (Some names.cell)

-- the room of a list or dict is one
abbrev pub HasRoom : Shell → Type 0
HasRoom (shells.List room) = IsRoom room
HasRoom (shells.Dict room) = IsRoom room
HasRoom _ = Unit {0}

-- the cells that an object takes. Its number is that of the first
abbrev pub laid : ArenaObject → List (Option ArenaObject)
laid o = Some o ∷ replicate (more_cells o) None

-- the cells that these objects take, one behind the other
abbrev pub all_laid : List ArenaObject → List (Option ArenaObject)
all_laid objects = flat_map laid objects

-- the heap of that size whose objects are these, one behind the other, and of which that room is used
abbrev pub heap_with : List ArenaObject → (used size : Room) → Heap Value ℕ
heap_with objects used size = record {
  objects = all_laid objects ++ replicate (used.cells - length (all_laid objects)) None;
  bytes = used.bytes;
  cell_size = size.cells;
  byte_size = size.bytes;
}

-- the first cell of an object that begins at a cell, and whose bytes begin at a byte
abbrev pub shell_head : (cell byte : ℕ) → Shell → Cell
shell_head cell byte (shells.List room) = cells.ListHead (record { start = cell + 3; len = 0; room = room })
shell_head cell byte (shells.Dict room) = cells.DictHead (record { start = cell + 3; len = 0; room = room })
shell_head cell byte (shells.Tuple count) = cells.TupleHead count
shell_head cell byte (shells.Text bytes) = cells.TextHead (record { start = byte; len = length bytes.now })
shell_head cell byte (shells.Fun name module_no code names defaults) = cells.FunHead name module_no code
shell_head cell byte (shells.Exc kind args file line name) = cells.ExcHead kind
shell_head cell byte (shells.Method object method) = cells.MethodHead method
shell_head cell byte (shells.Range start stop step) = cells.RangeHead start stop step
shell_head cell byte (shells.Module name names) = cells.ModuleHead name

-- the parts that stand behind the first cell, and None where there is no such part
abbrev pub shell_parts : Shell → List Cell
shell_parts (shells.Fun name module_no code names defaults) = cells.Dict names ∷ cell_of defaults ∷ []
shell_parts (shells.Exc kind args file line name) = cell_of args ∷ cells.Place file line name ∷ []
shell_parts (shells.Method object method) = cell_of object ∷ blank ∷ []
shell_parts (shells.Module name names) = cells.Dict names ∷ blank ∷ []
shell_parts _ = blank ∷ blank ∷ []

-- how many of these parts there are
abbrev pub part_count : Shell → ℕ
part_count (shells.Fun name module_no code names defaults) = 2
part_count (shells.Exc kind args file line name) = 2
part_count (shells.Method object method) = 1
part_count (shells.Module name names) = 1
part_count _ = 0

-- how many cells stand behind the first and these parts
abbrev pub blank_count : Shell → ℕ
blank_count (shells.List room) = 2 + room
blank_count (shells.Dict room) = 2 + 3 * room
blank_count (shells.Tuple count) = count
blank_count (shells.Text bytes) = 1
blank_count (shells.Fun name module_no code names defaults) = 1
blank_count (shells.Exc kind args file line name) = 3
blank_count (shells.Method object method) = 1
blank_count (shells.Range start stop step) = 3
blank_count (shells.Module name names) = 2

-- the bytes of a text, and none of other objects
abbrev pub shell_text : Shell → List ℕ
shell_text (shells.Text bytes) = bytes.now
shell_text _ = []
