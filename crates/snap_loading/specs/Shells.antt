-- The objects of a snapshot before they are filled.
use Rattle.std.specs.Prelude.{ℕ, List, [], ◌∷◌, length, replicate, Option, Some, None}
use Rattle.mpy_base.specs.World.{ListObject, TupleObject, TextObject, DictObject, FunctionObject, ExceptionObject, MethodObject, RangeObject, ModuleObject}
use Rattle.mpy_base.specs.Weights.{more_cells}
use Rattle.arena_heap.specs.declared.value.Value.TheVariants as values
use Rattle.arena_heap.specs.Values.{ArenaObject}
use Rattle.bc_library.specs.Shelf.{Shelf}
use Rattle.snap_grammar.specs.declared.parts.ObjectPart.{ObjectPart}
use Rattle.snap_grammar.specs.declared.parts.Snapshot.{Snapshot}
use Rattle.snap_states.specs.Decoded.{object_of}

-- an object without what it holds: a list or dict is empty, and a tuple holds None
abbrev pub hollow : ArenaObject → ArenaObject
hollow (ListObject items room) = ListObject [] room
hollow (DictObject pairs room) = DictObject [] room
hollow (TupleObject items) = TupleObject (replicate (length items) values.None)
hollow (TextObject bytes) = TextObject bytes
hollow (FunctionObject name module_name code names defaults) = FunctionObject name module_name code names defaults
hollow (ExceptionObject kind args file line name) = ExceptionObject kind args file line name
hollow (MethodObject v method) = MethodObject v method
hollow (RangeObject start stop step) = RangeObject start stop step
hollow (ModuleObject name names) = ModuleObject name names

-- the cells of an object
abbrev pub laid : ArenaObject → List (Option ArenaObject)
laid o = Some o ∷ replicate (more_cells o) None

-- the object of a part, before it is filled
abbrev pub shell_of : Shelf → Snapshot → (title : ℕ → ℕ → ℕ) → ObjectPart → ArenaObject
shell_of shelf s title o = hollow (object_of shelf s title o)
