-- The state that a snapshot stands for. Objects get the cells that they would have if each had been made in its last room: the
-- cells that growing lists and dicts had left lie behind all of them.
use Rattle.std.specs.Prelude.{◌≡◌, ℕ, zero, suc, ◌+◌, ◌-◌, Bool, true, false, List, [], ◌∷◌, ◌++◌, length, map, reverse, drop}
use Rattle.std.specs.Prelude.{replicate, Option, Some, None, unwrap_or, position, slice_get, bytes_eq, if◌then◌else◌}
use Rattle.std.specs.Option.{option_map, option_or}
use Rattle.std.specs.List.{flat_map}
use Rattle.mpy_base.specs.declared.builtin.Builtin.{Builtin}
use Rattle.mpy_base.specs.declared.builtin.Builtin.TheVariants as builtins
use Rattle.mpy_base.specs.declared.kind.Kind.{Kind}
use Rattle.mpy_base.specs.declared.kind.Kind.TheVariants as raised
use Rattle.mpy_base.specs.declared.limits.TheConstants.{MAX_MODULES}
use Rattle.mpy_base.specs.Kind.{kind_name}
use Rattle.mpy_base.specs.World.{Heap, ListObject, TupleObject, TextObject, DictObject, FunctionObject, ExceptionObject}
use Rattle.mpy_base.specs.World.{MethodObject, RangeObject, ModuleObject}
use Rattle.bc_library.specs.bc_shapes.declared.kinds.Kind.{Kind as SlotKind}
use Rattle.bc_library.specs.bc_shapes.declared.kinds.Kind.TheVariants as kinds
use Rattle.bc_library.specs.bc_verify.qstr_pool.Pool.{Texts, number_of}
use Rattle.bc_library.specs.bc_verify.qstr_pool.Static.{static_number_of}
use Rattle.bc_library.specs.mpy_tree.declared.module.Constant.{Constant, out-Constant}
use Rattle.arena_heap.specs.declared.value.Value.{Value}
use Rattle.arena_heap.specs.declared.value.Value.TheVariants as values
use Rattle.arena_heap.specs.declared.value.StrNo.{StrNo}
use Rattle.arena_heap.specs.declared.value.StrNo.TheVariants as strs
use Rattle.arena_heap.specs.declared.value.ConstNo.{ConstNo}
use Rattle.arena_heap.specs.Values.{ArenaObject}
use Rattle.bc_library.specs.Shelf.{Shelf, Named}
use Rattle.bc_library.specs.Texts.{text_numbered}
use Rattle.bc_library.specs.Constants.{bytes_in, constants_of, numbered}
use Rattle.vm_starting.specs.vm_states.bc_rows.declared.row.Row.{Row}
use Rattle.vm_starting.specs.vm_states.bc_rows.Rows.{IsRow}
use Rattle.vm_starting.specs.vm_states.vm_frames.declared.slot.Slot.{Slot}
use Rattle.vm_starting.specs.vm_states.vm_frames.declared.slot.Slot.TheVariants as stacked
use Rattle.vm_starting.specs.vm_states.vm_frames.declared.slot.Entry.{Entry}
use Rattle.vm_starting.specs.vm_states.vm_frames.declared.slot.Role.{Role}
use Rattle.vm_starting.specs.vm_states.vm_frames.declared.slot.Role.TheVariants as ends
use Rattle.vm_starting.specs.vm_states.vm_frames.Calls.{Call}
use Rattle.vm_starting.specs.vm_states.prim_modules.declared.entry.Entry.{Entry as Registered}
use Rattle.vm_starting.specs.vm_states.prim_modules.Registry.{Registry}
use Rattle.prim_walks.specs.py_primitives.Builtins.{all_kinds, globals}
use Rattle.snap_grammar.specs.declared.parts.ValuePart.{ValuePart}
use Rattle.snap_grammar.specs.declared.parts.ValuePart.TheVariants as parts
use Rattle.snap_grammar.specs.declared.parts.PairPart.{PairPart}
use Rattle.snap_grammar.specs.declared.parts.ObjectPart.{ObjectPart}
use Rattle.snap_grammar.specs.declared.parts.ObjectPart.TheVariants as objects
use Rattle.snap_grammar.specs.declared.parts.SlotPart.{SlotPart}
use Rattle.snap_grammar.specs.declared.parts.SlotPart.TheVariants as slots
use Rattle.snap_grammar.specs.declared.parts.EntryPart.{EntryPart}
use Rattle.snap_grammar.specs.declared.parts.RolePart.{RolePart}
use Rattle.snap_grammar.specs.declared.parts.RolePart.TheVariants as roles
use Rattle.snap_grammar.specs.declared.parts.FramePart.{FramePart}
use Rattle.snap_grammar.specs.declared.parts.Snapshot.{Snapshot}
use Rattle.prim_walks.specs.py_values.Names.{builtin_name}
use Rattle.snap_states.specs.Parts.{cells_of_parts, cell_of, more_cells}
use Rattle.snap_states.specs.Shapes.{StandsAt}

-- built-ins and kinds by their names
-- ==================================

-- the built-ins that no program finds by a name of its own
abbrev pub others : List Builtin
others =
    builtins.Port ∷ builtins.PortPut ∷ builtins.PortGet ∷ builtins.PortCount ∷ builtins.ListAppend ∷ builtins.ListPop ∷ builtins.ListInsert
    ∷ builtins.ListExtend ∷ builtins.DictGet ∷ builtins.DictKeys ∷ builtins.DictValues ∷ builtins.DictItems ∷ builtins.DictPop
    ∷ builtins.StrJoin ∷ builtins.StrFind ∷ builtins.StrStartsWith ∷ builtins.StrSplit ∷ []

-- the first of these that is called so
abbrev pub called : {A : Type 0} → (A → List ℕ) → List ℕ → List A → Option A
called name_in text [] = None
called name_in text (x ∷ xs) = if bytes_eq (name_in x) text then Some x else called name_in text xs

-- the built-in of a name
abbrev pub builtin_called : List ℕ → Option Builtin
builtin_called text = called builtin_name text (globals ++ others)

-- the kind of exceptions of a name
abbrev pub kind_called : List ℕ → Option Kind
kind_called text = called kind_name text all_kinds

-- texts by their bytes
-- ====================

-- the number of a text that is static or in the pool
abbrev pub pool_number : Texts → List ℕ → Option ℕ
pool_number pool text = option_or (static_number_of text) (number_of pool text)

-- these bytes, if there are any
abbrev pub are_bytes : List ℕ → Option (List ℕ) → Bool
are_bytes text None = false
are_bytes text (Some bytes) = bytes_eq text bytes

-- a constant str of these bytes
abbrev pub is_str : List ℕ → Constant → Bool
is_str text object = are_bytes text (bytes_in (out-Constant object))

-- the first constant str of these bytes in these modules, of which the first has the number i
abbrev pub constant_from : ℕ → List Named → List ℕ → Option ConstNo
constant_from i [] text = None
constant_from i (n ∷ ns) text = option_or (option_map (numbered i) (position (is_str text) (constants_of n.held))) (constant_from (suc i) ns text)

module _ (shelf : Shelf) where
  -- the number of a name
  abbrev pub name_number : List ℕ → ℕ
  name_number text = unwrap_or (pool_number shelf.pool text) 0

  -- a constant str: a text of the pool where there is one, so that names are that, and else a constant of a module
  abbrev pub str_of : List ℕ → StrNo
  str_of text = unwrap_or
      (option_or (option_map strs.Pool (pool_number shelf.pool text)) (option_map strs.Object (constant_from 0 shelf.modules text)))
      (strs.Pool 0)

  -- the name of a module of the library
  abbrev pub module_title : ℕ → ℕ
  module_title m = unwrap_or (option_map (λ (n : Named). name_number n.name) (slice_get shelf.modules m)) 0

  -- these are numbers of the codes' names
  abbrev pub AreTitles : (title : ℕ → ℕ → ℕ) → Type 0
  AreTitles title = (m code : ℕ) (row : Row) → IsRow shelf m code row → text_numbered shelf.pool (title m code) ≡ text_numbered shelf.pool row.name

-- values and objects
-- ==================

-- the object of a number, where it has this cell
abbrev pub reference : Option ObjectPart → (cell : ℕ) → Value
reference None cell = values.None
reference (Some (objects.List room items)) cell = values.List (record { cell = cell })
reference (Some (objects.Dict room pairs)) cell = values.Dict (record { cell = cell })
reference (Some (objects.Tuple items)) cell = values.Tuple (record { cell = cell })
reference (Some (objects.Text bytes)) cell = values.Text (record { cell = cell })
reference (Some (objects.Function m code names defaults)) cell = values.Fun (record { cell = cell })
reference (Some (objects.Exception kind args file line name)) cell = values.Exc (record { cell = cell })
reference (Some (objects.Method o method)) cell = values.Method (record { cell = cell })
reference (Some (objects.Range start stop step)) cell = values.Range (record { cell = cell })
reference (Some (objects.Module name names)) cell = values.Module (record { cell = cell })

-- the bytes of a module object's name
abbrev pub name_in_part : Option ObjectPart → List ℕ
name_in_part (Some (objects.Module name names)) = name
name_in_part _ = []

-- slots
-- =====

-- the lowest slots of an iterator, as many as that, the topmost first
abbrev pub iterator_of : (count : ℕ) → Value → (at : ℕ) → List Slot
iterator_of zero over at = []
iterator_of (suc part) over at = stacked.Iter over at part ∷ iterator_of part over at

-- a value or nothing in a slot of this kind: the second slot of a method's look-up has its own form
abbrev pub filled : Option SlotKind → Value → Slot
filled (Some kinds.Method) v = stacked.Object (Some v)
filled _ v = stacked.Value v

-- nothing in a slot of this kind
abbrev pub vacant : Option SlotKind → Slot
vacant (Some kinds.Method) = stacked.Object None
vacant _ = stacked.Null

module _ (shelf : Shelf) (s : Snapshot) where
  -- a value
  abbrev pub value_of : ValuePart → Value
  value_of parts.None = values.None
  value_of parts.False = values.Bool false
  value_of parts.True = values.Bool true
  value_of (parts.Int z) = values.Int z
  value_of (parts.Object number) = reference (slice_get s.objects number) (cell_of s.objects number)
  value_of (parts.Str text) = values.Str (str_of shelf text)
  value_of (parts.Fixed m n) = values.Fixed (numbered m n)
  value_of parts.Empty = values.Empty
  value_of (parts.Named name) = values.Built (unwrap_or (builtin_called name) builtins.Print)

  -- a key and its value
  abbrev pub pair_of : PairPart → Value × Value
  pair_of p = (value_of p.key, value_of p.value)

  -- an object, where the codes' names have these numbers
  abbrev pub object_of : (title : ℕ → ℕ → ℕ) → ObjectPart → ArenaObject
  object_of title (objects.List room items) = ListObject (map value_of items) room
  object_of title (objects.Dict room pairs) = DictObject (map pair_of pairs) room
  object_of title (objects.Tuple items) = TupleObject (map value_of items)
  object_of title (objects.Text bytes) = TextObject bytes
  object_of title (objects.Function m code names defaults) =
      FunctionObject (title m code) (module_title shelf m) code (cell_of s.objects names) (value_of defaults)
  object_of title (objects.Exception kind args file line name) =
      ExceptionObject (unwrap_or (kind_called kind) raised.Exception) (value_of args) (name_number shelf file) line (name_number shelf name)
  object_of title (objects.Method o method) = MethodObject (value_of o) (unwrap_or (builtin_called method) builtins.Print)
  object_of title (objects.Range start stop step) = RangeObject start stop step
  object_of title (objects.Module name names) = ModuleObject (name_number shelf name) (Some (cell_of s.objects names))

  -- an object at its first cell, and its other cells
  abbrev pub cells_with : (title : ℕ → ℕ → ℕ) → ObjectPart → List (Option ArenaObject)
  cells_with title o = Some (object_of title o) ∷ replicate (more_cells o) None

  -- the heap: the objects one behind another, and then the cells that belong to none
  abbrev pub heap_of : (title : ℕ → ℕ → ℕ) → Heap Value ℕ
  heap_of title = record {
    objects = flat_map (cells_with title) s.objects ++ replicate (s.used_cells - cells_of_parts s.objects) None;
    bytes = s.used_bytes;
    cell_size = s.cells;
    byte_size = s.bytes;
  }

  -- a registered module
  abbrev pub entry_of : ℕ → Registered
  entry_of number = record { name = name_number shelf (name_in_part (slice_get s.objects number)); object = record { cell = cell_of s.objects number } }

  -- the registered modules, as many as the library has and `port` at most
  abbrev pub modules_of : Registry
  modules_of = record { entries = map entry_of s.modules; room = MAX_MODULES + 1 }

  -- frames
  -- ======

  -- what the end of a frame does
  abbrev pub role_of : RolePart → Role
  role_of roles.Main = ends.Main
  role_of roles.Call = ends.Call
  role_of (roles.Import number) = ends.Import (record { cell = cell_of s.objects number })

  -- an entry of a handler
  abbrev pub handler_of : EntryPart → Entry
  handler_of e = record {
    handler = e.handler;
    is_finally = e.is_finally;
    height = e.height;
    kept = option_map (λ number. record { cell = cell_of s.objects number }) e.kept;
  }

  -- a local. One that is neither a value nor empty is none of a state
  abbrev pub local_of : SlotPart → Option Value
  local_of (slots.Value v) = Some (value_of v)
  local_of _ = None

  -- the slots of a part, the topmost first, where the topmost is of this kind
  abbrev pub slots_of : Option SlotKind → SlotPart → List Slot
  slots_of kind (slots.Value v) = filled kind (value_of v) ∷ []
  slots_of kind slots.Empty = vacant kind ∷ []
  slots_of kind (slots.Iterator over at) = iterator_of 4 (value_of over) at
  slots_of kind (slots.Left count over at) = iterator_of count (value_of over) at
  slots_of kind (slots.Return v) = stacked.Return (value_of v) ∷ []
  slots_of kind (slots.Jump target entries iterator) = stacked.Jump target entries iterator ∷ []

  -- the slots of parts from the topmost on, where they are of these kinds
  abbrev pub stack_of : List SlotKind → List SlotPart → List Slot
  stack_of kinds [] = []
  stack_of kinds (p ∷ ps) = slots_of (slice_get kinds 0) p ++ stack_of (drop (length (slots_of (slice_get kinds 0) p)) kinds) ps

  -- a frame, whose slots are of these kinds, the topmost first
  abbrev pub call_of : List SlotKind → FramePart → Call
  call_of kinds f = record {
    module_number = f.module_number;
    code = f.code;
    at = f.at;
    names = record { cell = cell_of s.objects f.names };
    role = role_of f.role;
    locals = map local_of f.locals;
    slots = stack_of kinds (reverse f.slots);
    entries = map handler_of (reverse f.entries);
  }

  -- the frame is the call: its slots are the lowest of those that the verifier knows at its offset, all of them but for the operands
  -- of a call that it waits for
  pub record IsCallOf (f : FramePart) (c : Call) : Type 0 where
    pub stands : StandsAt shelf f.module_number f.code f.at
    pub taken : ℕ
    pub slots_are : taken + length c.slots ≡ length stands.shape.slots
    pub is : c ≡ call_of (drop taken stands.shape.slots) f

  -- frame by frame
  abbrev pub AreCallsOf : List FramePart → List Call → Type 0
  AreCallsOf [] [] = Unit {0}
  AreCallsOf [] (c ∷ cs) = ⊥
  AreCallsOf (f ∷ fs) [] = ⊥
  AreCallsOf (f ∷ fs) (c ∷ cs) = IsCallOf f c × AreCallsOf fs cs

  -- the snapshot stands for this heap, these registered modules and these calls, the innermost first
  pub record IsDecoded (heap : Heap Value ℕ) (modules : Registry) (calls : List Call) : Type 0 where
    pub title : ℕ → ℕ → ℕ
    pub titles : AreTitles shelf title
    pub heap_is : heap ≡ heap_of title
    pub modules_are : modules ≡ modules_of
    pub calls_are : AreCallsOf (reverse s.frames) calls
