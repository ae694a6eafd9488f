-- Which snapshots are states of a library: one record for each group of conditions.
use Rattle.std.specs.Prelude.{◌≡◌, ◌≢◌, ℕ, pos, ◌^◌, ◌<◌, ◌≤◌, ◌⊎◌, Bool, false, List, [], ◌∷◌, length, reverse, drop, Option}
use Rattle.std.specs.Prelude.{Some, None, IsSome, IfSome, All, Contains, codes, slice_get, option_and_then}
use Rattle.std.specs.Option.{option_map}
use Rattle.mpy_base.specs.declared.builtin.Builtin.{Builtin}
use Rattle.mpy_base.specs.declared.kind.Kind.{Kind}
use Rattle.mpy_base.specs.declared.limits.TheConstants.{MAX_CALLS}
use Rattle.mpy_base.specs.Kind.{kind_name}
use Rattle.mpy_base.specs.World.{Heap, ObjectKind, AList, ATuple, AText, ADict, AnException, ARange, AModule}
use Rattle.mpy_base.specs.Weights.{IsRoom}
use Rattle.mpy_base.specs.Val.{PlainWorld}
use Rattle.arena_heap.specs.declared.value.StrNo.{StrNo}
use Rattle.arena_heap.specs.declared.value.Value.{Value}
use Rattle.bc_library.specs.bc_flow.Action.{Action}
use Rattle.bc_library.specs.bc_flow.Edges.{takes}
use Rattle.bc_library.specs.bc_flow.Machine as flow
use Rattle.bc_library.specs.bc_flow.Machine.{Stack}
use Rattle.bc_library.specs.bc_shapes.declared.shape.Entry.{Entry}
use Rattle.bc_library.specs.bc_verify.Body.{flow_of}
use Rattle.bc_library.specs.Shelf.{Shelf, names}
use Rattle.bc_library.specs.Texts.{text_numbered}
use Rattle.bc_library.specs.Constants.{text_at, items_at, numbered}
use Rattle.vm_starting.specs.vm_states.bc_ops.declared.instr.Op.TheVariants as ops
use Rattle.vm_starting.specs.vm_states.bc_ops.declared.instr.Instr.TheVariants as instrs
use Rattle.vm_starting.specs.vm_states.bc_ops.declared.listing.Item.{Item}
use Rattle.vm_starting.specs.vm_states.bc_ops.declared.listing.Item.TheVariants as items
use Rattle.prim_walks.specs.py_values.Names.{builtin_name}
use Rattle.prim_walks.specs.py_values.Keys.{PlainKey, NoneKey, NumberKey, TextKey}
use Rattle.vm_starting.specs.vm_states.frame_exits.Ends.{with_modules}
use Rattle.vm_starting.specs.vm_states.frame_moves.Shown.{running_of}
use Rattle.vm_starting.specs.vm_states.frame_moves.Outcomes.{world_of}
use Rattle.vm_starting.specs.vm_states.prim_modules.Registry.{Registry}
use Rattle.vm_starting.specs.vm_states.vm_frames.Calls.{Call}
use Rattle.vm_starting.specs.vm_states.Means.{Program}
use Rattle.vm_starting.specs.Programs.{IsProgramOf}
use Rattle.bc_flow.proofs.Sound.{Stands}
use Rattle.snap_laws.specs.Kept.{IsPaid}
use Rattle.snap_grammar.specs.declared.parts.ValuePart.{ValuePart}
use Rattle.snap_grammar.specs.declared.parts.ValuePart.TheVariants as parts
use Rattle.snap_grammar.specs.declared.parts.PairPart.{PairPart}
use Rattle.snap_grammar.specs.declared.parts.ObjectPart.{ObjectPart}
use Rattle.snap_grammar.specs.declared.parts.ObjectPart.TheVariants as objects
use Rattle.snap_grammar.specs.declared.parts.SlotPart.{SlotPart}
use Rattle.snap_grammar.specs.declared.parts.SlotPart.TheVariants as slots
use Rattle.snap_grammar.specs.declared.parts.EntryPart.{EntryPart}
use Rattle.snap_grammar.specs.declared.parts.RolePart.{RolePart}
use Rattle.snap_grammar.specs.declared.parts.RolePart.TheVariants as roles
use Rattle.snap_grammar.specs.declared.parts.FramePart.{FramePart}
use Rattle.snap_grammar.specs.declared.parts.Snapshot.{Snapshot}
use Rattle.snap_states.specs.Parts.{part_kind, cells_of_parts, bytes_of_parts, method_of}
use Rattle.snap_states.specs.Shapes.{HasDefaults, StandsAt, JumpsLeadOn}
use Rattle.snap_states.specs.Decoded.{IsDecoded}

-- objects by themselves
-- =====================

-- the bytes of a text object
abbrev pub bytes_in_part : ObjectPart → Option (List ℕ)
bytes_in_part (objects.Text bytes) = Some bytes
bytes_in_part _ = None

-- how many items a tuple object has
abbrev pub count_in_part : ObjectPart → Option ℕ
count_in_part (objects.Tuple items) = Some (length items)
count_in_part _ = None

-- the name of a module object
abbrev pub name_in_part : ObjectPart → Option (List ℕ)
name_in_part (objects.Module name names) = Some name
name_in_part _ = None

-- a room that holds so many items
pub record HasItems (room items : ℕ) : Type 0 where
  pub is_room : IsRoom room
  pub holds : items ≤ room

-- what an iterator goes over
abbrev pub IsIterable : Option ObjectKind → Type 0
IsIterable (Some AList) = Unit {0}
IsIterable (Some ATuple) = Unit {0}
IsIterable (Some AText) = Unit {0}
IsIterable (Some ADict) = Unit {0}
IsIterable (Some ARange) = Unit {0}
IsIterable _ = ⊥

-- the name of a built-in that is no method
pub record IsBuiltin (name : List ℕ) : Type 0 where
  pub builtin : Builtin
  pub named : builtin_name builtin ≡ name
  pub free : method_of builtin ≡ None

-- texts and tuples of the library
-- ===============================

module _ (shelf : Shelf) where
  -- a static text, or one of the library's pool
  abbrev pub IsName : List ℕ → Type 0
  IsName text = (n : ℕ) × (text_numbered shelf.pool n ≡ Some text)

  -- a constant str that the library holds: such a text, or a str among the constants of a module
  abbrev pub IsConstant : List ℕ → Type 0
  IsConstant text = (c : StrNo) × (text_at shelf c ≡ Some text)

  -- a constant tuple that has items
  pub record IsFixed (m n : ℕ) : Type 0 where
    pub items : List Value
    pub are : items_at shelf (numbered m n) ≡ Some items
    pub some : 0 < length items

-- objects by their numbers
-- ========================

module _ (s : Snapshot) where
  -- the kind of the object of a number, if there is one
  abbrev pub kind_at : ℕ → Option ObjectKind
  kind_at number = option_map part_kind (slice_get s.objects number)

  -- the object of this number is of this kind
  abbrev pub IsAt : ObjectKind → ℕ → Type 0
  IsAt kind number = kind_at number ≡ Some kind

  -- the object m is a module whose names stand in the dict `number`
  pub record NamesOf (m number : ℕ) : Type 0 where
    pub name : List ℕ
    pub is : slice_get s.objects m ≡ Some (objects.Module name number)

  -- the dict of exactly one module
  pub record IsNamespace (number : ℕ) : Type 0 where
    pub dict : IsAt ADict number
    pub owner : ℕ
    pub owns : NamesOf owner number
    pub alone : (m : ℕ) → NamesOf m number → m ≡ owner

  -- an object that is no module's dict
  pub record IsObject (number : ℕ) : Type 0 where
    pub there : number < length s.objects
    pub free : (m : ℕ) → NamesOf m number → ⊥

  -- the kind of object that a value is: constants are strs and tuples too
  abbrev pub kind_of_part : ValuePart → Option ObjectKind
  kind_of_part parts.None = None
  kind_of_part parts.False = None
  kind_of_part parts.True = None
  kind_of_part (parts.Int z) = None
  kind_of_part (parts.Object number) = kind_at number
  kind_of_part (parts.Str text) = Some AText
  kind_of_part (parts.Fixed m n) = Some ATuple
  kind_of_part parts.Empty = Some ATuple
  kind_of_part (parts.Named name) = None

  -- the key that the object of a number is: a text is its bytes
  abbrev pub key_at : ℕ → Option PlainKey
  key_at number = option_map TextKey (option_and_then bytes_in_part (slice_get s.objects number))

  -- what a value is as a key. True and 1 are one key
  abbrev pub key_of_part : ValuePart → Option PlainKey
  key_of_part parts.None = Some NoneKey
  key_of_part parts.False = Some (NumberKey (pos 0))
  key_of_part parts.True = Some (NumberKey (pos 1))
  key_of_part (parts.Int z) = Some (NumberKey z)
  key_of_part (parts.Object number) = key_at number
  key_of_part (parts.Str text) = Some (TextKey text)
  key_of_part (parts.Fixed m n) = None
  key_of_part parts.Empty = None
  key_of_part (parts.Named name) = None

  -- the key of the pair at a place
  abbrev pub key_in_part : List PairPart → ℕ → Option PlainKey
  key_in_part pairs at = option_and_then (λ p. key_of_part p.key) (slice_get pairs at)

  -- room
  -- ====

  -- the objects fit what is used, and that the sizes, which have limits
  pub record HasRoom : Type 0 where
    pub cells_held : cells_of_parts s.objects ≤ s.used_cells
    pub bytes_held : bytes_of_parts s.objects ≤ s.used_bytes
    pub cells : s.used_cells ≤ s.cells
    pub bytes : s.used_bytes ≤ s.bytes
    pub few_cells : s.cells ≤ 4194304
    pub few_bytes : s.bytes ≤ 16777216

  -- registered modules
  -- ==================

  -- the name of a registered module
  abbrev pub registered_name : ℕ → Option (List ℕ)
  registered_name number = option_and_then name_in_part (slice_get s.objects number)

  -- they are modules, and no two have one name
  pub record AreRegisteredParts : Type 0 where
    pub modules : All (IsAt AModule) s.modules
    pub once : (i j m n : ℕ) → i < j → slice_get s.modules i ≡ Some m → slice_get s.modules j ≡ Some n → registered_name m ≡ registered_name n → ⊥

  -- roles and entries
  -- =================

  -- what the end of a frame does leads to a module where it ends an import
  abbrev pub IsFineRole : RolePart → Type 0
  IsFineRole roles.Main = Unit {0}
  IsFineRole roles.Call = Unit {0}
  IsFineRole (roles.Import m) = IsAt AModule m

  -- what an entry keeps: an exception, and nothing while it is inactive
  pub record KeepsFine (e : EntryPart) : Type 0 where
    pub exception : IfSome e.kept (IsAt AnException)
    pub active : e.active ≡ false → e.kept ≡ None

-- frames by themselves
-- ====================

-- what the frame above one waits for takes so many slots of it: those of a call's operands, none for an import, and none where no
-- frame is above
abbrev pub Waits : Option RolePart → Item → Action → ℕ → Type 0
Waits None item action taken = taken ≡ 0
Waits (Some roles.Main) item action taken = ⊥
Waits (Some roles.Call) (items.Plain (instrs.Num ops.CallFunction n)) action taken = taken ≡ length (takes action)
Waits (Some roles.Call) (items.Plain (instrs.Num ops.CallMethod n)) action taken = taken ≡ length (takes action)
Waits (Some roles.Call) item action taken = ⊥
Waits (Some (roles.Import m)) (items.Plain (instrs.Name ops.ImportName n)) action taken = taken ≡ 0
Waits (Some (roles.Import m)) item action taken = ⊥

-- an entry, whose handler has a position in the flow
pub record IsEntryAt (offsets : List ℕ) (e : EntryPart) (x : Entry) : Type 0 where
  pub handler : slice_get offsets x.handler ≡ Some e.handler
  pub is_finally : e.is_finally ≡ x.is_finally
  pub active : e.active ≡ x.active
  pub height : e.height ≡ x.height

-- entry by entry
abbrev pub AreEntriesAt : List ℕ → List EntryPart → List Entry → Type 0
AreEntriesAt offsets [] [] = Unit {0}
AreEntriesAt offsets [] (x ∷ xs) = ⊥
AreEntriesAt offsets (e ∷ es) [] = ⊥
AreEntriesAt offsets (e ∷ es) (x ∷ xs) = IsEntryAt offsets e x × AreEntriesAt offsets es xs

module _ (shelf : Shelf) (s : Snapshot) where
  -- values
  -- ======

  -- a value that may stand anywhere
  abbrev pub IsPlain : ValuePart → Type 0
  IsPlain parts.None = Unit {0}
  IsPlain parts.False = Unit {0}
  IsPlain parts.True = Unit {0}
  IsPlain (parts.Int z) = Unit {0}
  IsPlain (parts.Object number) = IsObject s number
  IsPlain (parts.Str text) = IsConstant shelf text
  IsPlain (parts.Fixed m n) = IsFixed shelf m n
  IsPlain parts.Empty = Unit {0}
  IsPlain (parts.Named name) = IsBuiltin name

  -- a value that an iterator may go over
  abbrev pub IsOver : ValuePart → Type 0
  IsOver v = IsPlain v × IsIterable (kind_of_part s v)

  -- the name of a method, and an object of its type
  pub record IsBound (name : List ℕ) (v : ValuePart) : Type 0 where
    pub method : Builtin
    pub named : builtin_name method ≡ name
    pub kind : ObjectKind
    pub method_is : method_of method ≡ Some kind
    pub value_is : kind_of_part s v ≡ Some kind
    pub plain : IsPlain v

  -- objects
  -- =======

  -- a key and a value
  pub record IsFinePair (p : PairPart) : Type 0 where
    pub key : IsPlain p.key
    pub is_key : IsSome (key_of_part s p.key)
    pub value : IsPlain p.value

  -- a pair of a namespace: its key is a constant str, and a name
  pub record HasName (p : PairPart) : Type 0 where
    pub text : List ℕ
    pub key_is : p.key ≡ parts.Str text
    pub name : IsName shelf text

  -- a dict
  pub record IsFineDict (number room : ℕ) (pairs : List PairPart) : Type 0 where
    pub has : HasItems room (length pairs)
    pub fine : All IsFinePair pairs
    pub once : (i j : ℕ) → i < j → j < length pairs → key_in_part s pairs i ≡ key_in_part s pairs j → ⊥
    pub named : (m : ℕ) → NamesOf s m number → All HasName pairs

  -- how many items a value has that is a tuple
  abbrev pub tuple_count : ValuePart → Option ℕ
  tuple_count parts.None = None
  tuple_count parts.False = None
  tuple_count parts.True = None
  tuple_count (parts.Int z) = None
  tuple_count (parts.Object number) = option_and_then count_in_part (slice_get s.objects number)
  tuple_count (parts.Str text) = None
  tuple_count (parts.Fixed m n) = option_map length (items_at shelf (numbered m n))
  tuple_count parts.Empty = Some 0
  tuple_count (parts.Named name) = None

  -- a function
  pub record IsFineFunction (m code names : ℕ) (defaults : ValuePart) : Type 0 where
    pub count : ℕ
    pub has : HasDefaults shelf m code count
    pub namespace : IsNamespace s names
    pub plain : IsPlain defaults
    pub as_many : (defaults ≡ parts.None) ⊎ (tuple_count defaults ≡ Some count)

  -- an exception. Its line is any number
  pub record IsFineException (kind : List ℕ) (args : ValuePart) (file name : List ℕ) : Type 0 where
    pub of_kind : Kind
    pub kind_is : kind_name of_kind ≡ kind
    pub args_are : kind_of_part s args ≡ Some ATuple
    pub plain : IsPlain args
    pub file_is : IsName shelf file
    pub name_is : IsName shelf name

  -- a module
  pub record IsFineModule (name : List ℕ) (number : ℕ) : Type 0 where
    pub known : Contains (codes "__main__" ∷ names shelf) name
    pub namespace : IsNamespace s number

  -- the object of a number
  abbrev pub IsFineObject : ℕ → ObjectPart → Type 0
  IsFineObject number (objects.List room items) = HasItems room (length items) × All IsPlain items
  IsFineObject number (objects.Dict room pairs) = IsFineDict number room pairs
  IsFineObject number (objects.Tuple items) = (0 < length items) × All IsPlain items
  IsFineObject number (objects.Text bytes) = (0 < length bytes) × All (λ b. b < 128) bytes
  IsFineObject number (objects.Function m code names defaults) = IsFineFunction m code names defaults
  IsFineObject number (objects.Exception kind args file line name) = IsFineException kind args file name
  IsFineObject number (objects.Method v method) = IsBound method v
  IsFineObject number (objects.Range start stop step) = step ≢ pos 0
  IsFineObject number (objects.Module name names) = IsFineModule name names

  -- all objects
  abbrev pub AreFineObjects : Type 0
  AreFineObjects = (number : ℕ) (o : ObjectPart) → slice_get s.objects number ≡ Some o → IsFineObject number o

  -- frames
  -- ======

  -- slots from the topmost on, and what they are in the flow. The look-up of a method has two: the object lies on its method, or
  -- nothing on a value that is called
  pub data ShowsParts (offsets : List ℕ) : List SlotPart → Stack → Type 0 where
    none : ShowsParts offsets [] []
    value : {v : ValuePart} {ps : List SlotPart} {st : Stack} → IsPlain v → ShowsParts offsets ps st → ShowsParts offsets (slots.Value v ∷ ps) (flow.Value ∷ st)
    nothing : {ps : List SlotPart} {st : Stack} → ShowsParts offsets ps st → ShowsParts offsets (slots.Value parts.None ∷ ps) (flow.NoneOrException ∷ st)
    exception : {n : ℕ} {ps : List SlotPart} {st : Stack} → IsAt s AnException n → ShowsParts offsets ps st
        → ShowsParts offsets (slots.Value (parts.Object n) ∷ ps) (flow.NoneOrException ∷ st)
    null : {ps : List SlotPart} {st : Stack} → ShowsParts offsets ps st → ShowsParts offsets (slots.Empty ∷ ps) (flow.Null ∷ st)
    bound : {v : ValuePart} {name : List ℕ} {ps : List SlotPart} {st : Stack} → IsBound name v → ShowsParts offsets ps st
        → ShowsParts offsets (slots.Value v ∷ slots.Value (parts.Named name) ∷ ps) (flow.Method ∷ flow.Value ∷ st)
    free : {v : ValuePart} {ps : List SlotPart} {st : Stack} → IsPlain v → ShowsParts offsets ps st
        → ShowsParts offsets (slots.Empty ∷ slots.Value v ∷ ps) (flow.Method ∷ flow.Value ∷ st)
    kept_return : {v : ValuePart} {ps : List SlotPart} {st : Stack} → IsPlain v → ShowsParts offsets ps st
        → ShowsParts offsets (slots.Return v ∷ ps) (flow.KeptReturn ∷ st)
    kept_jump : {target t d : ℕ} {it : Bool} {ps : List SlotPart} {st : Stack} → slice_get offsets t ≡ Some target
        → ShowsParts offsets ps st → ShowsParts offsets (slots.Jump target d it ∷ ps) (flow.KeptJump t d it ∷ st)
    whole : {over : ValuePart} {at : ℕ} {ps : List SlotPart} {st : Stack} → IsOver over → ShowsParts offsets ps st
        → ShowsParts offsets (slots.Iterator over at ∷ ps) (flow.Iter4 ∷ flow.Iter3 ∷ flow.Iter2 ∷ flow.Iter1 ∷ st)
    three : {over : ValuePart} {at : ℕ} {ps : List SlotPart} {st : Stack} → IsOver over → ShowsParts offsets ps st
        → ShowsParts offsets (slots.Left 3 over at ∷ ps) (flow.Iter3 ∷ flow.Iter2 ∷ flow.Iter1 ∷ st)
    two : {over : ValuePart} {at : ℕ} {ps : List SlotPart} {st : Stack} → IsOver over → ShowsParts offsets ps st
        → ShowsParts offsets (slots.Left 2 over at ∷ ps) (flow.Iter2 ∷ flow.Iter1 ∷ st)
    one : {over : ValuePart} {at : ℕ} {ps : List SlotPart} {st : Stack} → IsOver over → ShowsParts offsets ps st
        → ShowsParts offsets (slots.Left 1 over at ∷ ps) (flow.Iter1 ∷ st)

  -- a local
  abbrev pub IsFineLocal : SlotPart → Type 0
  IsFineLocal (slots.Value v) = IsPlain v
  IsFineLocal slots.Empty = Unit {0}
  IsFineLocal (slots.Iterator over at) = ⊥
  IsFineLocal (slots.Left count over at) = ⊥
  IsFineLocal (slots.Return v) = ⊥
  IsFineLocal (slots.Jump target entries iterator) = ⊥

  -- a frame that has one of this role above it, or none
  pub record IsFineFrame (above : Option RolePart) (f : FramePart) : Type 0 where
    pub stands : StandsAt shelf f.module_number f.code f.at
    pub names : IsNamespace s f.names
    pub role : IsFineRole s f.role
    -- locals
    pub as_many_locals : length f.locals ≡ (flow_of stands.body).locals
    pub locals : All IsFineLocal f.locals
    -- slots: those of the shape there, without those that its call took
    pub item : Item
    pub item_is : slice_get stands.body.items stands.position ≡ Some item
    pub action : Action
    pub action_is : slice_get (flow_of stands.body).actions stands.position ≡ Some action
    pub taken : ℕ
    pub waits : Waits above item action taken
    pub stack : Stack
    pub shows : ShowsParts stands.offsets (reverse f.slots) stack
    pub slots : Stands stack (drop taken stands.shape.slots)
    -- entries, and kept jumps
    pub entries : AreEntriesAt stands.offsets (reverse f.entries) stands.shape.entries
    pub kept : All (KeepsFine s) f.entries
    pub jumps : JumpsLeadOn stands.a stands.shape.entries stack

  -- frames from the innermost on, the last of which is main's, and no other
  abbrev pub AreFineFrames : Option RolePart → List FramePart → Type 0
  AreFineFrames above [] = above ≡ Some roles.Main
  AreFineFrames (Some roles.Main) (f ∷ fs) = ⊥
  AreFineFrames above (f ∷ fs) = IsFineFrame above f × AreFineFrames (Some f.role) fs

  -- the whole
  -- =========

  -- all but the paid steps
  pub record IsShaped : Type 0 where
    pub objects : AreFineObjects
    pub room : HasRoom s
    pub registered : AreRegisteredParts s
    pub some_frames : 0 < length s.frames
    pub few_frames : length s.frames ≤ MAX_CALLS
    pub frames : AreFineFrames None (reverse s.frames)

  -- the snapshot is a state of the library: no more steps are paid than the running instruction takes before it acts, in each program
  -- of the library and whatever was printed
  pub record IsStateOf : Type 0 where
    pub shaped : IsShaped
    pub few_paid : s.paid < 2 ^ 63
    pub paid : (heap : Heap Value ℕ) (modules : Registry) (calls : List Call) → IsDecoded shelf s heap modules calls
        → (p : Program) → IsProgramOf shelf p → (w : PlainWorld)
        → IsPaid p.library (running_of p.tables s.paid calls (world_of p.tables (with_modules p.tables w modules) heap))
