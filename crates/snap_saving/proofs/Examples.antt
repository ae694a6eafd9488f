-- Snapshots of states, computed. The bytes are those of a reference.
use Rattle.std.proofs.Common.{◌≡◌, ℕ, ◌+◌, List, [], ◌∷◌, true, false, Some, None, map, refl}
use Rattle.std.specs.Prelude.{◌++◌, codes, pos, negsuc}
use Rattle.mpy_base.specs.declared.builtin.Builtin.TheVariants as builtins
use Rattle.mpy_base.specs.declared.kind.Kind.TheVariants as kinds
use Rattle.mpy_base.specs.World.{Heap, ListObject, TupleObject, TextObject, DictObject, FunctionObject, ExceptionObject, MethodObject, RangeObject, ModuleObject}
use Rattle.mpy_base.specs.Weights.{empty, with_made, with_items, with_pairs, with_used}
use Rattle.mpy_base.specs.Vuint.{vuint}
use Rattle.bc_ops.specs.Signed.{signed}
use Rattle.arena_heap.specs.qstr_pool.declared.table.TheConstants.{FIRST_OWN}
use Rattle.bc_library.specs.mpy_tree.Raw.{Module}
use Rattle.arena_heap.specs.declared.value.Value.{Value}
use Rattle.arena_heap.specs.declared.value.Value.TheVariants as values
use Rattle.arena_heap.specs.declared.value.StrNo.TheVariants as strs
use Rattle.bc_library.specs.Shelf.{Shelf}
use Rattle.bc_library.specs.Texts.{text_numbered}
use Rattle.vm_frames.specs.declared.slot.Slot.{Slot}
use Rattle.vm_frames.specs.declared.slot.Slot.TheVariants as stacked
use Rattle.vm_frames.specs.declared.slot.Entry.{Entry}
use Rattle.vm_frames.specs.declared.slot.Role.TheVariants as ends
use Rattle.vm_frames.specs.Calls.{Call}
use Rattle.prim_modules.specs.declared.entry.Entry.{Entry as Registered}
use Rattle.prim_modules.specs.Registry.{Registry}
use Rattle.snap_grammar.specs.declared.parts.ValuePart.TheVariants as parts
use Rattle.snap_grammar.specs.declared.parts.SlotPart.{SlotPart}
use Rattle.snap_grammar.specs.declared.parts.SlotPart.TheVariants as slots
use Rattle.snap_grammar.specs.Spelling.{spelling}
use Rattle.snap_saving.specs.Shown.{snapshot_of, shown_slots, slot_part}

-- a library of two modules, with these texts of its own
abbrev library : Module → List (List ℕ) → Shelf
library held texts = record {
  modules = record { name = codes "__main__"; held = held } ∷ record { name = codes "other"; held = held } ∷ [];
  refused = [];
  pool = record { first = FIRST_OWN; texts = texts };
}

-- a constant str: one that every file may name, or the first, the second and so on of the library's own
abbrev static : ℕ → Value
static n = values.Str (strs.Pool n)

abbrev own : ℕ → Value
own n = static (FIRST_OWN + n)

abbrev int : ℕ → Value
int n = values.Int (pos n)

-- the main module and its dict, in the cells 0 and 4
abbrev main_heap : Heap Value ℕ
main_heap = with_made (with_made (empty 65536 262144) (ModuleObject 21 (Some 4))) (DictObject ((static 23, static 21) ∷ []) 4)

-- the same with more names
abbrev main_with : List (Value × Value) → Heap Value ℕ
main_with pairs = with_pairs main_heap 4 ((static 23, static 21) ∷ pairs)

abbrev registered : ℕ → ℕ → Registered
registered name cell = record { name = name; object = record { cell = cell } }

abbrev main_modules : Registry
main_modules = record { entries = registered 21 0 ∷ []; room = 257 }

-- the main module's call, which stands at an offset
abbrev main_call : ℕ → List Slot → List Entry → Call
main_call at slots entries = record { module_number = 0; code = 0; at = at; names = record { cell = 4 }; role = ends.Main; locals = []; slots = slots; entries = entries }

-- print('hi') after its first instruction
hello : (shelf : Shelf) → spelling (snapshot_of shelf main_heap main_modules (main_call 2 (stacked.Value (values.Built builtins.Print) ∷ []) [] ∷ []) 0)
    ≡ 0x4d ∷ 0x53 ∷ 0x01 ∷ 0x1f ∷ 0x84 ∷ 0x80 ∷ 0x00 ∷ 0x90 ∷ 0x80 ∷ 0x00 ∷ 0x13 ∷ 0x00 ∷ 0x00 ∷ 0x00 ∷ 0x00 ∷ 0x00 ∷ 0x00 ∷ 0x00 ∷ 0x00 ∷ 0x00
    ∷ 0x02 ∷ 0x09 ∷ 0x08 ∷ 0x5f ∷ 0x5f ∷ 0x6d ∷ 0x61 ∷ 0x69 ∷ 0x6e ∷ 0x5f ∷ 0x5f ∷ 0x01 ∷ 0x02 ∷ 0x04 ∷ 0x01 ∷ 0x05 ∷ 0x08 ∷ 0x5f ∷ 0x5f ∷ 0x6e
    ∷ 0x61 ∷ 0x6d ∷ 0x65 ∷ 0x5f ∷ 0x5f ∷ 0x05 ∷ 0x08 ∷ 0x5f ∷ 0x5f ∷ 0x6d ∷ 0x61 ∷ 0x69 ∷ 0x6e ∷ 0x5f ∷ 0x5f ∷ 0x01 ∷ 0x00 ∷ 0x01 ∷ 0x00 ∷ 0x00
    ∷ 0x02 ∷ 0x01 ∷ 0x00 ∷ 0x00 ∷ 0x01 ∷ 0x08 ∷ 0x05 ∷ 0x70 ∷ 0x72 ∷ 0x69 ∷ 0x6e ∷ 0x74 ∷ 0x00 ∷ []
unfolding vuint text_numbered
hello shelf = refl

-- a function that was called with None keeps in a handler the ValueError that it raised, and has a finally round it:
--     def f(a, b=7): ..
abbrev raised_heap : Heap Value ℕ
raised_heap =
    with_made (with_made (with_made (with_made (main_with ((own 0, values.Fun (record { cell = 21 })) ∷ []))
    (TupleObject (int 7 ∷ [])))
    (FunctionObject (FIRST_OWN + 0) 21 1 4 (values.Tuple (record { cell = 19 }))))
    (TupleObject (int 7 ∷ [])))
    (ExceptionObject kinds.ValueError (values.Tuple (record { cell = 25 })) (FIRST_OWN + 1) 4 (FIRST_OWN + 0))

abbrev raised_call : Call
raised_call = record {
  module_number = 0;
  code = 1;
  at = 23;
  names = record { cell = 4 };
  role = ends.Call;
  locals = Some values.None ∷ Some (int 7) ∷ Some values.None ∷ Some (values.Exc (record { cell = 27 })) ∷ [];
  slots = stacked.Value (values.Built builtins.Print) ∷ [];
  entries =
      record { handler = 28; is_finally = true; height = 0; kept = None }
      ∷ record { handler = 12; is_finally = false; height = 0; kept = Some (record { cell = 27 }) } ∷ [];
}

called : (held : Module) → spelling (snapshot_of (library held (codes "f" ∷ codes "call.py" ∷ [])) raised_heap main_modules (raised_call ∷ main_call 11 [] [] ∷ []) 0)
    ≡ 0x4d ∷ 0x53 ∷ 0x01 ∷ 0x1f ∷ 0x84 ∷ 0x80 ∷ 0x00 ∷ 0x90 ∷ 0x80 ∷ 0x00 ∷ 0x21 ∷ 0x00 ∷ 0x00 ∷ 0x00 ∷ 0x00 ∷ 0x00 ∷ 0x00 ∷ 0x00 ∷ 0x00 ∷ 0x00
    ∷ 0x06 ∷ 0x09 ∷ 0x08 ∷ 0x5f ∷ 0x5f ∷ 0x6d ∷ 0x61 ∷ 0x69 ∷ 0x6e ∷ 0x5f ∷ 0x5f ∷ 0x01 ∷ 0x02 ∷ 0x04 ∷ 0x02 ∷ 0x05 ∷ 0x08 ∷ 0x5f ∷ 0x5f ∷ 0x6e
    ∷ 0x61 ∷ 0x6d ∷ 0x65 ∷ 0x5f ∷ 0x5f ∷ 0x05 ∷ 0x08 ∷ 0x5f ∷ 0x5f ∷ 0x6d ∷ 0x61 ∷ 0x69 ∷ 0x6e ∷ 0x5f ∷ 0x5f ∷ 0x05 ∷ 0x01 ∷ 0x66 ∷ 0x04 ∷ 0x03
    ∷ 0x03 ∷ 0x01 ∷ 0x03 ∷ 0x07 ∷ 0x05 ∷ 0x00 ∷ 0x01 ∷ 0x01 ∷ 0x04 ∷ 0x02 ∷ 0x03 ∷ 0x01 ∷ 0x03 ∷ 0x07 ∷ 0x06 ∷ 0x0a ∷ 0x56 ∷ 0x61 ∷ 0x6c ∷ 0x75
    ∷ 0x65 ∷ 0x45 ∷ 0x72 ∷ 0x72 ∷ 0x6f ∷ 0x72 ∷ 0x04 ∷ 0x04 ∷ 0x07 ∷ 0x63 ∷ 0x61 ∷ 0x6c ∷ 0x6c ∷ 0x2e ∷ 0x70 ∷ 0x79 ∷ 0x04 ∷ 0x01 ∷ 0x66 ∷ 0x01
    ∷ 0x00 ∷ 0x02 ∷ 0x00 ∷ 0x00 ∷ 0x0b ∷ 0x01 ∷ 0x00 ∷ 0x00 ∷ 0x00 ∷ 0x00 ∷ 0x00 ∷ 0x01 ∷ 0x17 ∷ 0x01 ∷ 0x01 ∷ 0x04 ∷ 0x00 ∷ 0x03 ∷ 0x07 ∷ 0x00
    ∷ 0x04 ∷ 0x05 ∷ 0x01 ∷ 0x08 ∷ 0x05 ∷ 0x70 ∷ 0x72 ∷ 0x69 ∷ 0x6e ∷ 0x74 ∷ 0x02 ∷ 0x0c ∷ 0x00 ∷ 0x01 ∷ 0x00 ∷ 0x01 ∷ 0x05 ∷ 0x1c ∷ 0x01 ∷ 0x00
    ∷ 0x00 ∷ 0x00 ∷ []
unfolding vuint text_numbered signed
called held = refl

-- a module at its beginning, and the import that waits for it
abbrev imported_heap : Heap Value ℕ
imported_heap = with_made (with_made main_heap (ModuleObject (FIRST_OWN + 0) (Some 23))) (DictObject ((static 23, own 0) ∷ []) 4)

abbrev imported_call : Call
imported_call = record { module_number = 1; code = 0; at = 0; names = record { cell = 23 }; role = ends.Import (record { cell = 19 }); locals = []; slots = []; entries = [] }

imported : (held : Module) → spelling (snapshot_of (library held (codes "other" ∷ [])) imported_heap (record { entries = registered 21 0 ∷ registered (FIRST_OWN + 0) 19 ∷ []; room = 257 })
    (imported_call ∷ main_call 2 (stacked.Value values.None ∷ stacked.Value (int 0) ∷ []) [] ∷ []) 0)
    ≡ 0x4d ∷ 0x53 ∷ 0x01 ∷ 0x1f ∷ 0x84 ∷ 0x80 ∷ 0x00 ∷ 0x90 ∷ 0x80 ∷ 0x00 ∷ 0x26 ∷ 0x00 ∷ 0x00 ∷ 0x00 ∷ 0x00 ∷ 0x00 ∷ 0x00 ∷ 0x00 ∷ 0x00 ∷ 0x00
    ∷ 0x04 ∷ 0x09 ∷ 0x08 ∷ 0x5f ∷ 0x5f ∷ 0x6d ∷ 0x61 ∷ 0x69 ∷ 0x6e ∷ 0x5f ∷ 0x5f ∷ 0x01 ∷ 0x02 ∷ 0x04 ∷ 0x01 ∷ 0x05 ∷ 0x08 ∷ 0x5f ∷ 0x5f ∷ 0x6e
    ∷ 0x61 ∷ 0x6d ∷ 0x65 ∷ 0x5f ∷ 0x5f ∷ 0x05 ∷ 0x08 ∷ 0x5f ∷ 0x5f ∷ 0x6d ∷ 0x61 ∷ 0x69 ∷ 0x6e ∷ 0x5f ∷ 0x5f ∷ 0x09 ∷ 0x05 ∷ 0x6f ∷ 0x74 ∷ 0x68
    ∷ 0x65 ∷ 0x72 ∷ 0x03 ∷ 0x02 ∷ 0x04 ∷ 0x01 ∷ 0x05 ∷ 0x08 ∷ 0x5f ∷ 0x5f ∷ 0x6e ∷ 0x61 ∷ 0x6d ∷ 0x65 ∷ 0x5f ∷ 0x5f ∷ 0x05 ∷ 0x05 ∷ 0x6f ∷ 0x74
    ∷ 0x68 ∷ 0x65 ∷ 0x72 ∷ 0x02 ∷ 0x00 ∷ 0x02 ∷ 0x02 ∷ 0x00 ∷ 0x00 ∷ 0x02 ∷ 0x01 ∷ 0x00 ∷ 0x00 ∷ 0x02 ∷ 0x03 ∷ 0x00 ∷ 0x00 ∷ 0x00 ∷ 0x01 ∷ 0x00
    ∷ 0x00 ∷ 0x03 ∷ 0x02 ∷ 0x02 ∷ 0x00 ∷ 0x00 ∷ 0x00 ∷ []
unfolding vuint text_numbered signed
imported held = refl

-- one object of each other kind; the main module's dict grew when its fifth name came:
--     a = [1, -2]
--     b = str(50)
--     c = range(1, 9, 3)
--     d = a.append
--     e = (True, ())
--     f = {5: False, 'x': e}
--     for g in c: ..
abbrev a : Value
a = values.List (record { cell = 19 })

abbrev b : Value
b = values.Text (record { cell = 26 })

abbrev c : Value
c = values.Range (record { cell = 28 })

abbrev d : Value
d = values.Method (record { cell = 32 })

abbrev e : Value
e = values.Tuple (record { cell = 59 })

abbrev f : Value
f = values.Dict (record { cell = 62 })

abbrev four_names : List (Value × Value)
four_names = (static 23, static 21) ∷ (own 0, a) ∷ (own 1, b) ∷ (own 2, c) ∷ []

abbrev four_heap : Heap Value ℕ
four_heap =
    with_made (with_made (with_made (with_made (with_pairs main_heap 4 four_names)
    (ListObject (int 1 ∷ values.Int (negsuc 1) ∷ []) 4))
    (TextObject (codes "50")))
    (RangeObject (pos 1) (pos 9) (pos 3)))
    (MethodObject a builtins.ListAppend)

abbrev kinds_heap : Heap Value ℕ
kinds_heap =
    with_made (with_made (with_pairs four_heap 4 (four_names ++ (own 3, d) ∷ (own 4, e) ∷ (own 5, f) ∷ (own 6, int 1) ∷ []))
    (TupleObject (values.Bool true ∷ values.Empty ∷ [])))
    (DictObject ((int 5, values.Bool false) ∷ (own 7, e) ∷ []) 4)

-- a whole iterator, the topmost slot first
abbrev iterator : Value → ℕ → List Slot
iterator over at = stacked.Iter over at 3 ∷ stacked.Iter over at 2 ∷ stacked.Iter over at 1 ∷ stacked.Iter over at 0 ∷ []

kinds_of_objects : (held : Module)
    → spelling (snapshot_of (library held (map (λ byte. byte ∷ []) (codes "abcdefgx"))) kinds_heap main_modules (main_call 52 (iterator c 1) [] ∷ []) 0)
    ≡ 0x4d ∷ 0x53 ∷ 0x01 ∷ 0x1f ∷ 0x84 ∷ 0x80 ∷ 0x00 ∷ 0x90 ∷ 0x80 ∷ 0x00 ∷ 0x4d ∷ 0x02 ∷ 0x00 ∷ 0x00 ∷ 0x00 ∷ 0x00 ∷ 0x00 ∷ 0x00 ∷ 0x00 ∷ 0x00
    ∷ 0x08 ∷ 0x09 ∷ 0x08 ∷ 0x5f ∷ 0x5f ∷ 0x6d ∷ 0x61 ∷ 0x69 ∷ 0x6e ∷ 0x5f ∷ 0x5f ∷ 0x01 ∷ 0x02 ∷ 0x08 ∷ 0x08 ∷ 0x05 ∷ 0x08 ∷ 0x5f ∷ 0x5f ∷ 0x6e
    ∷ 0x61 ∷ 0x6d ∷ 0x65 ∷ 0x5f ∷ 0x5f ∷ 0x05 ∷ 0x08 ∷ 0x5f ∷ 0x5f ∷ 0x6d ∷ 0x61 ∷ 0x69 ∷ 0x6e ∷ 0x5f ∷ 0x5f ∷ 0x05 ∷ 0x01 ∷ 0x61 ∷ 0x04 ∷ 0x02
    ∷ 0x05 ∷ 0x01 ∷ 0x62 ∷ 0x04 ∷ 0x03 ∷ 0x05 ∷ 0x01 ∷ 0x63 ∷ 0x04 ∷ 0x04 ∷ 0x05 ∷ 0x01 ∷ 0x64 ∷ 0x04 ∷ 0x05 ∷ 0x05 ∷ 0x01 ∷ 0x65 ∷ 0x04 ∷ 0x06
    ∷ 0x05 ∷ 0x01 ∷ 0x66 ∷ 0x04 ∷ 0x07 ∷ 0x05 ∷ 0x01 ∷ 0x67 ∷ 0x03 ∷ 0x01 ∷ 0x01 ∷ 0x04 ∷ 0x02 ∷ 0x03 ∷ 0x01 ∷ 0x03 ∷ 0x7e ∷ 0x04 ∷ 0x02 ∷ 0x35
    ∷ 0x30 ∷ 0x08 ∷ 0x01 ∷ 0x09 ∷ 0x03 ∷ 0x07 ∷ 0x04 ∷ 0x02 ∷ 0x0b ∷ 0x6c ∷ 0x69 ∷ 0x73 ∷ 0x74 ∷ 0x2e ∷ 0x61 ∷ 0x70 ∷ 0x70 ∷ 0x65 ∷ 0x6e ∷ 0x64
    ∷ 0x03 ∷ 0x02 ∷ 0x02 ∷ 0x07 ∷ 0x02 ∷ 0x04 ∷ 0x02 ∷ 0x03 ∷ 0x05 ∷ 0x01 ∷ 0x05 ∷ 0x01 ∷ 0x78 ∷ 0x04 ∷ 0x06 ∷ 0x01 ∷ 0x00 ∷ 0x01 ∷ 0x00 ∷ 0x00
    ∷ 0x34 ∷ 0x01 ∷ 0x00 ∷ 0x00 ∷ 0x01 ∷ 0x0a ∷ 0x04 ∷ 0x04 ∷ 0x01 ∷ 0x00 ∷ []
unfolding vuint text_numbered signed
kinds_of_objects held = refl

-- a finally that keeps a jump out of a loop, with the loop's iterator below it
abbrev left_heap : Heap Value ℕ
left_heap = with_made (main_with ((own 0, a) ∷ (own 1, int 1) ∷ [])) (ListObject [] 4)

left : (held : Module) → spelling (snapshot_of (library held (codes "a" ∷ codes "b" ∷ [])) left_heap main_modules
    (main_call 26 (stacked.Jump 36 0 true ∷ iterator a 1) (record { handler = 26; is_finally = true; height = 4; kept = None } ∷ []) ∷ []) 0)
    ≡ 0x4d ∷ 0x53 ∷ 0x01 ∷ 0x1f ∷ 0x84 ∷ 0x80 ∷ 0x00 ∷ 0x90 ∷ 0x80 ∷ 0x00 ∷ 0x1a ∷ 0x00 ∷ 0x00 ∷ 0x00 ∷ 0x00 ∷ 0x00 ∷ 0x00 ∷ 0x00 ∷ 0x00 ∷ 0x00
    ∷ 0x03 ∷ 0x09 ∷ 0x08 ∷ 0x5f ∷ 0x5f ∷ 0x6d ∷ 0x61 ∷ 0x69 ∷ 0x6e ∷ 0x5f ∷ 0x5f ∷ 0x01 ∷ 0x02 ∷ 0x04 ∷ 0x03 ∷ 0x05 ∷ 0x08 ∷ 0x5f ∷ 0x5f ∷ 0x6e
    ∷ 0x61 ∷ 0x6d ∷ 0x65 ∷ 0x5f ∷ 0x5f ∷ 0x05 ∷ 0x08 ∷ 0x5f ∷ 0x5f ∷ 0x6d ∷ 0x61 ∷ 0x69 ∷ 0x6e ∷ 0x5f ∷ 0x5f ∷ 0x05 ∷ 0x01 ∷ 0x61 ∷ 0x04 ∷ 0x02
    ∷ 0x05 ∷ 0x01 ∷ 0x62 ∷ 0x03 ∷ 0x01 ∷ 0x01 ∷ 0x04 ∷ 0x00 ∷ 0x01 ∷ 0x00 ∷ 0x01 ∷ 0x00 ∷ 0x00 ∷ 0x1a ∷ 0x01 ∷ 0x00 ∷ 0x00 ∷ 0x02 ∷ 0x0a ∷ 0x04
    ∷ 0x02 ∷ 0x01 ∷ 0x0e ∷ 0x24 ∷ 0x00 ∷ 0x80 ∷ 0x01 ∷ 0x1a ∷ 0x01 ∷ 0x01 ∷ 0x04 ∷ 0x00 ∷ []
unfolding vuint text_numbered signed
left held = refl

-- one that keeps a return, where a step of the next instruction is paid
abbrev returned_heap : Heap Value ℕ
returned_heap = with_made (with_made (main_with ((own 0, values.Fun (record { cell = 19 })) ∷ [])) (FunctionObject (FIRST_OWN + 0) 21 1 4 values.None)) (TextObject (codes "x"))

abbrev returned_call : Call
returned_call = record {
  module_number = 0;
  code = 1;
  at = 13;
  names = record { cell = 4 };
  role = ends.Call;
  locals = Some (own 1) ∷ Some (values.Text (record { cell = 23 })) ∷ [];
  slots = stacked.Value (own 1) ∷ stacked.Value (values.Built builtins.Print) ∷ stacked.Return (values.Text (record { cell = 23 })) ∷ iterator (own 1) 1;
  entries = record { handler = 10; is_finally = true; height = 4; kept = None } ∷ [];
}

returned : (held : Module) → spelling (snapshot_of (library held (codes "f" ∷ codes "xy" ∷ [])) returned_heap main_modules (returned_call ∷ main_call 8 [] [] ∷ []) 1)
    ≡ 0x4d ∷ 0x53 ∷ 0x01 ∷ 0x1f ∷ 0x84 ∷ 0x80 ∷ 0x00 ∷ 0x90 ∷ 0x80 ∷ 0x00 ∷ 0x19 ∷ 0x01 ∷ 0x01 ∷ 0x00 ∷ 0x00 ∷ 0x00 ∷ 0x00 ∷ 0x00 ∷ 0x00 ∷ 0x00
    ∷ 0x04 ∷ 0x09 ∷ 0x08 ∷ 0x5f ∷ 0x5f ∷ 0x6d ∷ 0x61 ∷ 0x69 ∷ 0x6e ∷ 0x5f ∷ 0x5f ∷ 0x01 ∷ 0x02 ∷ 0x04 ∷ 0x02 ∷ 0x05 ∷ 0x08 ∷ 0x5f ∷ 0x5f ∷ 0x6e
    ∷ 0x61 ∷ 0x6d ∷ 0x65 ∷ 0x5f ∷ 0x5f ∷ 0x05 ∷ 0x08 ∷ 0x5f ∷ 0x5f ∷ 0x6d ∷ 0x61 ∷ 0x69 ∷ 0x6e ∷ 0x5f ∷ 0x5f ∷ 0x05 ∷ 0x01 ∷ 0x66 ∷ 0x04 ∷ 0x02
    ∷ 0x05 ∷ 0x00 ∷ 0x01 ∷ 0x01 ∷ 0x00 ∷ 0x04 ∷ 0x01 ∷ 0x78 ∷ 0x01 ∷ 0x00 ∷ 0x02 ∷ 0x00 ∷ 0x00 ∷ 0x08 ∷ 0x01 ∷ 0x00 ∷ 0x00 ∷ 0x00 ∷ 0x00 ∷ 0x00
    ∷ 0x01 ∷ 0x0d ∷ 0x01 ∷ 0x01 ∷ 0x02 ∷ 0x05 ∷ 0x02 ∷ 0x78 ∷ 0x79 ∷ 0x04 ∷ 0x03 ∷ 0x04 ∷ 0x0a ∷ 0x05 ∷ 0x02 ∷ 0x78 ∷ 0x79 ∷ 0x01 ∷ 0x0d ∷ 0x04
    ∷ 0x03 ∷ 0x08 ∷ 0x05 ∷ 0x70 ∷ 0x72 ∷ 0x69 ∷ 0x6e ∷ 0x74 ∷ 0x05 ∷ 0x02 ∷ 0x78 ∷ 0x79 ∷ 0x01 ∷ 0x0a ∷ 0x01 ∷ 0x01 ∷ 0x04 ∷ 0x00 ∷ []
unfolding vuint text_numbered signed
returned held = refl

-- a list of one item that grew to five after a text, and one that had their room from the beginning: the cells that it left stay used
abbrev five : ℕ → List Value
five cell = values.Text (record { cell = cell }) ∷ values.None ∷ values.None ∷ values.None ∷ int 7 ∷ []

abbrev grew : Heap Value ℕ
grew = with_items (with_made (with_made (empty 100 100) (ListObject (values.None ∷ []) 4)) (TextObject (65 ∷ []))) 0 (five 7)

abbrev had_room : Heap Value ℕ
had_room = with_used (with_made (with_made (empty 100 100) (ListObject (five 11) 8)) (TextObject (65 ∷ []))) 4

same_snapshot : (shelf : Shelf) → snapshot_of shelf grew main_modules [] 5 ≡ snapshot_of shelf had_room main_modules [] 5
same_snapshot shelf = refl

-- iterators: a whole one below another, and the two lowest slots of one that others were taken of
abbrev over : ℕ → Slot
over part = stacked.Iter values.Empty 3 part

abbrev parts_of : Shelf → (ℕ → ℕ) → List Slot → List SlotPart
parts_of shelf place ss = map (slot_part shelf place) (shown_slots ss)

two_iterators : (shelf : Shelf) (place : ℕ → ℕ) → parts_of shelf place (stacked.Null ∷ over 0 ∷ over 1 ∷ over 2 ∷ over 3 ∷ over 0 ∷ over 1 ∷ over 2 ∷ over 3 ∷ stacked.Value values.None ∷ [])
    ≡ slots.Empty ∷ slots.Iterator parts.Empty 3 ∷ slots.Iterator parts.Empty 3 ∷ slots.Value parts.None ∷ []
two_iterators shelf place = refl

what_is_left : (shelf : Shelf) (place : ℕ → ℕ) → parts_of shelf place (over 0 ∷ over 1 ∷ stacked.Jump 9 2 true ∷ over 0 ∷ stacked.Return values.None ∷ [])
    ≡ slots.Left 2 parts.Empty 3 ∷ slots.Jump 9 2 true ∷ slots.Left 1 parts.Empty 3 ∷ slots.Return parts.None ∷ []
what_is_left shelf place = refl
