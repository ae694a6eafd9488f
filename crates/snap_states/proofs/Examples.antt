-- The snapshot of a program of one line after its first step is a state of any library whose code has one value there; and others,
-- of which each breaks one condition.
use Rattle.std.proofs.Common.{◌≡◌, ℕ, zero, suc, ◌<◌, true, false, List, [], ◌∷◌, get_or, Some, None, refl, sym, ap, subst, ◌∙◌, arith}
use Rattle.std.specs.Prelude.{codes, pos, slice_get, Contains}
use Rattle.std.proofs.lemmas.Bool.{false≢true}
use Rattle.mpy_base.specs.declared.builtin.Builtin.TheVariants as builtins
use Rattle.mpy_base.specs.World.{AList, AModule}
use Rattle.bc_library.specs.Shelf.{Shelf, no_entries}
use Rattle.bc_library.specs.Texts.{text_numbered}
use Rattle.arena_heap.specs.declared.value.StrNo.TheVariants as strs
use Rattle.bc_library.specs.bc_flow.Action.{Action}
use Rattle.bc_library.specs.bc_flow.Machine as flow
use Rattle.bc_library.specs.bc_shapes.Shape.{At}
use Rattle.bc_library.specs.bc_shapes.declared.kinds.Kind.TheVariants as slot_kinds
use Rattle.bc_library.specs.bc_verify.Body.{flow_of}
use Rattle.bc_flow.proofs.Sound.{Stands, empty, more, val}
use Rattle.vm_starting.specs.vm_states.bc_ops.declared.instr.Op.TheVariants as ops
use Rattle.vm_starting.specs.vm_states.bc_ops.declared.instr.Instr.TheVariants as instrs
use Rattle.vm_starting.specs.vm_states.bc_ops.declared.listing.Item.{Item}
use Rattle.vm_starting.specs.vm_states.bc_ops.declared.listing.Item.TheVariants as items
use Rattle.snap_grammar.specs.declared.parts.ValuePart.{ValuePart}
use Rattle.snap_grammar.specs.declared.parts.ValuePart.TheVariants as parts
use Rattle.snap_grammar.specs.declared.parts.PairPart.{PairPart}
use Rattle.snap_grammar.specs.declared.parts.ObjectPart.{ObjectPart}
use Rattle.snap_grammar.specs.declared.parts.ObjectPart.TheVariants as objects
use Rattle.snap_grammar.specs.declared.parts.SlotPart.{SlotPart}
use Rattle.snap_grammar.specs.declared.parts.SlotPart.TheVariants as slots
use Rattle.snap_grammar.specs.declared.parts.EntryPart.{EntryPart}
use Rattle.snap_grammar.specs.declared.parts.RolePart.TheVariants as roles
use Rattle.snap_grammar.specs.declared.parts.FramePart.{FramePart}
use Rattle.snap_grammar.specs.declared.parts.Snapshot.{Snapshot}
use Rattle.snap_states.specs.Shapes.{JumpsLeadOn, StandsAt}
use Rattle.snap_states.specs.Parts.{method_of}
use Rattle.snap_states.specs.States.{AreEntriesAt, AreFineFrames, AreFineObjects, AreRegisteredParts, HasItems, HasName, HasRoom, IsAt, IsBuiltin, IsConstant, IsFineDict, IsFineException, IsFineFrame, IsFineLocal, IsFineModule, IsFineObject, IsFinePair, IsName, IsNamespace, IsPlain, IsShaped, KeepsFine, NamesOf, ShowsParts, Waits, none, value}
use Rattle.snap_states.proofs.Calling.{builtin_only, kind_only}
use Rattle.snap_states.proofs.Judging.{some_one}

-- a state of one module
-- =====================

abbrev name_pair : PairPart
name_pair = record { key = parts.Str (codes "__name__"); value = parts.Str (codes "__main__") }

-- the first value on the stack is a built-in
abbrev main_frame : FramePart
main_frame = record {
  module_number = 0;
  code = 0;
  at = 2;
  names = 1;
  role = roles.Main;
  locals = [];
  slots = slots.Value (parts.Named (codes "print")) ∷ [];
  entries = [];
}

abbrev with_used : ℕ → Snapshot
with_used used = record {
  cells = 65536;
  bytes = 262144;
  used_cells = used;
  used_bytes = 0;
  paid = 0;
  objects = objects.Module (codes "__main__") 1 ∷ objects.Dict 4 (name_pair ∷ []) ∷ [];
  modules = 0 ∷ [];
  frames = main_frame ∷ [];
}

abbrev hello : Snapshot
hello = with_used 19

has_room : HasRoom hello
has_room = record { cells_held = omega arith; bytes_held = omega arith; cells = omega arith; bytes = omega arith; few_cells = omega arith; few_bytes = omega arith }

only_main : (m : ℕ) → NamesOf hello m 1 → m ≡ 0
only_main zero n = refl
only_main (suc zero) n = absurd (let e = n.is in cc e)
only_main (suc (suc m)) n = absurd (let e = n.is in cc e)

namespace : IsNamespace hello 1
namespace = record { dict = refl; owner = 0; owns = record { name = codes "__main__"; is = refl }; alone = only_main }

first_module : (k d : ℕ) → k < 1 → IsAt hello AModule (get_or hello.modules k d)
first_module zero d lt = refl
first_module (suc k) d lt = absurd (omega (arith, lt))

one_module : (i j m n : ℕ) → i < j → slice_get hello.modules i ≡ Some m → slice_get hello.modules j ≡ Some n → ⊥
one_module i zero m n lt a b = omega (arith, lt)
one_module i (suc j) m n lt a b = cc b

registered : AreRegisteredParts hello
registered = record { modules = first_module; once = λ i j m n lt a b e. one_module i j m n lt a b }

module _ (shelf : Shelf) where
  constant_name : IsConstant shelf (codes "__name__")
  unfolding text_numbered
  constant_name = (strs.Pool 23, refl)

  constant_main : IsConstant shelf (codes "__main__")
  unfolding text_numbered
  constant_main = (strs.Pool 21, refl)

  own_name : IsName shelf (codes "__name__")
  unfolding text_numbered
  own_name = (23, refl)

  fine_pairs : (k : ℕ) (d : PairPart) → k < 1 → IsFinePair shelf hello (get_or (name_pair ∷ []) k d)
  fine_pairs zero d lt = record { key = constant_name; is_key = refl; value = constant_main }
  fine_pairs (suc k) d lt = absurd (omega (arith, lt))

  named_pairs : (k : ℕ) (d : PairPart) → k < 1 → HasName shelf hello (get_or (name_pair ∷ []) k d)
  named_pairs zero d lt = record { text = codes "__name__"; key_is = refl; name = own_name }
  named_pairs (suc k) d lt = absurd (omega (arith, lt))

  fine_module : IsFineModule shelf hello (codes "__main__") 1
  fine_module = record { known = (0, omega arith, refl); namespace = namespace }

  fine_dict : IsFineDict shelf hello 1 4 (name_pair ∷ [])
  fine_dict = record {
    has = record { is_room = (0, refl); holds = omega arith };
    fine = fine_pairs;
    once = λ i j lt below e. omega (arith, lt, below);
    named = λ m n. named_pairs;
  }

  fine_objects : AreFineObjects shelf hello
  fine_objects zero o at = subst (IsFineObject shelf hello 0) (some_one at) fine_module
  fine_objects (suc zero) o at = subst (IsFineObject shelf hello 1) (some_one at) fine_dict
  fine_objects (suc (suc n)) o at = absurd cc

  print : IsBuiltin (codes "print")
  print = record { builtin = builtins.Print; named = refl; free = refl }

  no_local : (k : ℕ) (d : SlotPart) → k < 0 → IsFineLocal shelf hello (get_or main_frame.locals k d)
  no_local k d lt = absurd (omega (arith, lt))

  no_entry : (k : ℕ) (d : EntryPart) → k < 0 → KeepsFine hello (get_or main_frame.entries k d)
  no_entry k d lt = absurd (omega (arith, lt))

  -- the frame, where the code has one value at the offset and no locals
  fine_frame : (stands : StandsAt shelf 0 0 2) → stands.shape ≡ record { slots = slot_kinds.Value ∷ []; entries = [] } → 0 ≡ (flow_of stands.body).locals
      → (item : Item) → slice_get stands.body.items stands.position ≡ Some item → (action : Action) → slice_get (flow_of stands.body).actions stands.position ≡ Some action
      → IsFineFrame shelf hello None main_frame
  fine_frame stands is locals item at action does = record {
    stands = stands;
    names = namespace;
    role = tt;
    as_many_locals = locals;
    locals = no_local;
    item = item;
    item_is = at;
    action = action;
    action_is = does;
    taken = 0;
    waits = refl;
    stack = flow.Value ∷ [];
    shows = value print none;
    slots = subst (λ (x : At). Stands (flow.Value ∷ []) x.slots) (sym is) (more val empty);
    entries = subst (λ (x : At). AreEntriesAt stands.offsets [] x.entries) (sym is) tt;
    kept = no_entry;
    jumps = subst (λ (x : At). JumpsLeadOn stands.a x.entries (flow.Value ∷ [])) (sym is) tt;
  }

  -- so the whole is one
  fine_hello : (stands : StandsAt shelf 0 0 2) → stands.shape ≡ record { slots = slot_kinds.Value ∷ []; entries = [] } → 0 ≡ (flow_of stands.body).locals
      → (item : Item) → slice_get stands.body.items stands.position ≡ Some item → (action : Action) → slice_get (flow_of stands.body).actions stands.position ≡ Some action
      → IsShaped shelf hello
  fine_hello stands is locals item at action does = record {
    objects = fine_objects;
    room = has_room;
    registered = registered;
    some_frames = omega arith;
    few_frames = omega arith;
    frames = (fine_frame stands is locals item at action does, refl);
  }

-- others
-- ======

too_few_cells : HasRoom (with_used 18) → ⊥
too_few_cells r = omega (arith, r.cells_held)

more_than_there_are : HasRoom (with_used 65537) → ⊥
more_than_there_are r = omega (arith, r.cells)

past_the_limit : HasRoom (record hello { cells = 4194305 }) → ⊥
past_the_limit r = omega (arith, r.few_cells)

room_of_six : HasItems 6 0 → ⊥
room_of_six h = let k = h.is_room.0 in omega (arith, h.is_room.1)

full : HasItems 4 5 → ⊥
full h = omega (arith, h.holds)

abbrev with_objects : List ObjectPart → Snapshot
with_objects os = record hello { objects = os }

-- two modules with one dict
abbrev two_owners : Snapshot
two_owners = with_objects (objects.Module (codes "__main__") 2 ∷ objects.Module (codes "other") 2 ∷ objects.Dict 4 [] ∷ [])

shared_namespace : IsNamespace two_owners 2 → ⊥
shared_namespace n =
    let a = n.alone 0 (record { name = codes "__main__"; is = refl }) in
    let b = n.alone 1 (record { name = codes "other"; is = refl }) in
    omega (arith, a, b)

registered_twice : AreRegisteredParts (record hello { modules = 0 ∷ 0 ∷ [] }) → ⊥
registered_twice r = r.once 0 1 0 0 (omega arith) refl refl refl

registered_dict : AreRegisteredParts (record hello { modules = 1 ∷ [] }) → ⊥
registered_dict r = let e = r.modules 0 0 (omega arith) in cc e

abbrev inactive : EntryPart
inactive = record { handler = 9; is_finally = true; active = false; height = 0; kept = Some 0 }

kept_while_inactive : KeepsFine hello inactive → ⊥
kept_while_inactive k = let e = k.active refl in cc e

not_at_a_call : (action : Action) (taken : ℕ) → Waits (Some roles.Call) (items.Plain (instrs.Plain ops.PopTop)) action taken → ⊥
not_at_a_call action taken w = w

module _ (shelf : Shelf) where
  no_object : IsPlain shelf hello (parts.Object 2) → ⊥
  no_object o = omega (arith, o.there)

  dict_of_a_module : IsPlain shelf hello (parts.Object 1) → ⊥
  dict_of_a_module o = o.free 0 (record { name = codes "__main__"; is = refl })

  method_by_itself : IsPlain shelf hello (parts.Named (codes "list.append")) → ⊥
  method_by_itself b =
      let same : b.builtin ≡ builtins.ListAppend = some_one (sym (builtin_only (codes "list.append") b.builtin b.named)) in
      let none : Some AList ≡ None = ap method_of (sym same) ∙ b.free in
      cc none

  unknown_name : IsPlain shelf hello (parts.Named (codes "nothing")) → ⊥
  unknown_name b = let e = builtin_only (codes "nothing") b.builtin b.named in cc e

  empty_tuple : IsFineObject shelf hello 2 (objects.Tuple []) → ⊥
  empty_tuple h = omega (arith, h.0)

  empty_text : IsFineObject shelf hello 2 (objects.Text []) → ⊥
  empty_text h = omega (arith, h.0)

  not_ascii : IsFineObject shelf hello 2 (objects.Text (200 ∷ [])) → ⊥
  not_ascii h = let lt = h.1 0 0 (omega arith) in omega (arith, lt)

  zero_step : IsFineObject shelf hello 2 (objects.Range (pos 1) (pos 2) (pos 0)) → ⊥
  zero_step h = h refl

  unknown_kind : (args : ValuePart) (file name : List ℕ) → IsFineException shelf hello (codes "Trouble") args file name → ⊥
  unknown_kind args file name x = let e = kind_only (codes "Trouble") x.of_kind x.kind_is in cc e

  twice_one : (room : ℕ) → IsFineDict shelf hello 2 room (record { key = parts.True; value = parts.None } ∷ record { key = parts.Int (pos 1); value = parts.None } ∷ []) → ⊥
  twice_one room d = d.once 0 1 (omega arith) (omega arith) refl

  tuple_as_key : (v : ValuePart) → IsFinePair shelf hello (record { key = parts.Empty; value = v }) → ⊥
  tuple_as_key v p = false≢true p.is_key

  number_as_name : (room : ℕ) → IsFineDict shelf hello 1 room (record { key = parts.Int (pos 5); value = parts.None } ∷ []) → ⊥
  number_as_name room d =
      let h = d.named 0 (record { name = codes "__main__"; is = refl }) 0 name_pair (omega arith) in
      let e = h.key_is in cc e

  local_iterator : (v : ValuePart) (at : ℕ) → IsFineLocal shelf hello (slots.Iterator v at) → ⊥
  local_iterator v at h = h

  no_frames : AreFineFrames shelf hello None [] → ⊥
  no_frames e = cc e

  main_above : (fs : List FramePart) → AreFineFrames shelf hello (Some roles.Main) (main_frame ∷ fs) → ⊥
  main_above fs h = h

  lonely_method : (offsets : List ℕ) (st : flow.Stack) → ShowsParts shelf hello offsets (slots.Value (parts.Named (codes "list.append")) ∷ []) st → ⊥
  lonely_method offsets st (value plain rest) = method_by_itself plain

-- a library of no modules has no such name
unknown_module : IsFineModule no_entries hello (codes "other") 1 → ⊥
unknown_module m = other m.known
  where
    other : Contains (codes "__main__" ∷ []) (codes "other") → ⊥
    other c = at c.0 c.1 c.2
      where
        at : (k : ℕ) → k < 1 → get_or (codes "__main__" ∷ []) k (codes "other") ≡ codes "other" → ⊥
        at zero lt e = cc e
        at (suc k) lt e = omega (arith, lt)
