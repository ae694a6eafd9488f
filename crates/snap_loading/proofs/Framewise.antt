-- The frames of a run's snapshot meet the conditions of a state.
use Rattle.std.proofs.Common.{◌≡◌, inl, inr, ℕ, zero, suc, ◌+◌, ◌-◌, ◌<◌, ◌≤◌, Bool, true, false, List, [], ◌∷◌, ◌++◌, length, map, take, drop, reverse, Option, Some, None, slice_get, refl, sym, ap, ap₂, ◌∙◌, subst, arith, All, length-drop}
use Rattle.std.specs.Prelude.{◌⊎◌, nat_eq, nat_le, bytes_eq, unwrap_or, IfSome, IsSome, codes, if◌then◌else◌, ◌==◌, not}
use Rattle.std.specs.List.{AllByRecursion as Each}
use Rattle.std.specs.Option.{option_map, option_and_then}
use Rattle.std.proofs.lemmas.Bool.{false≢true, true≢false, eqb-true, eqb-false, ne_eqb, eq-eqb}
use Rattle.std.proofs.lemmas.List.{append_assoc, drop-drop, length-map, reverse-reverse, take-append-drop}
use Rattle.std.proofs.lemmas.List.Elements.{All-from_recursion, recursion_from_All}
use Rattle.std.proofs.lemmas.Option.{slice_get_within}
use Rattle.mpy_base.specs.declared.builtin.Builtin.{Builtin}
use Rattle.mpy_base.specs.declared.builtin.Builtin.TheVariants as builtins
use Rattle.mpy_base.specs.World.{Objects, Object, ListObject, TupleObject, TextObject, DictObject, FunctionObject, ExceptionObject, MethodObject, RangeObject, ModuleObject, ObjectKind, AList, ATuple, AText, ADict, AnException, AModule, object, kind_of, IsA}
use Rattle.mpy_base.specs.Val.{Val, Nil, Truth, Int, Str, Fixed, Empty, Built, At}
use Rattle.arena_heap.specs.declared.value.Value.{Value}
use Rattle.arena_heap.specs.declared.value.ExcNo.{ExcNo}
use Rattle.arena_heap.specs.declared.value.Value.TheVariants as values
use Rattle.arena_heap.specs.declared.value.StrNo.{StrNo}
use Rattle.arena_heap.specs.declared.value.ConstNo.{ConstNo}
use Rattle.bc_flow.specs.bc_shapes.declared.shape.Entry.{Entry as FlowEntry}
use Rattle.bc_flow.specs.Edges.{iterator_if}
use Rattle.bc_flow.specs.Machine as flow
use Rattle.bc_flow.specs.Machine.{Stack, cut, is_run}
use Rattle.bc_flow.specs.Verified.{Assigned}
use Rattle.bc_flow.proofs.Sound.{Keeps, Reach, OnTrue, CanUnwind, Sound}
use Rattle.bc_labels.specs.Positions.{CodeList, Listed, Starts, position_in}
use Rattle.bc_labels.proofs.Order.{order}
use Rattle.bc_library.specs.Shelf.{Shelf}
use Rattle.bc_machine.specs.Library.{Library}
use Rattle.bc_machine.specs.State as states
use Rattle.bc_machine.specs.py_values.Shown.{PlainHeap, shown_object}
use Rattle.bc_machine.specs.py_primitives.Builtins.{named, list_methods, dict_methods, str_methods}
use Rattle.bc_machine.specs.py_primitives.Iterables.{shown_items, items_in}
use Rattle.vm_starting.specs.vm_states.bc_progress.Known.{KindHas, HasMethod, facts_of}
use Rattle.vm_starting.specs.vm_states.bc_progress.Slots.{Facts, ShowsIn, ShowsAllIn, flow_entry}
use Rattle.vm_starting.specs.vm_states.frame_exits.Known.{KeepsException}
use Rattle.vm_starting.specs.frame_calls.arena_objects.Iterables.{or_nothing}
use Rattle.vm_starting.specs.frame_calls.prim_walks.Plain.{fixed_of, fixed_within, plain_by, plain}
use Rattle.vm_starting.specs.vm_states.frame_moves.Shown.{Tables, view_of}
use Rattle.vm_starting.specs.vm_states.vm_frames.declared.slot.Slot.{Slot}
use Rattle.vm_starting.specs.vm_states.vm_frames.declared.slot.Slot.TheVariants as stacked
use Rattle.vm_starting.specs.vm_states.vm_frames.declared.slot.Entry.{Entry}
use Rattle.vm_starting.specs.vm_states.vm_frames.declared.slot.Role.{Role}
use Rattle.vm_starting.specs.vm_states.vm_frames.declared.slot.Role.TheVariants as ends
use Rattle.vm_starting.specs.vm_states.vm_frames.Views.{View, slot_of, slots_of, locals_of, entry_of, entries_of, role_of}
use Rattle.bc_machine.specs.py_values.Names.{builtin_name}
use Rattle.snap_saving.specs.Shown.{goes_on, is_shown, value_part, iterator_part, slot_part, local_part, entry_part, kept_part, role_part}
use Rattle.snap_grammar.specs.declared.parts.ValuePart.TheVariants as parts
use Rattle.snap_grammar.specs.declared.parts.SlotPart.{SlotPart}
use Rattle.snap_grammar.specs.declared.parts.SlotPart.TheVariants as slots
use Rattle.snap_grammar.specs.declared.parts.EntryPart.{EntryPart}
use Rattle.snap_grammar.specs.declared.parts.Snapshot.{Snapshot}
use Rattle.snap_kept.specs.Values as kept
use Rattle.snap_kept.specs.Effects.{IsLocal, AreLocals}
use Rattle.snap_kept.specs.Frames.{LiesOn, AreSlots, KeepsNone, IsRole}
use Rattle.snap_states.specs.Parts.{method_of}
use Rattle.snap_states.specs.Shapes.{IsShapeAt, LeadsOn, JumpsLeadOn}
use Rattle.snap_states.specs.States.{IsAt, IsIterable, kind_of_part, IsPlain, IsBound, KeepsFine, IsFineLocal, IsFineRole, IsEntryAt, AreEntriesAt, ShowsParts}
use Rattle.snap_loading.proofs.Reframing.{shown_down, Goes, goes_at}

some_is : {A : Type 0} (x y : A) → Some x ≡ Some y → x ≡ y
some_is x y e = cc

-- values by their kinds
-- =====================

-- the kind of object that a value is
abbrev pub val_kind : PlainHeap → Val → Option ObjectKind
val_kind heap Nil = None
val_kind heap (Truth b) = None
val_kind heap (Int z) = None
val_kind heap (Str bytes) = Some AText
val_kind heap (Fixed items) = Some ATuple
val_kind heap Empty = Some ATuple
val_kind heap (Built b) = None
val_kind heap (At n) = kind_of (object heap.objects n)

-- what has items is an iterable
object_iterable : (o : Option (Object Val (List ℕ))) → IsSome (shown_items (shown_object o)) → IsIterable (kind_of o)
object_iterable (Some (ListObject items room)) h = tt
object_iterable (Some (TupleObject items)) h = tt
object_iterable (Some (TextObject bytes)) h = tt
object_iterable (Some (DictObject pairs room)) h = tt
object_iterable (Some (RangeObject start stop step)) h = tt
object_iterable (Some (FunctionObject name module_name code names defaults)) h = absurd cc
object_iterable (Some (ExceptionObject kind args file line name)) h = absurd cc
object_iterable (Some (MethodObject v method)) h = absurd cc
object_iterable (Some (ModuleObject name names)) h = absurd cc
object_iterable None h = absurd cc

pub iterable : (heap : PlainHeap) (v : Val) → IsSome (items_in heap v) → IsIterable (val_kind heap v)
iterable heap (Str bytes) h = tt
iterable heap (Fixed items) h = tt
iterable heap Empty h = tt
iterable heap (At n) h = object_iterable (object heap.objects n) h
iterable heap Nil h = absurd cc
iterable heap (Truth b) h = absurd cc
iterable heap (Int z) h = absurd cc
iterable heap (Built b) h = absurd cc

-- a method that is found among some
among : (P : Builtin → Type 0) (methods : List (List ℕ × Builtin)) → Each (λ m. P (m.1)) methods → (name : List ℕ) (b : Builtin) → named methods name ≡ Some b → P b
among P [] h name b e = absurd cc
among P (m ∷ methods) h name b e = by (bytes_eq (m.0) name) e (among P methods h.1 name b)
  where
    by : (c : Bool) → (if c then Some (m.1) else named methods name) ≡ Some b → (named methods name ≡ Some b → P b) → P b
    by true f rest = subst P (some_is (m.1) b f) h.0
    by false f rest = rest f

kind_method : (kind : Option ObjectKind) (b : Builtin) → KindHas kind b → (k : ObjectKind) × (kind ≡ Some k) × (method_of b ≡ Some k)
kind_method (Some AList) b h = (AList, refl, among (λ z. method_of z ≡ Some AList) list_methods (refl, (refl, (refl, (refl, tt)))) h.0 b h.1)
kind_method (Some ADict) b h = (ADict, refl, among (λ z. method_of z ≡ Some ADict) dict_methods (refl, (refl, (refl, (refl, (refl, tt))))) h.0 b h.1)
kind_method (Some AText) b h = (AText, refl, among (λ z. method_of z ≡ Some AText) str_methods (refl, (refl, (refl, (refl, tt)))) h.0 b h.1)
kind_method _ b h = absurd h

pub method_kind : (heap : PlainHeap) (v : Val) (b : Builtin) → HasMethod heap.objects v b → (k : ObjectKind) × (val_kind heap v ≡ Some k) × (method_of b ≡ Some k)
method_kind heap (Str bytes) b h = (AText, refl, among (λ z. method_of z ≡ Some AText) str_methods (refl, (refl, (refl, (refl, tt)))) h.0 b h.1)
method_kind heap (At n) b h = kind_method (kind_of (object heap.objects n)) b h
method_kind heap Nil b h = absurd h
method_kind heap (Truth x) b h = absurd h
method_kind heap (Int z) b h = absurd h
method_kind heap (Fixed items) b h = absurd h
method_kind heap Empty b h = absurd h
method_kind heap (Built x) b h = absurd h

-- slots in the flow
-- =================

-- the slot of an iterator with this number
abbrev iter_slot : ℕ → flow.Slot
iter_slot zero = flow.Iter1
iter_slot (suc zero) = flow.Iter2
iter_slot (suc (suc zero)) = flow.Iter3
iter_slot (suc (suc (suc n))) = flow.Iter4

-- the lowest slots of an iterator on others
abbrev iters : ℕ → Stack → Stack
iters zero st = st
iters (suc n) st = iter_slot n ∷ iters n st

module _ (facts : Facts) where
  abbrev Stands_for : Val → flow.Slot → Type 0
  Stands_for v t = (t ≡ flow.Value) ⊎ ((t ≡ flow.NoneOrException) × ((v ≡ Nil) ⊎ ((x : ℕ) × (v ≡ At x) × facts.exception x)))

  abbrev pub Lie : List states.Slot → Stack → Type 0
  Lie [] st = st ≡ []
  Lie (states.Value v ∷ sl) st = (t : flow.Slot) × (rest : Stack) × (st ≡ t ∷ rest) × Stands_for v t × Lie sl rest
  Lie (states.Null ∷ sl) st = (rest : Stack) × (st ≡ flow.Null ∷ rest) × Lie sl rest
  Lie (states.Object o ∷ states.Value v ∷ sl) st = (rest : Stack) × (st ≡ flow.Method ∷ flow.Value ∷ rest) × Lie sl rest
  Lie (states.Object o ∷ _) st = ⊥
  Lie (states.Iter over place part ∷ sl) st = (rest : Stack) × (st ≡ iter_slot part ∷ rest) × (part ≤ 3) × Lie sl rest
  Lie (states.KeptReturn v ∷ sl) st = (rest : Stack) × (st ≡ flow.KeptReturn ∷ rest) × Lie sl rest
  Lie (states.KeptJump target count it ∷ sl) st = (rest : Stack) × (st ≡ flow.KeptJump target count it ∷ rest) × Lie sl rest

  pub lie : (sl : List states.Slot) (st : Stack) → ShowsAllIn facts sl st → Lie sl st
  lie sl st ShowsAllIn.none = refl
  lie sl st (ShowsAllIn.more {slots = r} {stack = su} ShowsIn.value h) = (_, su, refl, inl refl, lie r su h)
  lie sl st (ShowsAllIn.more {slots = r} {stack = su} ShowsIn.nothing h) = (_, su, refl, inr (refl, inl refl), lie r su h)
  lie sl st (ShowsAllIn.more {slots = r} {stack = su} (ShowsIn.exception {x = x} q) h) = (_, su, refl, inr (refl, inr (x, refl, q)), lie r su h)
  lie sl st (ShowsAllIn.more {slots = r} {stack = su} ShowsIn.null h) = (su, refl, lie r su h)
  lie sl st (ShowsAllIn.more {slots = r} {stack = su} ShowsIn.kept_return h) = (su, refl, lie r su h)
  lie sl st (ShowsAllIn.more {slots = r} {stack = su} ShowsIn.kept_jump h) = (su, refl, lie r su h)
  lie sl st (ShowsAllIn.more {slots = r} {stack = su} ShowsIn.iterator1 h) = (su, refl, omega arith, lie r su h)
  lie sl st (ShowsAllIn.more {slots = r} {stack = su} ShowsIn.iterator2 h) = (su, refl, omega arith, lie r su h)
  lie sl st (ShowsAllIn.more {slots = r} {stack = su} ShowsIn.iterator3 h) = (su, refl, omega arith, lie r su h)
  lie sl st (ShowsAllIn.more {slots = r} {stack = su} ShowsIn.iterator4 h) = (su, refl, omega arith, lie r su h)
  lie sl st (ShowsAllIn.bound {slots = r} {stack = su} m h) = (su, refl, lie r su h)
  lie sl st (ShowsAllIn.free {slots = r} {stack = su} h) = (su, refl, lie r su h)

-- what slots hold
module _ (library : Library) (heap : PlainHeap) where
  abbrev pub Plainly : List states.Slot → Type 0
  Plainly [] = Unit {0}
  Plainly (states.Value v ∷ sl) = kept.IsPlain library heap v × Plainly sl
  Plainly (states.Null ∷ sl) = Plainly sl
  Plainly (states.Object None ∷ sl) = Plainly sl
  Plainly (states.Object (Some o) ∷ states.Value v ∷ sl) = ((b : Builtin) × (v ≡ Built b) × kept.IsPlain library heap o × HasMethod heap.objects o b) × Plainly sl
  Plainly (states.Object (Some o) ∷ _) = ⊥
  Plainly (states.Iter over place part ∷ sl) = (kept.IsPlain library heap over × IsSome (items_in heap over) × LiesOn over place part sl) × Plainly sl
  Plainly (states.KeptReturn v ∷ sl) = kept.IsPlain library heap v × Plainly sl
  Plainly (states.KeptJump target count it ∷ sl) = Plainly sl

  pub plainly : (sl : List states.Slot) → AreSlots library heap sl → Plainly sl
  plainly [] h = tt
  plainly (states.Value v ∷ sl) h = (h.0, plainly sl h.1)
  plainly (states.Null ∷ sl) h = plainly sl h
  plainly (states.Object None ∷ sl) h = plainly sl h
  plainly (states.Object (Some o) ∷ states.Value (Built b) ∷ sl) h = ((b, refl, h.0.0, h.0.1), plainly sl h.1)
  plainly (states.Object (Some o) ∷ _) h = absurd h
  plainly (states.Iter over place part ∷ sl) h = ((h.0.0, h.0.1, h.0.2), plainly sl h.1)
  plainly (states.KeptReturn v ∷ sl) h = (h.0, plainly sl h.1)
  plainly (states.KeptJump target count it ∷ sl) h = plainly sl h

-- values by what they are
module _ (texts : StrNo → Option (List ℕ)) (tuples : ConstNo → Option (List Value)) (shelf : Shelf) (place : ℕ → ℕ) where
  abbrev FixedIs : Val → Type 0
  FixedIs Empty = Unit {0}
  FixedIs (Fixed items) = Unit {0}
  FixedIs _ = ⊥

  fixed_form : (xs : List Val) → FixedIs (fixed_of xs)
  fixed_form [] = tt
  fixed_form (x ∷ xs) = tt

  fixed_is : (c : ConstNo) (v : Val) → plain texts tuples (values.Fixed c) ≡ v → FixedIs v
  unfolding fixed_within
  fixed_is c v e = subst FixedIs e (fixed_form (map (plain_by texts (fixed_within texts tuples 31)) (or_nothing (tuples c))))

  object_part_of : (w : Value) (x : ℕ) → plain texts tuples w ≡ At x → value_part shelf place w ≡ parts.Object (place x)
  object_part_of (values.List l) x e = ap (λ z. parts.Object (place z)) (let same : l.cell ≡ x = cc in same)
  object_part_of (values.Dict l) x e = ap (λ z. parts.Object (place z)) (let same : l.cell ≡ x = cc in same)
  object_part_of (values.Tuple l) x e = ap (λ z. parts.Object (place z)) (let same : l.cell ≡ x = cc in same)
  object_part_of (values.Text l) x e = ap (λ z. parts.Object (place z)) (let same : l.cell ≡ x = cc in same)
  object_part_of (values.Fun l) x e = ap (λ z. parts.Object (place z)) (let same : l.cell ≡ x = cc in same)
  object_part_of (values.Exc l) x e = ap (λ z. parts.Object (place z)) (let same : l.cell ≡ x = cc in same)
  object_part_of (values.Method l) x e = ap (λ z. parts.Object (place z)) (let same : l.cell ≡ x = cc in same)
  object_part_of (values.Range l) x e = ap (λ z. parts.Object (place z)) (let same : l.cell ≡ x = cc in same)
  object_part_of (values.Module l) x e = ap (λ z. parts.Object (place z)) (let same : l.cell ≡ x = cc in same)
  object_part_of (values.Fixed c) x e = absurd (fixed_is c (At x) e)
  object_part_of values.None x e = absurd cc
  object_part_of (values.Bool b) x e = absurd cc
  object_part_of (values.Int z) x e = absurd cc
  object_part_of (values.Str z) x e = absurd cc
  object_part_of values.Empty x e = absurd cc
  object_part_of (values.Built b) x e = absurd cc

  nil_part_of : (w : Value) → plain texts tuples w ≡ Nil → value_part shelf place w ≡ parts.None
  nil_part_of values.None e = refl
  nil_part_of (values.Fixed c) e = absurd (fixed_is c Nil e)
  nil_part_of (values.List l) e = absurd cc
  nil_part_of (values.Dict l) e = absurd cc
  nil_part_of (values.Tuple l) e = absurd cc
  nil_part_of (values.Text l) e = absurd cc
  nil_part_of (values.Fun l) e = absurd cc
  nil_part_of (values.Exc l) e = absurd cc
  nil_part_of (values.Method l) e = absurd cc
  nil_part_of (values.Range l) e = absurd cc
  nil_part_of (values.Module l) e = absurd cc
  nil_part_of (values.Bool b) e = absurd cc
  nil_part_of (values.Int z) e = absurd cc
  nil_part_of (values.Str z) e = absurd cc
  nil_part_of values.Empty e = absurd cc
  nil_part_of (values.Built b) e = absurd cc

  built_part_of : (w : Value) (b : Builtin) → plain texts tuples w ≡ Built b → value_part shelf place w ≡ parts.Named (builtin_name b)
  built_part_of (values.Built c) b e = ap (λ z. parts.Named (builtin_name z)) (let same : c ≡ b = cc in same)
  built_part_of (values.Fixed c) b e = absurd (fixed_is c (Built b) e)
  built_part_of values.None b e = absurd cc
  built_part_of (values.List l) b e = absurd cc
  built_part_of (values.Dict l) b e = absurd cc
  built_part_of (values.Tuple l) b e = absurd cc
  built_part_of (values.Text l) b e = absurd cc
  built_part_of (values.Fun l) b e = absurd cc
  built_part_of (values.Exc l) b e = absurd cc
  built_part_of (values.Method l) b e = absurd cc
  built_part_of (values.Range l) b e = absurd cc
  built_part_of (values.Module l) b e = absurd cc
  built_part_of (values.Bool c) b e = absurd cc
  built_part_of (values.Int z) b e = absurd cc
  built_part_of (values.Str z) b e = absurd cc
  built_part_of values.Empty b e = absurd cc

-- what is known of the parts of values
pub record Parts_are (library : Library) (heap : PlainHeap) (objects : Objects Value ℕ) (tables : Tables) (shelf : Shelf) (s : Snapshot) (place : ℕ → ℕ) : Type 0 where
  pub plain_is : (v : Value) → kept.IsPlain library heap (plain tables.texts tables.tuples v) → IsPlain shelf s (value_part shelf place v)
  pub kind_is : (v : Value) → kept.IsPlain library heap (plain tables.texts tables.tuples v) → kind_of_part s (value_part shelf place v) ≡ val_kind heap (plain tables.texts tables.tuples v)
  pub exception_is : (n : ℕ) → IsA objects AnException n → IsAt s AnException (place n)
  pub module_is : (n : ℕ) → IsA heap.objects AModule n → IsAt s AModule (place n)

module _ (library : Library) (heap : PlainHeap) (objects : Objects Value ℕ) (tables : Tables) (shelf : Shelf) (s : Snapshot) (place : ℕ → ℕ) (known : Parts_are library heap objects tables shelf s place) (starts offsets : List ℕ) where
  abbrev view : View
  view = view_of tables

  abbrev facts : Facts
  facts = facts_of objects

  -- kept jumps lead to instructions
  abbrev pub Jumps : List Slot → Type 0
  Jumps [] = Unit {0}
  Jumps (stacked.Jump target count it ∷ xs) = (slice_get offsets (position_in starts target) ≡ Some target) × Jumps xs
  Jumps (stacked.Value v ∷ xs) = Jumps xs
  Jumps (stacked.Null ∷ xs) = Jumps xs
  Jumps (stacked.Object o ∷ xs) = Jumps xs
  Jumps (stacked.Iter over q m ∷ xs) = Jumps xs
  Jumps (stacked.Return v ∷ xs) = Jumps xs

  abbrev Parts : Option Slot → List Slot → List SlotPart
  Parts above xs = map (slot_part shelf place) (shown_down above xs)

  abbrev Shows : List SlotPart → Stack → Type 0
  Shows ps st = ShowsParts shelf s offsets ps st

  value_shows : (w : Value) (t : flow.Slot) (ps : List SlotPart) (st : Stack) → kept.IsPlain library heap (view.plain w) → Stands_for facts (view.plain w) t → Shows ps st → Shows (slots.Value (value_part shelf place w) ∷ ps) (t ∷ st)
  value_shows w t ps st h (inl e) r = subst (λ z. Shows (slots.Value (value_part shelf place w) ∷ ps) (z ∷ st)) (sym e) (ShowsParts.value (known.plain_is w h) r)
  value_shows w t ps st h (inr (e, inl nil)) r =
      subst (λ z. Shows (slots.Value (value_part shelf place w) ∷ ps) (z ∷ st)) (sym e)
      (subst (λ z. Shows (slots.Value z ∷ ps) (flow.NoneOrException ∷ st)) (sym (nil_part_of tables.texts tables.tuples shelf place w nil)) (ShowsParts.nothing r))
  value_shows w t ps st h (inr (e, inr x)) r =
      subst (λ z. Shows (slots.Value (value_part shelf place w) ∷ ps) (z ∷ st)) (sym e)
      (subst (λ z. Shows (slots.Value z ∷ ps) (flow.NoneOrException ∷ st)) (sym (object_part_of tables.texts tables.tuples shelf place w x.0 x.1)) (ShowsParts.exception (known.exception_is x.0 x.2) r))

  bound_shows : (o w : Value) (ps : List SlotPart) (st : Stack) → (b : Builtin) × (view.plain w ≡ Built b) × kept.IsPlain library heap (view.plain o) × HasMethod heap.objects (view.plain o) b → Shows ps st
      → Shows (slots.Value (value_part shelf place o) ∷ slots.Value (value_part shelf place w) ∷ ps) (flow.Method ∷ flow.Value ∷ st)
  bound_shows o w ps st h r =
      let k = method_kind heap (view.plain o) h.0 h.3 in
      let bound : IsBound shelf s (builtin_name h.0) (value_part shelf place o) = record {
        method = h.0;
        named = refl;
        kind = k.0;
        method_is = k.2;
        value_is = known.kind_is o h.2 ∙ k.1;
        plain = known.plain_is o h.2;
      } in
      subst (λ z. Shows (slots.Value (value_part shelf place o) ∷ slots.Value z ∷ ps) (flow.Method ∷ flow.Value ∷ st)) (sym (built_part_of tables.texts tables.tuples shelf place w h.0 h.1)) (ShowsParts.bound bound r)

  iterator_shows : (over : Value) (p m : ℕ) (ps : List SlotPart) (st : Stack) → m ≤ 3 → kept.IsPlain library heap (view.plain over) → IsSome (items_in heap (view.plain over)) → Shows ps st
      → Shows (iterator_part shelf place over p m ∷ ps) (iter_slot m ∷ iters m st)
  iterator_shows over p m ps st le h items r = by m le (known.plain_is over h, subst IsIterable (sym (known.kind_is over h)) (iterable heap (view.plain over) items))
    where
      by : (n : ℕ) → n ≤ 3 → IsPlain shelf s (value_part shelf place over) × IsIterable (kind_of_part s (value_part shelf place over)) → ShowsParts shelf s offsets (iterator_part shelf place over p n ∷ ps) (iter_slot n ∷ iters n st)
      by zero l o = ShowsParts.one o r
      by (suc zero) l o = ShowsParts.two o r
      by (suc (suc zero)) l o = ShowsParts.three o r
      by (suc (suc (suc zero))) l o = ShowsParts.whole o r
      by (suc (suc (suc (suc n)))) l o = absurd (omega (arith, l))

  abbrev Found : Option Slot → List Slot → ℕ → Stack → Type 0
  Found above xs part st = (rest : Stack) × (st ≡ iters part rest) × Shows (Parts above xs) rest

  pub shows_by : (xs : List Slot) (above : Option Slot) (part : ℕ) (v : Val) (p : ℕ) (st : Stack) → Goes part above → LiesOn v p part (slots_of view starts xs) → Plainly library heap (slots_of view starts xs)
      → Lie facts (slots_of view starts xs) st → Jumps xs → Found above xs part st
  shows_by [] above zero v p st goes on h l j = (st, refl, subst (λ z. Shows [] z) (sym l) ShowsParts.none)
  shows_by [] above (suc n) v p st goes on h l j = absurd on
  shows_by (stacked.Value w ∷ xs) above zero v p st goes on h l j =
      let ih = shows_by xs (Some (stacked.Value w)) zero Nil 0 l.1 (λ k. refl) tt h.1 l.4 j in
      (st, refl, subst (λ z. Shows (Parts above (stacked.Value w ∷ xs)) z) (sym (l.2 ∙ ap (λ z. l.0 ∷ z) ih.1)) (value_shows w l.0 (Parts (Some (stacked.Value w)) xs) ih.0 h.0 l.3 ih.2))
  shows_by (stacked.Value w ∷ xs) above (suc n) v p st goes on h l j = absurd on
  shows_by (stacked.Null ∷ xs) above zero v p st goes on h l j =
      let ih = shows_by xs (Some stacked.Null) zero Nil 0 l.0 (λ k. refl) tt h l.2 j in
      (st, refl, subst (λ z. Shows (Parts above (stacked.Null ∷ xs)) z) (sym (l.1 ∙ ap (λ z. flow.Null ∷ z) ih.1)) (ShowsParts.null ih.2))
  shows_by (stacked.Null ∷ xs) above (suc n) v p st goes on h l j = absurd on
  shows_by (stacked.Object None ∷ stacked.Value w ∷ xs) above zero v p st goes on h l j =
      let ih = shows_by xs (Some (stacked.Value w)) zero Nil 0 l.0 (λ k. refl) tt h.1 l.2 j in
      (st, refl, subst (λ z. Shows (Parts above (stacked.Object None ∷ stacked.Value w ∷ xs)) z) (sym (l.1 ∙ ap (λ z. flow.Method ∷ flow.Value ∷ z) ih.1)) (ShowsParts.free (known.plain_is w h.0) ih.2))
  shows_by (stacked.Object (Some o) ∷ stacked.Value w ∷ xs) above zero v p st goes on h l j =
      let ih = shows_by xs (Some (stacked.Value w)) zero Nil 0 l.0 (λ k. refl) tt h.1 l.2 j in
      (st, refl, subst (λ z. Shows (Parts above (stacked.Object (Some o) ∷ stacked.Value w ∷ xs)) z) (sym (l.1 ∙ ap (λ z. flow.Method ∷ flow.Value ∷ z) ih.1)) (bound_shows o w (Parts (Some (stacked.Value w)) xs) ih.0 h.0 ih.2))
  shows_by (stacked.Object o ∷ xs) above (suc n) v p st goes on h l j = absurd on
  shows_by (stacked.Object None ∷ _) above zero v p st goes on h l j = absurd l
  shows_by (stacked.Object (Some o) ∷ _) above zero v p st goes on h l j = absurd l
  shows_by (stacked.Return w ∷ xs) above zero v p st goes on h l j =
      let ih = shows_by xs (Some (stacked.Return w)) zero Nil 0 l.0 (λ k. refl) tt h.1 l.2 j in
      (st, refl, subst (λ z. Shows (Parts above (stacked.Return w ∷ xs)) z) (sym (l.1 ∙ ap (λ z. flow.KeptReturn ∷ z) ih.1)) (ShowsParts.kept_return (known.plain_is w h.0) ih.2))
  shows_by (stacked.Return w ∷ xs) above (suc n) v p st goes on h l j = absurd on
  shows_by (stacked.Jump target count it ∷ xs) above zero v p st goes on h l j =
      let ih = shows_by xs (Some (stacked.Jump target count it)) zero Nil 0 l.0 (λ k. refl) tt h l.2 j.1 in
      (st, refl, subst (λ z. Shows (Parts above (stacked.Jump target count it ∷ xs)) z) (sym (l.1 ∙ ap (λ z. flow.KeptJump (position_in starts target) count it ∷ z) ih.1)) (ShowsParts.kept_jump j.0 ih.2))
  shows_by (stacked.Jump target count it ∷ xs) above (suc n) v p st goes on h l j = absurd on
  shows_by (stacked.Iter over q k ∷ xs) above zero v p st goes on h l j =
      let own : Slot = stacked.Iter over q k in
      let ih = shows_by xs (Some own) k (view.plain over) q l.0 (goes_at over q k) h.0.2 h.1 l.3 j in
      let shows = iterator_shows over q k (Parts (Some own) xs) ih.0 l.2 h.0.0 h.0.1 ih.2 in (
        st,
        refl,
        subst (λ z. Shows (Parts above (stacked.Iter over q k ∷ xs)) z) (sym (l.1 ∙ ap (λ z. iter_slot k ∷ z) ih.1))
            (subst (λ g. Shows (map (slot_part shelf place) (if not g then own ∷ shown_down (Some own) xs else shown_down (Some own) xs)) (iter_slot k ∷ iters k ih.0)) (sym (goes k)) shows),
      )
  shows_by (stacked.Iter over q k ∷ xs) above (suc n) v p st goes on h l j =
      let own : Slot = stacked.Iter over q k in
      let ih = shows_by xs (Some own) k (view.plain over) q l.0 (goes_at over q k) h.0.2 h.1 l.3 j in
      let hidden : goes_on k above ≡ true = ap (λ z. goes_on z above) on.2 ∙ goes in (
        ih.0,
        l.1 ∙ (ap (λ z. iter_slot k ∷ z) ih.1 ∙ ap (λ z. iters (suc z) ih.0) on.2),
        subst (λ g. Shows (map (slot_part shelf place) (if not g then own ∷ shown_down (Some own) xs else shown_down (Some own) xs)) ih.0) (sym hidden) ih.2,
      )

  -- kept jumps, by what the flow has
  pub jumps_by : (xs : List Slot) (st : Stack) → Lie facts (slots_of view starts xs) st → (front whole : Stack) → whole ≡ front ++ st
      → ((above : Stack) (target count : ℕ) (it : Bool) (rest : Stack) → whole ≡ above ++ flow.KeptJump (position_in starts target) count it ∷ rest → slice_get offsets (position_in starts target) ≡ Some target) → Jumps xs
  jumps_by [] st l front whole e leads = tt
  jumps_by (stacked.Value w ∷ xs) st l front whole e leads = jumps_by xs l.1 l.4 (front ++ l.0 ∷ []) whole (e ∙ (ap (λ z. front ++ z) l.2 ∙ sym (append_assoc front (l.0 ∷ []) l.1))) leads
  jumps_by (stacked.Null ∷ xs) st l front whole e leads = jumps_by xs l.0 l.2 (front ++ flow.Null ∷ []) whole (e ∙ (ap (λ z. front ++ z) l.1 ∙ sym (append_assoc front (flow.Null ∷ []) l.0))) leads
  jumps_by (stacked.Object o ∷ stacked.Value w ∷ xs) st l front whole e leads =
      jumps_by xs l.0 l.2 (front ++ flow.Method ∷ flow.Value ∷ []) whole (e ∙ (ap (λ z. front ++ z) l.1 ∙ sym (append_assoc front (flow.Method ∷ flow.Value ∷ []) l.0))) leads
  jumps_by (stacked.Object o ∷ _) st l front whole e leads = absurd l
  jumps_by (stacked.Iter over q k ∷ xs) st l front whole e leads = jumps_by xs l.0 l.3 (front ++ iter_slot k ∷ []) whole (e ∙ (ap (λ z. front ++ z) l.1 ∙ sym (append_assoc front (iter_slot k ∷ []) l.0))) leads
  jumps_by (stacked.Return w ∷ xs) st l front whole e leads = jumps_by xs l.0 l.2 (front ++ flow.KeptReturn ∷ []) whole (e ∙ (ap (λ z. front ++ z) l.1 ∙ sym (append_assoc front (flow.KeptReturn ∷ []) l.0))) leads
  jumps_by (stacked.Jump target count it ∷ xs) st l front whole e leads =
      let slot = flow.KeptJump (position_in starts target) count it in
      (leads front target count it l.0 (e ∙ ap (λ z. front ++ z) l.1), jumps_by xs l.0 l.2 (front ++ slot ∷ []) whole (e ∙ (ap (λ z. front ++ z) l.1 ∙ sym (append_assoc front (slot ∷ []) l.0))) leads)

  -- locals
  -- ======

  pub locals_fine : (ls : List (Option Value)) → AreLocals library heap (locals_of view ls) → Each (IsFineLocal shelf s) (map (local_part shelf place) ls)
  locals_fine [] h = tt
  locals_fine (None ∷ ls) h = (tt, locals_fine ls h.1)
  locals_fine (Some v ∷ ls) h = (known.plain_is v h.0, locals_fine ls h.1)

  -- roles
  pub role_fine : (name : List ℕ) (r : Role) → IsRole library heap (role_of view name r) → IsFineRole s (role_part place r)
  role_fine name ends.Main h = tt
  role_fine name ends.Call h = tt
  role_fine name (ends.Import m) h = known.module_is m.cell h.1

  -- entries
  -- =======

  module _ (bytes : List ℕ) (l : CodeList) (listed : Listed bytes l) (starts_are : starts ≡ l.offsets) (offsets_are : offsets ≡ l.offsets) (at : ℕ) (here : Starts l.offsets at) where
    active_same : (e : Entry) → Starts l.offsets e.handler → nat_le (position_in starts e.handler) (position_in starts at) ≡ nat_le e.handler at
    active_same e h = ap (λ z. nat_le (position_in z e.handler) (position_in z at)) starts_are ∙ order bytes l e.handler at listed h here

    pub entries_at : (es : List Entry) → Each (λ (e : Entry). Starts l.offsets e.handler) es
        → AreEntriesAt offsets (map (entry_part place at) es) (map flow_entry (entries_of starts (position_in starts at) es))
    entries_at [] h = tt
    entries_at (e ∷ es) h = (
      record {
        handler = ap₂ (λ x y. slice_get x (position_in y e.handler)) offsets_are starts_are ∙ h.0;
        is_finally = refl;
        active = sym (active_same e h.0);
        height = refl;
      },
      entries_at es h.1,
    )

    kept_fine : (e : Entry) → Starts l.offsets e.handler → KeepsException objects e → KeepsNone (entry_of starts (position_in starts at) e) → KeepsFine s (entry_part place at e)
    kept_fine e h k n = record {
      exception = some e.kept k;
      active = λ off. none e.kept (n (active_same e h ∙ off));
    }
      where
        some : (o : Option ExcNo) → IfSome o (λ x. IsA objects AnException x.cell) → IfSome (option_map (kept_part place) o) (IsAt s AnException)
        some None q = tt
        some (Some x) q = known.exception_is x.cell q

        none : (o : Option ExcNo) → option_map (λ (x : ExcNo). x.cell) o ≡ None → option_map (kept_part place) o ≡ None
        none None q = refl
        none (Some x) q = absurd cc

    pub entries_fine : (es : List Entry) → Each (λ (e : Entry). Starts l.offsets e.handler) es → Each (KeepsException objects) es → Each KeepsNone (entries_of starts (position_in starts at) es) → Each (KeepsFine s) (map (entry_part place at) es)
    entries_fine [] h k n = tt
    entries_fine (e ∷ es) h k n = (kept_fine e h.0 k.0 n.0, entries_fine es h.1 k.1 n.1)

-- kept jumps lead on
-- ==================

reach_shape : (a : Assigned) (S : Keeps) (p : ℕ) (st : Stack) (es : List FlowEntry) → Reach a S p st es → IsShapeAt a p st es
reach_shape a S p st es r = record { shape = r.at; is = r.is; entries = r.entries; slots = r.slots }

when_true : (b : Bool) (P : Type 0) → OnTrue b P → b ≡ true → P
when_true true P h e = h
when_true false P h e = absurd (false≢true e)

leads_on : (a : Assigned) (S : Keeps) (t : ℕ) (it : Bool) (d : ℕ) (es : List FlowEntry) (st : Stack) → CanUnwind a S t it d es st → LeadsOn a t it d es st
leads_on a S t it zero es st h = (h.0, reach_shape a S t (drop (length (iterator_if it)) st) es h.1)
leads_on a S t it (suc d) [] st h = h
leads_on a S t it (suc d) (e ∷ es) st h =
    ((λ on. reach_shape a S e.handler (flow.KeptJump t d it ∷ cut e.height st) (e ∷ es) (when_true (is_run e) _ h.0 on)), leads_on a S t it d es (cut e.height st) h.1)

-- so do those among the lowest of the slots
pub lead_on : (a : Assigned) (n : ℕ) (es : List FlowEntry) (st : Stack) (m : ℕ) → Sound a n es st → JumpsLeadOn a es (drop m st)
lead_on a n [] st m h = tt
lead_on a zero (e ∷ es) st m h = absurd h
lead_on a (suc n) (e ∷ es) st m h =
    let low = cut e.height st in
    let k : ℕ = (length (drop m st) - e.height) + m in
    let long = length-drop m st in
    let more : k ≡ (length st - e.height) + (k - (length st - e.height)) = omega (arith, long) in
    let same : cut e.height (drop m st) ≡ drop (k - (length st - e.height)) low =
    drop-drop (length (drop m st) - e.height) m st
    ∙ (ap (λ z. drop z st) (let z : m + (length (drop m st) - e.height) ≡ (length st - e.height) + (k - (length st - e.height)) = omega (arith, more) in z)
    ∙ sym (drop-drop (k - (length st - e.height)) (length st - e.height) st)) in (
      (λ above rest t d it parts_are height. leads_on a (Sound a n) t it d es rest (h.0 (take m st ++ above) (flow.KeptJump t d it) rest (whole above (flow.KeptJump t d it ∷ rest) parts_are) height)),
      subst (JumpsLeadOn a es) (sym same) (lead_on a n es low (k - (length st - e.height)) h.1),
    )
  where
    whole : (above rest : Stack) → drop m st ≡ above ++ rest → st ≡ (take m st ++ above) ++ rest
    whole above rest e = sym (take-append-drop m st) ∙ (ap (λ z. take m st ++ z) e ∙ sym (append_assoc (take m st) above rest))

-- places
pub position_found : (offsets : List ℕ) (target : ℕ) → position_in offsets target < length offsets → slice_get offsets (position_in offsets target) ≡ Some target
position_found [] target lt = absurd (omega (arith, lt))
position_found (x ∷ xs) target lt = by (nat_eq x target) refl lt (position_found xs target)
  where
    by : (b : Bool) → nat_eq x target ≡ b → (if b then 0 else suc (position_in xs target)) < suc (length xs) → (position_in xs target < length xs → slice_get xs (position_in xs target) ≡ Some target)
        → slice_get (x ∷ xs) (if b then 0 else suc (position_in xs target)) ≡ Some target
    by true e l on = ap (λ z. Some z) (eqb-true x target e)
    by false e l on = on (omega (arith, l))
