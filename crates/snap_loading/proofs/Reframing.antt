-- A frame of the machine by the parts that a snapshot has of it.
use Rattle.std.proofs.Common.{◌≡◌, ℕ, zero, suc, ◌+◌, Bool, true, false, not, List, [], ◌∷◌, ◌++◌, length, map, drop, reverse, Option, Some, None, slice_get, refl, sym, ap, ap₂, ◌∙◌, subst, arith, All, if◌then◌else◌}
use Rattle.std.specs.Prelude.{◌==◌, nat_le, IfSome}
use Rattle.std.specs.List.{AllByRecursion as Each}
use Rattle.std.specs.Option.{option_map}
use Rattle.std.proofs.lemmas.Bool.{ne_eqb, eqb-true, eq-eqb}
use Rattle.std.proofs.lemmas.Grind.{reverse_onto}
use Rattle.std.proofs.lemmas.List.{append_assoc, append-nil, reverse-reverse}
use Rattle.mpy_base.specs.Val.{Val, Nil, Built, At}
use Rattle.arena_heap.specs.declared.value.Value.{Value}
use Rattle.arena_heap.specs.declared.value.ExcNo.{ExcNo}
use Rattle.bc_flow.specs.bc_shapes.declared.kinds.Kind.{Kind as SlotKind}
use Rattle.bc_flow.specs.bc_shapes.declared.kinds.Kind.TheVariants as kinds
use Rattle.bc_flow.specs.bc_shapes.Shape.{Below, same, value as wider, cause, Belows, none, also}
use Rattle.bc_flow.specs.Machine.{Stack}
use Rattle.bc_flow.proofs.Sound.{val, none_v, none_c, none_b, ret, jump, p1, p2, p3, p4, null, method, Stands, empty, more}
use Rattle.bc_labels.specs.Positions.{position_in}
use Rattle.bc_library.specs.Shelf.{Shelf}
use Rattle.bc_machine.specs.py_values.Shown.{PlainHeap}
use Rattle.bc_machine.specs.Library.{Name, Library}
use Rattle.bc_machine.specs.State as states
use Rattle.vm_starting.specs.vm_states.bc_progress.Slots.{Facts, ShowsIn, ShowsAllIn}
use Rattle.vm_starting.specs.vm_states.frame_moves.Shown.{Tables, view_of}
use Rattle.vm_starting.specs.vm_states.vm_frames.declared.slot.Slot.{Slot}
use Rattle.vm_starting.specs.vm_states.vm_frames.declared.slot.Slot.TheVariants as stacked
use Rattle.vm_starting.specs.vm_states.vm_frames.declared.slot.Entry.{Entry}
use Rattle.vm_starting.specs.vm_states.vm_frames.declared.slot.Role.{Role}
use Rattle.vm_starting.specs.vm_states.vm_frames.declared.slot.Role.TheVariants as ends
use Rattle.vm_starting.specs.vm_states.vm_frames.Calls.{Call}
use Rattle.vm_starting.specs.vm_states.vm_frames.Views.{View, slot_of, slots_of, locals_of, entry_of, entries_of, frame_of}
use Rattle.vm_starting.specs.vm_states.vm_frames.Views as views
use Rattle.snap_saving.specs.Shown.{goes_on, is_shown, shown_slots, value_part, iterator_part, slot_part, local_part, entry_part, kept_part, role_part, frame_part}
use Rattle.snap_grammar.specs.declared.parts.ValuePart.{ValuePart}
use Rattle.snap_grammar.specs.declared.parts.SlotPart.{SlotPart}
use Rattle.snap_grammar.specs.declared.parts.SlotPart.TheVariants as slots
use Rattle.snap_grammar.specs.declared.parts.EntryPart.{EntryPart}
use Rattle.snap_grammar.specs.declared.parts.RolePart.{RolePart}
use Rattle.snap_grammar.specs.declared.parts.RolePart.TheVariants as roles
use Rattle.snap_grammar.specs.declared.parts.FramePart.{FramePart}
use Rattle.snap_laws.specs.Renamed.{Renaming, value}
use Rattle.snap_laws.specs.Worlds.{locals_as}
use Rattle.snap_laws.specs.States.{slot_as, entry_as, role_as, frame_as}
use Rattle.snap_kept.specs.Values.{IsThere}
use Rattle.snap_kept.specs.Effects.{AreLocals}
use Rattle.snap_kept.specs.Frames.{LiesOn, AreSlots}
use Rattle.snap_loading.proofs.Saming.{Given, given}
use Rattle.snap_loading.proofs.Slotting.{map_reverse}

-- slots that are shown, the topmost first
-- =======================================

-- of slots from the topmost on, those that are shown, below a slot or none
abbrev pub shown_down : Option Slot → List Slot → List Slot
shown_down above [] = []
shown_down above (s ∷ below) = if is_shown s above then s ∷ shown_down (Some s) below else shown_down (Some s) below

one_more : {A : Type 0} (b : Bool) (x : A) (us vs : List A) → reverse us ++ (if b then x ∷ vs else vs) ≡ reverse (if b then x ∷ us else us) ++ vs
one_more true x us vs = sym (ap (λ z. z ++ vs) (reverse_onto us x []) ∙ append_assoc (reverse us) (x ∷ []) vs)
one_more false x us vs = refl

shown_under : (xs ys : List Slot) → shown_slots (reverse xs ++ ys) ≡ reverse (shown_down (slice_get ys 0) xs) ++ shown_slots ys
shown_under [] ys = refl
shown_under (x ∷ xs) ys =
    ap (λ z. shown_slots z) (ap (λ z. z ++ ys) (reverse_onto xs x []) ∙ append_assoc (reverse xs) (x ∷ []) ys)
    ∙ (shown_under xs (x ∷ ys) ∙ one_more (is_shown x (slice_get ys 0)) x (shown_down (Some x) xs) (shown_slots ys))

-- the slots of a frame's part, from the topmost on
pub parts_down : (f : Slot → SlotPart) (xs : List Slot) → reverse (map f (shown_slots (reverse xs))) ≡ map f (shown_down None xs)
parts_down f xs =
    sym (map_reverse f (shown_slots (reverse xs)))
    ∙ ap (map f) (ap reverse (ap (λ z. shown_slots z) (sym (append-nil (reverse xs))) ∙ (shown_under xs [] ∙ append-nil (reverse (shown_down None xs)))) ∙ reverse-reverse (shown_down None xs))

-- marks: where the upper slot of a method's look-up lies
-- ======================================================

abbrev pub is_upper : SlotKind → Bool
is_upper kinds.Method = true
is_upper _ = false

abbrev pub marks : List SlotKind → List Bool
marks ks = map is_upper ks

abbrev pub first : List Bool → Bool
first [] = false
first (b ∷ bs) = b

pub drop_map : {A B : Type 0} (f : A → B) (n : ℕ) (xs : List A) → map f (drop n xs) ≡ drop n (map f xs)
drop_map f zero xs = refl
drop_map f (suc n) [] = refl
drop_map f (suc n) (x ∷ xs) = drop_map f n xs

drop_one : {A : Type 0} (n : ℕ) (xs : List A) → drop n (drop 1 xs) ≡ drop (suc n) xs
drop_one zero [] = refl
drop_one (suc n) [] = refl
drop_one n (x ∷ xs) = refl

upper_below : (k l : SlotKind) → Below k l → is_upper k ≡ is_upper l
upper_below k l same = refl
upper_below k l wider = refl
upper_below k l cause = refl

-- kinds that lie below others have the same marks
pub marks_below : (ks ls : List SlotKind) → Belows ks ls → marks ks ≡ marks ls
marks_below ks ls none = refl
marks_below ks ls (also {k = k} {l = l} {ks = ks2} {ls = ls2} a b) = ap₂ (λ x y. x ∷ y) (upper_below k l a) (marks_below ks2 ls2 b)

-- the upper slots of look-ups lie at these marks, and nowhere else
abbrev pub Marked : List states.Slot → List Bool → Type 0
Marked [] bs = Unit {0}
Marked (states.Value v ∷ sl) bs = (first bs ≡ false) × Marked sl (drop 1 bs)
Marked (states.Null ∷ sl) bs = (first bs ≡ false) × Marked sl (drop 1 bs)
Marked (states.Object o ∷ sl) bs = (first bs ≡ true) × Marked sl (drop 1 bs)
Marked (states.Iter over at part ∷ sl) bs = Marked sl (drop 1 bs)
Marked (states.KeptReturn v ∷ sl) bs = Marked sl (drop 1 bs)
Marked (states.KeptJump target count iterator ∷ sl) bs = Marked sl (drop 1 bs)

pub marked : (facts : Facts) (sl : List states.Slot) (st : Stack) (ks : List SlotKind) → ShowsAllIn facts sl st → Stands st ks → Marked sl (marks ks)
marked facts sl st ks ShowsAllIn.none empty = tt
marked facts sl st ks (ShowsAllIn.more {slots = r} {stack = su} ShowsIn.value s) (more {ks = ls} val q) = (refl, marked facts r su ls s q)
marked facts sl st ks (ShowsAllIn.more {slots = r} {stack = su} ShowsIn.nothing s) (more {ks = ls} none_v q) = (refl, marked facts r su ls s q)
marked facts sl st ks (ShowsAllIn.more {slots = r} {stack = su} ShowsIn.nothing s) (more {ks = ls} none_c q) = (refl, marked facts r su ls s q)
marked facts sl st ks (ShowsAllIn.more {slots = r} {stack = su} ShowsIn.nothing s) (more {ks = ls} none_b q) = (refl, marked facts r su ls s q)
marked facts sl st ks (ShowsAllIn.more {slots = r} {stack = su} (ShowsIn.exception h) s) (more {ks = ls} none_v q) = (refl, marked facts r su ls s q)
marked facts sl st ks (ShowsAllIn.more {slots = r} {stack = su} (ShowsIn.exception h) s) (more {ks = ls} none_c q) = (refl, marked facts r su ls s q)
marked facts sl st ks (ShowsAllIn.more {slots = r} {stack = su} (ShowsIn.exception h) s) (more {ks = ls} none_b q) = (refl, marked facts r su ls s q)
marked facts sl st ks (ShowsAllIn.more {slots = r} {stack = su} ShowsIn.null s) (more {ks = ls} null q) = (refl, marked facts r su ls s q)
marked facts sl st ks (ShowsAllIn.more {slots = r} {stack = su} ShowsIn.kept_return s) (more {ks = ls} ret q) = marked facts r su ls s q
marked facts sl st ks (ShowsAllIn.more {slots = r} {stack = su} ShowsIn.kept_jump s) (more {ks = ls} jump q) = marked facts r su ls s q
marked facts sl st ks (ShowsAllIn.more {slots = r} {stack = su} ShowsIn.iterator1 s) (more {ks = ls} p1 q) = marked facts r su ls s q
marked facts sl st ks (ShowsAllIn.more {slots = r} {stack = su} ShowsIn.iterator2 s) (more {ks = ls} p2 q) = marked facts r su ls s q
marked facts sl st ks (ShowsAllIn.more {slots = r} {stack = su} ShowsIn.iterator3 s) (more {ks = ls} p3 q) = marked facts r su ls s q
marked facts sl st ks (ShowsAllIn.more {slots = r} {stack = su} ShowsIn.iterator4 s) (more {ks = ls} p4 q) = marked facts r su ls s q
marked facts sl st ks (ShowsAllIn.bound {slots = r} {stack = su} h s) (more method (more {ks = ls} val q)) = (refl, (refl, marked facts r su ls s q))
marked facts sl st ks (ShowsAllIn.free {slots = r} {stack = su} s) (more method (more {ks = ls} val q)) = (refl, (refl, marked facts r su ls s q))

-- a frame of parts
-- ================

-- a value or nothing in a slot, which is the upper one of a look-up or not
abbrev pub filled : Bool → Val → states.Slot
filled true v = states.Object (Some v)
filled false v = states.Value v

abbrev pub vacant : Bool → states.Slot
vacant true = states.Object None
vacant false = states.Null

-- the lowest slots of an iterator, as many as that, the topmost first
abbrev pub lowest : ℕ → Val → ℕ → List states.Slot
lowest zero over place = []
lowest (suc part) over place = states.Iter over place part ∷ lowest part over place

pub lowest_long : (n : ℕ) (over : Val) (place : ℕ) → length (lowest n over place) ≡ n
lowest_long zero over place = refl
lowest_long (suc n) over place = ap suc (lowest_long n over place)

-- where values are seen so, and the objects of places have these numbers
module _ (seen : ValuePart → Val) (at : ℕ → ℕ) where
  abbrev pub slots_in : List ℕ → Bool → SlotPart → List states.Slot
  slots_in starts b (slots.Value v) = filled b (seen v) ∷ []
  slots_in starts b slots.Empty = vacant b ∷ []
  slots_in starts b (slots.Iterator over place) = lowest 4 (seen over) place
  slots_in starts b (slots.Left count over place) = lowest count (seen over) place
  slots_in starts b (slots.Return v) = states.KeptReturn (seen v) ∷ []
  slots_in starts b (slots.Jump target entries iterator) = states.KeptJump (position_in starts target) entries iterator ∷ []

  -- the slots of parts from the topmost on, with these marks
  abbrev pub stack_in : List ℕ → List Bool → List SlotPart → List states.Slot
  stack_in starts bs [] = []
  stack_in starts bs (p ∷ ps) = slots_in starts (first bs) p ++ stack_in starts (drop (length (slots_in starts (first bs) p)) bs) ps

  abbrev pub local_in : SlotPart → Option Val
  local_in (slots.Value v) = Some (seen v)
  local_in _ = None

  abbrev pub entry_in : List ℕ → ℕ → EntryPart → states.Entry
  entry_in starts position e = record {
    handler = position_in starts e.handler;
    is_finally = e.is_finally;
    height = e.height;
    active = nat_le (position_in starts e.handler) position;
    kept = option_map at e.kept;
  }

  abbrev pub role_in : Name → RolePart → states.Role
  role_in name roles.Main = states.Main
  role_in name roles.Call = states.Called
  role_in name (roles.Import m) = states.Imported name (at m)

  abbrev pub frame_in : Tables → List Bool → FramePart → states.Frame
  frame_in tables bs f = record {
    module_name = tables.module_name f.module_number;
    code = f.code;
    position = position_in (tables.starts f.module_number f.code) f.at;
    locals = map local_in f.locals;
    slots = stack_in (tables.starts f.module_number f.code) bs (reverse f.slots);
    entries = map (entry_in (tables.starts f.module_number f.code) (position_in (tables.starts f.module_number f.code) f.at)) (reverse f.entries);
    names = at f.names;
    role = role_in (tables.module_name f.module_number) f.role;
  }

-- the frame of a call
-- ===================

-- what slots lead to is there, and iterators lie together
module _ (library : Library) (heap : PlainHeap) where
  abbrev pub Led : List states.Slot → Type 0
  Led [] = Unit {0}
  Led (states.Value v ∷ sl) = Given library heap v × Led sl
  Led (states.Null ∷ sl) = Led sl
  Led (states.Object None ∷ sl) = Led sl
  Led (states.Object (Some o) ∷ sl) = Given library heap o × Led sl
  Led (states.Iter over place part ∷ sl) = (Given library heap over × LiesOn over place part sl) × Led sl
  Led (states.KeptReturn v ∷ sl) = Given library heap v × Led sl
  Led (states.KeptJump target count iterator ∷ sl) = Led sl

  pub led : (sl : List states.Slot) → AreSlots library heap sl → Led sl
  led [] h = tt
  led (states.Value v ∷ sl) h = (given library heap v h.0, led sl h.1)
  led (states.Null ∷ sl) h = led sl h
  led (states.Object None ∷ sl) h = led sl h
  led (states.Object (Some o) ∷ states.Value (Built b) ∷ sl) h = (given library heap o h.0.0, (tt, led sl h.1))
  led (states.Object (Some o) ∷ _) h = absurd h
  led (states.Iter over place part ∷ sl) h = ((given library heap over h.0.0, h.0.2), led sl h.1)
  led (states.KeptReturn v ∷ sl) h = (given library heap v h.0, led sl h.1)
  led (states.KeptJump target count iterator ∷ sl) h = led sl h

module _ (heap : PlainHeap) where
  -- an entry's exception is there
  abbrev pub KeptThere : Entry → Type 0
  KeptThere e = IfSome e.kept (λ (x : ExcNo). IsThere heap x.cell)

  -- the module that is imported is there
  abbrev pub RoleThere : Role → Type 0
  RoleThere ends.Main = Unit {0}
  RoleThere ends.Call = Unit {0}
  RoleThere (ends.Import m) = IsThere heap m.cell

-- so many lower slots of an iterator go on below a slot, or none
abbrev pub Goes : ℕ → Option Slot → Type 0
Goes zero above = (part : ℕ) → goes_on part above ≡ false
Goes (suc n) above = goes_on n above ≡ true

pub goes_at : (over : Value) (place m : ℕ) → Goes m (Some (stacked.Iter over place m))
goes_at over place zero = λ part. ne_eqb 0 (part + 1) (λ e. omega (arith, e))
goes_at over place (suc n) = eq-eqb (suc n) (n + 1) (omega arith)

module _ (library : Library) (heap : PlainHeap) (view : View) (shelf : Shelf) (r : Renaming) (place at : ℕ → ℕ) (seen : ValuePart → Val)
    (value_is : (v : Value) → Given library heap (view.plain v) → seen (value_part shelf place v) ≡ value r (view.plain v))
    (at_is : (n : ℕ) → IsThere heap n → at (place n) ≡ r.to n) (starts : List ℕ) where
  abbrev Parts : Option Slot → List Slot → List SlotPart
  Parts above xs = map (slot_part shelf place) (shown_down above xs)

  abbrev Stack_in : List Bool → List SlotPart → List states.Slot
  Stack_in bs ps = stack_in seen at starts bs ps

  iterator_is : (b : Bool) (over : Value) (p m : ℕ) → slots_in seen at starts b (iterator_part shelf place over p m) ≡ lowest (suc m) (seen (value_part shelf place over)) p
  iterator_is b over p m = by (m == 3) refl
    where
      by : (c : Bool) → (m == 3) ≡ c
          → slots_in seen at starts b (if c then slots.Iterator (value_part shelf place over) p else slots.Left (m + 1) (value_part shelf place over) p) ≡ lowest (suc m) (seen (value_part shelf place over)) p
      by true e = ap (λ z. lowest (suc z) (seen (value_part shelf place over)) p) (sym (eqb-true m 3 e))
      by false e = ap (λ z. lowest z (seen (value_part shelf place over)) p) (let q : m + 1 ≡ suc m = omega arith in q)

  -- a shown iterator and what lies below it
  iterator_on : (over : Value) (p m : ℕ) (bs : List Bool) (ps : List SlotPart)
      → Stack_in bs (iterator_part shelf place over p m ∷ ps) ≡ lowest (suc m) (seen (value_part shelf place over)) p ++ Stack_in (drop (suc m) bs) ps
  iterator_on over p m bs ps =
      let V = seen (value_part shelf place over) in
      ap (λ z. z ++ Stack_in (drop (length z) bs) ps) (iterator_is (first bs) over p m)
      ∙ ap (λ n. lowest (suc m) V p ++ Stack_in (drop n bs) ps) (lowest_long (suc m) V p)

  -- the topmost of an iterator's slots and the others
  topmost : (over : Value) (p m : ℕ) (bs : List Bool) (rest : List states.Slot) (ps : List SlotPart)
      → rest ≡ lowest m (value r (view.plain over)) p ++ Stack_in (drop m (drop 1 bs)) ps
      → states.Iter (value r (view.plain over)) p m ∷ rest ≡ lowest (suc m) (value r (view.plain over)) p ++ Stack_in (drop (suc m) bs) ps
  topmost over p m bs rest ps ih =
      let W = value r (view.plain over) in
      ap (λ z. states.Iter W p m ∷ z) (ih ∙ ap (λ z. lowest m W p ++ Stack_in z ps) (drop_one m bs))

  slots_by : (xs : List Slot) (above : Option Slot) (part : ℕ) (v : Val) (p : ℕ) (bs : List Bool) → Goes part above → LiesOn v p part (slots_of view starts xs)
      → Led library heap (slots_of view starts xs) → Marked (slots_of view starts xs) bs
      → map (slot_as r) (slots_of view starts xs) ≡ lowest part (value r v) p ++ Stack_in (drop part bs) (Parts above xs)
  slots_by [] above zero v p bs goes lies l m = refl
  slots_by [] above (suc n) v p bs goes lies l m = absurd lies
  slots_by (stacked.Value w ∷ xs) above zero v p bs goes lies l m =
      ap₂ (λ a b. a ∷ b) (sym (ap (λ z. filled z (seen (value_part shelf place w))) m.0 ∙ ap (λ z. states.Value z) (value_is w l.0)))
      (slots_by xs (Some (stacked.Value w)) zero Nil 0 (drop 1 bs) (λ k. refl) tt l.1 m.1)
  slots_by (stacked.Value w ∷ xs) above (suc n) v p bs goes lies l m = absurd lies
  slots_by (stacked.Null ∷ xs) above zero v p bs goes lies l m =
      ap₂ (λ a b. a ∷ b) (sym (ap vacant m.0)) (slots_by xs (Some stacked.Null) zero Nil 0 (drop 1 bs) (λ k. refl) tt l m.1)
  slots_by (stacked.Null ∷ xs) above (suc n) v p bs goes lies l m = absurd lies
  slots_by (stacked.Object None ∷ xs) above zero v p bs goes lies l m =
      ap₂ (λ a b. a ∷ b) (sym (ap vacant m.0)) (slots_by xs (Some (stacked.Object None)) zero Nil 0 (drop 1 bs) (λ k. refl) tt l m.1)
  slots_by (stacked.Object (Some w) ∷ xs) above zero v p bs goes lies l m =
      ap₂ (λ a b. a ∷ b) (sym (ap (λ z. filled z (seen (value_part shelf place w))) m.0 ∙ ap (λ z. states.Object (Some z)) (value_is w l.0)))
      (slots_by xs (Some (stacked.Object (Some w))) zero Nil 0 (drop 1 bs) (λ k. refl) tt l.1 m.1)
  slots_by (stacked.Object o ∷ xs) above (suc n) v p bs goes lies l m = absurd lies
  slots_by (stacked.Return w ∷ xs) above zero v p bs goes lies l m =
      ap₂ (λ a b. a ∷ b) (sym (ap (λ z. states.KeptReturn z) (value_is w l.0))) (slots_by xs (Some (stacked.Return w)) zero Nil 0 (drop 1 bs) (λ k. refl) tt l.1 m)
  slots_by (stacked.Return w ∷ xs) above (suc n) v p bs goes lies l m = absurd lies
  slots_by (stacked.Jump target count it ∷ xs) above zero v p bs goes lies l m =
      ap₂ (λ a b. a ∷ b) refl (slots_by xs (Some (stacked.Jump target count it)) zero Nil 0 (drop 1 bs) (λ k. refl) tt l m)
  slots_by (stacked.Jump target count it ∷ xs) above (suc n) v p bs goes lies l m = absurd lies
  slots_by (stacked.Iter over q k ∷ xs) above zero v p bs goes lies l m =
      let own : Slot = stacked.Iter over q k in
      let W = value r (view.plain over) in
      let ih = slots_by xs (Some own) k (view.plain over) q (drop 1 bs) (goes_at over q k) l.0.1 l.1 m in
      topmost over q k bs (map (slot_as r) (slots_of view starts xs)) (Parts (Some own) xs) ih
      ∙ (ap (λ z. lowest (suc k) z q ++ Stack_in (drop (suc k) bs) (Parts (Some own) xs)) (sym (value_is over l.0.0))
      ∙ (sym (iterator_on over q k bs (Parts (Some own) xs))
      ∙ sym (ap (λ g. Stack_in bs (map (slot_part shelf place) (if not g then own ∷ shown_down (Some own) xs else shown_down (Some own) xs))) (goes k))))
  slots_by (stacked.Iter over q k ∷ xs) above (suc n) v p bs goes lies l m =
      let own : Slot = stacked.Iter over q k in
      let ih = slots_by xs (Some own) k (view.plain over) q (drop 1 bs) (goes_at over q k) l.0.1 l.1 m in
      let hidden : goes_on k above ≡ true = ap (λ z. goes_on z above) lies.2 ∙ goes in
      topmost over q k bs (map (slot_as r) (slots_of view starts xs)) (Parts (Some own) xs) ih
      ∙ (ap (λ z. lowest (suc k) (value r z) q ++ Stack_in (drop (suc k) bs) (Parts (Some own) xs)) lies.0
      ∙ (ap (λ z. lowest (suc k) (value r v) z ++ Stack_in (drop (suc k) bs) (Parts (Some own) xs)) lies.1
      ∙ (ap (λ z. lowest (suc z) (value r v) p ++ Stack_in (drop (suc z) bs) (Parts (Some own) xs)) lies.2
      ∙ sym (ap (λ g. lowest (suc n) (value r v) p ++ Stack_in (drop (suc n) bs) (map (slot_part shelf place) (if not g then own ∷ shown_down (Some own) xs else shown_down (Some own) xs))) hidden))))

  locals_by : (ls : List (Option Value)) → AreLocals library heap (locals_of view ls) → map (local_in seen at) (map (local_part shelf place) ls) ≡ locals_as r (locals_of view ls)
  locals_by [] h = refl
  locals_by (None ∷ ls) h = ap (λ z. None ∷ z) (locals_by ls h.1)
  locals_by (Some v ∷ ls) h = ap₂ (λ a b. Some a ∷ b) (value_is v (given library heap (view.plain v) h.0)) (locals_by ls h.1)

  entries_by : (position offset : ℕ) (es : List Entry) → Each (KeptThere heap) es
      → map (entry_in seen at starts position) (map (entry_part place offset) es) ≡ map (entry_as r) (entries_of starts position es)
  entries_by position offset [] h = refl
  entries_by position offset (e ∷ es) h = ap₂ (λ a b. a ∷ b) (ap make (by e.kept h.0)) (entries_by position offset es h.1)
    where
      make : Option ℕ → states.Entry
      make kept = record {
        handler = position_in starts e.handler;
        is_finally = e.is_finally;
        height = e.height;
        active = nat_le (position_in starts e.handler) position;
        kept = kept;
      }

      by : (o : Option ExcNo) → IfSome o (λ (x : ExcNo). IsThere heap x.cell) → option_map at (option_map (kept_part place) o) ≡ option_map r.to (option_map (λ (x : ExcNo). x.cell) o)
      by None k = refl
      by (Some x) k = ap (λ z. Some z) (at_is x.cell k)

  role_by : (name : Name) (role : Role) → RoleThere heap role → role_in seen at name (role_part place role) ≡ role_as r (views.role_of view name role)
  role_by name ends.Main h = refl
  role_by name ends.Call h = refl
  role_by name (ends.Import m) h = ap (λ z. states.Imported name z) (at_is m.cell h)

-- what the call leads to is there, and its slots lie as marked
pub record Leads (library : Library) (heap : PlainHeap) (tables : Tables) (bs : List Bool) (c : Call) : Type 0 where
  pub names : IsThere heap c.names.cell
  pub role : RoleThere heap c.role
  pub locals : AreLocals library heap (locals_of (view_of tables) c.locals)
  pub slots : Led library heap (slots_of (view_of tables) (tables.starts c.module_number c.code) c.slots)
  pub marks : Marked (slots_of (view_of tables) (tables.starts c.module_number c.code) c.slots) bs
  pub entries : Each (KeptThere heap) c.entries

-- the frame of the parts of a call is that of the call, with the other numbers
pub frame_by : (library : Library) (heap : PlainHeap) (tables : Tables) (shelf : Shelf) (r : Renaming) (place at : ℕ → ℕ) (seen : ValuePart → Val)
    → ((v : Value) → Given library heap ((view_of tables).plain v) → seen (value_part shelf place v) ≡ value r ((view_of tables).plain v))
    → ((n : ℕ) → IsThere heap n → at (place n) ≡ r.to n) → (bs : List Bool) (c : Call) → Leads library heap tables bs c
    → frame_in seen at tables bs (frame_part shelf place c) ≡ frame_as r (frame_of (view_of tables) c)
frame_by library heap tables shelf r place at seen value_is at_is bs c l =
    let view = view_of tables in
    let starts = tables.starts c.module_number c.code in
    let position = position_in starts c.at in
    let make : List (Option Val) → List states.Slot → List states.Entry → ℕ → states.Role → states.Frame = λ locals slots entries names role.
    record { module_name = tables.module_name c.module_number; code = c.code; position = position; locals = locals; slots = slots; entries = entries; names = names; role = role } in
    let f = frame_in seen at tables bs (frame_part shelf place c) in
    let g = frame_as r (frame_of view c) in
    let locals : f.locals ≡ g.locals = locals_by library heap view shelf r place at seen value_is at_is starts c.locals l.locals in
    let slots : f.slots ≡ g.slots =
    ap (λ z. stack_in seen at starts bs z) (parts_down (slot_part shelf place) c.slots)
    ∙ sym (slots_by library heap view shelf r place at seen value_is at_is starts c.slots None zero Nil 0 bs (λ k. refl) tt l.slots l.marks) in
    let entries : f.entries ≡ g.entries =
    ap (λ z. map (entry_in seen at starts position) z) (sym (map_reverse (entry_part place c.at) (reverse c.entries)) ∙ ap (λ z. map (entry_part place c.at) z) (reverse-reverse c.entries))
    ∙ entries_by library heap view shelf r place at seen value_is at_is starts position c.at c.entries l.entries in
    let names : f.names ≡ g.names = at_is c.names.cell l.names in
    let role : f.role ≡ g.role = role_by library heap view shelf r place at seen value_is at_is starts (tables.module_name c.module_number) c.role l.role in
    ap (λ z. make z f.slots f.entries f.names f.role) locals
    ∙ (ap (λ z. make g.locals z f.entries f.names f.role) slots
    ∙ (ap (λ z. make g.locals g.slots z f.names f.role) entries
    ∙ ap₂ (λ a b. make g.locals g.slots g.entries a b) names role))
