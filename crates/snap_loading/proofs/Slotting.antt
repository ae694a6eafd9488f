-- The slots, locals and entries of a frame of a snapshot come back.
use Rattle.std.proofs.Common.{◌≡◌, ℕ, ◌+◌, ◌<◌, Bool, true, false, not, List, [], ◌∷◌, ◌++◌, length, map, reverse, Option, Some, None, slice_get, refl, sym, ap, ap₂, ◌∙◌, arith, All, if◌then◌else◌}
use Rattle.std.specs.Prelude.{◌==◌, nat_le, IfSome}
use Rattle.std.specs.Option.{option_map}
use Rattle.std.proofs.lemmas.Bool.{ne_eqb}
use Rattle.std.proofs.lemmas.Grind.{reverse_onto}
use Rattle.std.proofs.lemmas.List.{map-append, reverse-append}
use Rattle.std.proofs.lemmas.List.Elements.{All-head, All-tail}
use Rattle.mpy_base.specs.World.{AnException, AModule}
use Rattle.arena_heap.specs.declared.value.ExcNo.{ExcNo}
use Rattle.bc_flow.specs.bc_shapes.declared.kinds.Kind.{Kind as SlotKind}
use Rattle.bc_flow.specs.bc_shapes.declared.shape.Entry.{Entry as FlowEntry}
use Rattle.bc_flow.specs.Machine.{Stack, remark}
use Rattle.bc_flow.proofs.Sound.{val, none_v, none_c, none_b, ret, jump, p1, p2, p3, p4, null, method, Stands, empty, more}
use Rattle.bc_labels.specs.Positions.{CodeList, Listed, Starts, position_in}
use Rattle.bc_labels.proofs.Order.{order}
use Rattle.bc_labels.proofs.Pieces as pieces
use Rattle.bc_library.specs.Shelf.{Shelf}
use Rattle.vm_starting.specs.vm_states.vm_frames.declared.slot.Slot.{Slot}
use Rattle.vm_starting.specs.vm_states.vm_frames.declared.slot.Slot.TheVariants as stacked
use Rattle.snap_saving.specs.Shown.{goes_on, is_shown, value_part, shown_slots, slot_part, local_part, entry_part, kept_part, role_part}
use Rattle.snap_grammar.specs.declared.parts.ValuePart.{ValuePart}
use Rattle.snap_grammar.specs.declared.parts.ValuePart.TheVariants as parts
use Rattle.snap_grammar.specs.declared.parts.SlotPart.{SlotPart}
use Rattle.snap_grammar.specs.declared.parts.SlotPart.TheVariants as slots
use Rattle.snap_grammar.specs.declared.parts.EntryPart.{EntryPart}
use Rattle.snap_grammar.specs.declared.parts.RolePart.{RolePart}
use Rattle.snap_grammar.specs.declared.parts.RolePart.TheVariants as roles
use Rattle.snap_grammar.specs.declared.parts.Snapshot.{Snapshot}
use Rattle.snap_states.specs.Parts.{cell_of}
use Rattle.snap_states.specs.States.{IsAt, IsEntryAt, AreEntriesAt, KeepsFine, ShowsParts, IsFineLocal, IsFineRole}
use Rattle.snap_states.specs.Decoded.{value_of, stack_of, local_of, handler_of, role_of}
use Rattle.snap_loading.specs.Given.{IsLibrary}
use Rattle.snap_loading.proofs.Valuing.{at_within, built_back, object_value_back, value_back}

some_is : {A : Type 0} (x y : A) → Some x ≡ Some y → x ≡ y
some_is x y e = cc

pub reverse_first : {A : Type 0} (x : A) (xs : List A) → reverse (x ∷ xs) ≡ reverse xs ++ x ∷ []
reverse_first x xs = reverse_onto xs x []

pub map_reverse : {A B : Type 0} (f : A → B) (xs : List A) → map f (reverse xs) ≡ reverse (map f xs)
map_reverse f [] = refl
map_reverse f (x ∷ xs) =
    ap (map f) (reverse_first x xs) ∙ (map-append f (reverse xs) (x ∷ []) ∙ (ap (λ zs. zs ++ f x ∷ []) (map_reverse f xs) ∙ sym (reverse_first (f x) (map f xs))))

-- slots that are shown
-- ====================

if_append : {A : Type 0} (b : Bool) (x : A) (us vs : List A) → (if b then x ∷ (us ++ vs) else us ++ vs) ≡ (if b then x ∷ us else us) ++ vs
if_append true x us vs = refl
if_append false x us vs = refl

-- no iterator goes on in what lies above
abbrev BeginsAnew : List Slot → Type 0
BeginsAnew ys = (part : ℕ) → goes_on part (slice_get ys 0) ≡ false

seam : (x : Slot) (ys : List Slot) → BeginsAnew ys → is_shown x (slice_get ys 0) ≡ is_shown x None
seam (stacked.Iter over at part) ys h = ap not (h part)
seam (stacked.Value v) ys h = refl
seam stacked.Null ys h = refl
seam (stacked.Object o) ys h = refl
seam (stacked.Return v) ys h = refl
seam (stacked.Jump target entries iterator) ys h = refl

shown_append : (xs ys : List Slot) → BeginsAnew ys → shown_slots (xs ++ ys) ≡ shown_slots xs ++ shown_slots ys
shown_append [] ys h = refl
shown_append (x ∷ []) ys h = ap (λ b. if b then x ∷ shown_slots ys else shown_slots ys) (seam x ys h) ∙ if_append (is_shown x None) x [] (shown_slots ys)
shown_append (x ∷ y ∷ xs) ys h =
    ap (λ zs. if is_shown x (Some y) then x ∷ zs else zs) (shown_append (y ∷ xs) ys h) ∙ if_append (is_shown x (Some y)) x (shown_slots (y ∷ xs)) (shown_slots ys)

first_part : (part : ℕ) → (0 == part + 1) ≡ false
first_part part = ne_eqb 0 (part + 1) (λ e. omega (arith, e))

module _ (shelf : Shelf) (s : Snapshot) (is : IsLibrary shelf) (place : ℕ → ℕ) (in_place : (n : ℕ) → n < length s.objects → place (cell_of s.objects n) ≡ n) where
  abbrev Back : List Slot → List SlotPart → Type 0
  Back st ps = map (slot_part shelf place) (shown_slots (reverse st)) ≡ reverse ps

  -- the slots of one part on those of others
  back_step : (g rest : List Slot) (q : SlotPart) (qs : List SlotPart) → BeginsAnew (reverse g) → map (slot_part shelf place) (shown_slots (reverse g)) ≡ q ∷ [] → Back rest qs → Back (g ++ rest) (q ∷ qs)
  back_step g rest q qs anew own ih =
      ap (λ zs. map (slot_part shelf place) (shown_slots zs)) (reverse-append g rest)
      ∙ (ap (map (slot_part shelf place)) (shown_append (reverse rest) (reverse g) anew)
      ∙ (map-append (slot_part shelf place) (shown_slots (reverse rest)) (shown_slots (reverse g))
      ∙ (ap₂ (λ a b. a ++ b) ih own ∙ sym (reverse_first q qs))))

  value_in : (v w : ValuePart) → w ≡ v → slots.Value w ∷ [] ≡ slots.Value v ∷ []
  value_in v w e = ap (λ z. slots.Value z ∷ []) e

  exception_back : (n : ℕ) → IsAt s AnException n → value_part shelf place (value_of shelf s (parts.Object n)) ≡ parts.Object n
  exception_back n e = object_value_back shelf s is place in_place n (at_within s AnException n e)

  pub slots_back : (offsets : List ℕ) (ps : List SlotPart) (st : Stack) (ks : List SlotKind) → ShowsParts shelf s offsets ps st → Stands st ks → Back (stack_of shelf s ks ps) ps
  slots_back offsets ps st ks ShowsParts.none empty = refl
  slots_back offsets ps st ks (ShowsParts.value {v = v} {ps = qs} {st = su} plain r) (more {ks = ls} val q) =
      back_step (stacked.Value (value_of shelf s v) ∷ []) (stack_of shelf s ls qs) (slots.Value v) qs (λ part. refl) (value_in v _ (value_back shelf s is place in_place v plain)) (slots_back offsets qs su ls r q)
  slots_back offsets ps st ks (ShowsParts.nothing {ps = qs} {st = su} r) (more {ks = ls} none_v q) = back_step (stacked.Value (value_of shelf s parts.None) ∷ []) (stack_of shelf s ls qs) (slots.Value parts.None) qs (λ part. refl) refl (slots_back offsets qs su ls r q)
  slots_back offsets ps st ks (ShowsParts.nothing {ps = qs} {st = su} r) (more {ks = ls} none_c q) = back_step (stacked.Value (value_of shelf s parts.None) ∷ []) (stack_of shelf s ls qs) (slots.Value parts.None) qs (λ part. refl) refl (slots_back offsets qs su ls r q)
  slots_back offsets ps st ks (ShowsParts.nothing {ps = qs} {st = su} r) (more {ks = ls} none_b q) = back_step (stacked.Value (value_of shelf s parts.None) ∷ []) (stack_of shelf s ls qs) (slots.Value parts.None) qs (λ part. refl) refl (slots_back offsets qs su ls r q)
  slots_back offsets ps st ks (ShowsParts.exception {n = n} {ps = qs} {st = su} e r) (more {ks = ls} none_v q) =
      back_step (stacked.Value (value_of shelf s (parts.Object n)) ∷ []) (stack_of shelf s ls qs) (slots.Value (parts.Object n)) qs (λ part. refl) (value_in (parts.Object n) _ (exception_back n e)) (slots_back offsets qs su ls r q)
  slots_back offsets ps st ks (ShowsParts.exception {n = n} {ps = qs} {st = su} e r) (more {ks = ls} none_c q) =
      back_step (stacked.Value (value_of shelf s (parts.Object n)) ∷ []) (stack_of shelf s ls qs) (slots.Value (parts.Object n)) qs (λ part. refl) (value_in (parts.Object n) _ (exception_back n e)) (slots_back offsets qs su ls r q)
  slots_back offsets ps st ks (ShowsParts.exception {n = n} {ps = qs} {st = su} e r) (more {ks = ls} none_b q) =
      back_step (stacked.Value (value_of shelf s (parts.Object n)) ∷ []) (stack_of shelf s ls qs) (slots.Value (parts.Object n)) qs (λ part. refl) (value_in (parts.Object n) _ (exception_back n e)) (slots_back offsets qs su ls r q)
  slots_back offsets ps st ks (ShowsParts.null {ps = qs} {st = su} r) (more {ks = ls} null q) = back_step (stacked.Null ∷ []) (stack_of shelf s ls qs) slots.Empty qs (λ part. refl) refl (slots_back offsets qs su ls r q)
  slots_back offsets ps st ks (ShowsParts.bound {v = v} {name = name} {ps = qs} {st = su} b r) (more method (more {ks = ls} val q)) =
      back_step (stacked.Object (Some (value_of shelf s v)) ∷ []) (stacked.Value (value_of shelf s (parts.Named name)) ∷ stack_of shelf s ls qs) (slots.Value v) (slots.Value (parts.Named name) ∷ qs) (λ part. refl) (value_in v _ (value_back shelf s is place in_place v b.plain))
      (back_step (stacked.Value (value_of shelf s (parts.Named name)) ∷ []) (stack_of shelf s ls qs) (slots.Value (parts.Named name)) qs (λ part. refl) (value_in (parts.Named name) _ (ap (λ z. parts.Named z) (built_back name b.method b.named))) (slots_back offsets qs su ls r q))
  slots_back offsets ps st ks (ShowsParts.free {v = v} {ps = qs} {st = su} plain r) (more method (more {ks = ls} val q)) =
      back_step (stacked.Object None ∷ []) (stacked.Value (value_of shelf s v) ∷ stack_of shelf s ls qs) slots.Empty (slots.Value v ∷ qs) (λ part. refl) refl
      (back_step (stacked.Value (value_of shelf s v) ∷ []) (stack_of shelf s ls qs) (slots.Value v) qs (λ part. refl) (value_in v _ (value_back shelf s is place in_place v plain)) (slots_back offsets qs su ls r q))
  slots_back offsets ps st ks (ShowsParts.kept_return {v = v} {ps = qs} {st = su} plain r) (more {ks = ls} ret q) =
      back_step (stacked.Return (value_of shelf s v) ∷ []) (stack_of shelf s ls qs) (slots.Return v) qs (λ part. refl) (ap (λ z. slots.Return z ∷ []) (value_back shelf s is place in_place v plain)) (slots_back offsets qs su ls r q)
  slots_back offsets ps st ks (ShowsParts.kept_jump {target = target} {d = d} {it = it} {ps = qs} {st = su} e r) (more {ks = ls} jump q) =
      back_step (stacked.Jump target d it ∷ []) (stack_of shelf s ls qs) (slots.Jump target d it) qs (λ part. refl) refl (slots_back offsets qs su ls r q)
  slots_back offsets ps st ks (ShowsParts.whole {over = v} {at = at} {ps = qs} {st = su} over r) (more p4 (more p3 (more p2 (more {ks = ls} p1 q)))) =
      let w = value_of shelf s v in
      back_step (stacked.Iter w at 3 ∷ stacked.Iter w at 2 ∷ stacked.Iter w at 1 ∷ stacked.Iter w at 0 ∷ []) (stack_of shelf s ls qs) (slots.Iterator v at) qs first_part (ap (λ z. slots.Iterator z at ∷ []) (value_back shelf s is place in_place v over.0)) (slots_back offsets qs su ls r q)
  slots_back offsets ps st ks (ShowsParts.three {over = v} {at = at} {ps = qs} {st = su} over r) (more p3 (more p2 (more {ks = ls} p1 q))) =
      let w = value_of shelf s v in
      back_step (stacked.Iter w at 2 ∷ stacked.Iter w at 1 ∷ stacked.Iter w at 0 ∷ []) (stack_of shelf s ls qs) (slots.Left 3 v at) qs first_part (ap (λ z. slots.Left 3 z at ∷ []) (value_back shelf s is place in_place v over.0)) (slots_back offsets qs su ls r q)
  slots_back offsets ps st ks (ShowsParts.two {over = v} {at = at} {ps = qs} {st = su} over r) (more p2 (more {ks = ls} p1 q)) =
      let w = value_of shelf s v in
      back_step (stacked.Iter w at 1 ∷ stacked.Iter w at 0 ∷ []) (stack_of shelf s ls qs) (slots.Left 2 v at) qs first_part (ap (λ z. slots.Left 2 z at ∷ []) (value_back shelf s is place in_place v over.0)) (slots_back offsets qs su ls r q)
  slots_back offsets ps st ks (ShowsParts.one {over = v} {at = at} {ps = qs} {st = su} over r) (more {ks = ls} p1 q) =
      let w = value_of shelf s v in
      back_step (stacked.Iter w at 0 ∷ []) (stack_of shelf s ls qs) (slots.Left 1 v at) qs first_part (ap (λ z. slots.Left 1 z at ∷ []) (value_back shelf s is place in_place v over.0)) (slots_back offsets qs su ls r q)

  -- locals
  -- ======

  local_back : (l : SlotPart) → IsFineLocal shelf s l → local_part shelf place (local_of shelf s l) ≡ l
  local_back (slots.Value v) h = ap (λ z. slots.Value z) (value_back shelf s is place in_place v h)
  local_back slots.Empty h = refl
  local_back (slots.Iterator over at) h = absurd h
  local_back (slots.Left count over at) h = absurd h
  local_back (slots.Return v) h = absurd h
  local_back (slots.Jump target entries iterator) h = absurd h

  pub locals_back : (ls : List SlotPart) → All (IsFineLocal shelf s) ls → map (local_part shelf place) (map (local_of shelf s) ls) ≡ ls
  locals_back [] h = refl
  locals_back (l ∷ ls) h = ap₂ (λ a zs. a ∷ zs) (local_back l (All-head (IsFineLocal shelf s) l ls h)) (locals_back ls (All-tail (IsFineLocal shelf s) l ls h))

  pub role_back : (r : RolePart) → IsFineRole s r → role_part place (role_of shelf s r) ≡ r
  role_back roles.Main h = refl
  role_back roles.Call h = refl
  role_back (roles.Import n) h = ap (λ z. roles.Import z) (in_place n (at_within s AModule n h))

  -- entries
  -- =======

  kept_back : (e : EntryPart) → KeepsFine s e → option_map (kept_part place) (option_map (λ number. let x : ExcNo = record { cell = cell_of s.objects number } in x) e.kept) ≡ e.kept
  kept_back e k = by e.kept k.exception
    where
      by : (o : Option ℕ) → IfSome o (IsAt s AnException) → option_map (kept_part place) (option_map (λ number. let x : ExcNo = record { cell = cell_of s.objects number } in x) o) ≡ o
      by None h = refl
      by (Some n) h = ap (λ z. Some z) (in_place n (at_within s AnException n h))

  module _ (bytes : List ℕ) (l : CodeList) (listed : Listed bytes l) (position at : ℕ) (here : slice_get l.offsets position ≡ Some at) where
    starts_at : (t offset : ℕ) → slice_get l.offsets t ≡ Some offset → Starts l.offsets offset
    starts_at t offset e = ap (λ z. slice_get l.offsets z) (pieces.one bytes l t offset listed e) ∙ e

    entry_back : (e : EntryPart) (x : FlowEntry) → IsEntryAt l.offsets e x → remark position x ≡ x → KeepsFine s e → entry_part place at (handler_of shelf s e) ≡ e
    entry_back e x h marked k =
        let make : Bool → Option ℕ → EntryPart = λ active kept. record { handler = e.handler; is_finally = e.is_finally; active = active; height = e.height; kept = kept } in
        let same : nat_le (position_in l.offsets e.handler) (position_in l.offsets at) ≡ nat_le e.handler at = order bytes l e.handler at listed (starts_at x.handler e.handler h.handler) (starts_at position at here) in
        let places : nat_le (position_in l.offsets e.handler) (position_in l.offsets at) ≡ nat_le x.handler position =
        ap₂ (λ a b. nat_le a b) (pieces.one bytes l x.handler e.handler listed h.handler) (pieces.one bytes l position at listed here) in
        let active : nat_le e.handler at ≡ e.active = sym same ∙ (places ∙ (ap (λ (z : FlowEntry). z.active) marked ∙ sym h.active)) in
        ap (λ z. make z (option_map (kept_part place) (option_map (λ number. let y : ExcNo = record { cell = cell_of s.objects number } in y) e.kept))) active ∙ ap (λ z. make e.active z) (kept_back e k)

    pub entries_back : (es : List EntryPart) (xs : List FlowEntry) → AreEntriesAt l.offsets es xs → map (remark position) xs ≡ xs → All (KeepsFine s) es → map (entry_part place at) (map (handler_of shelf s) es) ≡ es
    entries_back [] xs h m k = refl
    entries_back (e ∷ es) [] h m k = absurd h
    entries_back (e ∷ es) (x ∷ xs) h m k =
        let head : remark position x ≡ x = cc in
        let tail : map (remark position) xs ≡ xs = cc in
        ap₂ (λ a zs. a ∷ zs) (entry_back e x h.0 head (All-head (KeepsFine s) e es k)) (entries_back es xs h.1 tail (All-tail (KeepsFine s) e es k))
