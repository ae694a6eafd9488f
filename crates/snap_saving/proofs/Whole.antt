-- The bytes of a state from those of its parts.
use Rattle.std.proofs.Common.{◌≡◌, ℕ, List, ◌++◌, map, reverse, sym, ap, subst, ◌∙◌, append_assoc}
use Rattle.std.specs.List.{flat_map}
use Rattle.std.specs.Int.{w64, to_le_bytes}
use Rattle.std.proofs.lemmas.List.{length-reverse}
use Rattle.mpy_base.specs.World.{Heap}
use Rattle.mpy_base.specs.Weights.{used}
use Rattle.arena_heap.specs.declared.value.Value.{Value}
use Rattle.bc_library.specs.Shelf.{Shelf}
use Rattle.vm_frames.specs.Calls.{Call}
use Rattle.prim_modules.specs.Registry.{Registry}
use Rattle.snap_grammar.specs.Spelling.{header}
use Rattle.snap_saving.specs.Put as put
use Rattle.snap_saving.specs.Put.{number}
use Rattle.snap_saving.specs.Shown.{entry_part, frame_part, local_part, registered_part, role_part, shown_slots, slot_part, snapshot_by, snapshot_of}
use Rattle.snap_saving.specs.Saved.{IsLong}
use Rattle.snap_saving.specs.Steps.{ArePlaces, call_bytes, calls_bytes, entries_bytes, found, head_bytes, heap_bytes, locals_bytes, registry_bytes, running_bytes, slots_bytes}
use Rattle.snap_saving.proofs.Adding.{all_of_map, joined3, long_by, long_front}
use Rattle.snap_saving.proofs.OfObjects.{objects_bytes}
use Rattle.snap_saving.proofs.Places.{found_is}

frame_joined : (a b c d r l s e : List ℕ) → a ++ (b ++ (c ++ (d ++ (r ++ (l ++ (s ++ e)))))) ≡ (a ++ (b ++ (c ++ (d ++ r)))) ++ (l ++ (s ++ e))
frame_joined a b c d r l s e = simp append_assoc

state_joined : (h a b c d p o m f : List ℕ) → h ++ (a ++ (b ++ (c ++ (d ++ (p ++ (o ++ (m ++ f))))))) ≡ (h ++ (a ++ (b ++ (c ++ (d ++ p))))) ++ (o ++ (m ++ f))
state_joined h a b c d p o m f = simp append_assoc

module _ (shelf : Shelf) (place : ℕ → ℕ) where
  -- a frame from its parts
  pub call_is : (c : Call) → call_bytes shelf place c
      ≡ running_bytes place c ++ (locals_bytes shelf place c.locals ++ (slots_bytes shelf place (reverse c.slots) ++ entries_bytes place c.at (reverse c.entries)))
  call_is c =
      let F = λ (l s e : List ℕ). number c.module_number ++ (number c.code ++ (number c.at ++ (number (place c.names.cell) ++ (put.role (role_part place c.role) ++ (l ++ (s ++ e)))))) in
      let S = put.all_of put.slot (map (slot_part shelf place) (shown_slots (reverse c.slots))) in
      let E = put.all_of put.entry (map (entry_part place c.at) (reverse c.entries)) in
      ap (λ (l : List ℕ). F l S E) (all_of_map (local_part shelf place) put.slot c.locals)
      ∙ (ap (λ (s : List ℕ). F (locals_bytes shelf place c.locals) s E) (all_of_map (slot_part shelf place) put.slot (shown_slots (reverse c.slots)))
      ∙ (ap (λ (e : List ℕ). F (locals_bytes shelf place c.locals) (slots_bytes shelf place (reverse c.slots)) e) (all_of_map (entry_part place c.at) put.entry (reverse c.entries))
      ∙ frame_joined (number c.module_number) (number c.code) (number c.at) (number (place c.names.cell)) (put.role (role_part place c.role)) (locals_bytes shelf place c.locals) (slots_bytes shelf place (reverse c.slots)) (entries_bytes place c.at (reverse c.entries))))

  -- a state from its parts
  pub state_is : (heap : Heap Value ℕ) (modules : Registry) (calls : List Call) (paid : ℕ) → put.whole (snapshot_by shelf place heap modules calls paid)
      ≡ head_bytes heap paid ++ (heap_bytes shelf place heap ++ (registry_bytes place modules ++ calls_bytes shelf place calls))
  state_is heap modules calls paid =
      let F = λ (o m f : List ℕ). header ++ (number heap.cell_size ++ (number heap.byte_size ++ (number (used heap) ++ (number heap.bytes ++ (to_le_bytes w64 paid ++ (o ++ (m ++ f))))))) in
      let M = put.all_of number (map (registered_part place) modules.entries) in
      let C = put.all_of put.frame (map (frame_part shelf place) (reverse calls)) in
      ap (λ (o : List ℕ). F o M C) (objects_bytes shelf place heap.objects)
      ∙ (ap (λ (m : List ℕ). F (heap_bytes shelf place heap) m C) (all_of_map (registered_part place) number modules.entries)
      ∙ (ap (λ (f : List ℕ). F (heap_bytes shelf place heap) (registry_bytes place modules) f) (all_of_map (frame_part shelf place) put.frame (reverse calls))
      ∙ (ap (λ (n : ℕ). F (heap_bytes shelf place heap) (registry_bytes place modules) (number n ++ flat_map (call_bytes shelf place) (reverse calls))) (length-reverse calls)
      ∙ state_joined header (number heap.cell_size) (number heap.byte_size) (number (used heap)) (number heap.bytes) (to_le_bytes w64 paid) (heap_bytes shelf place heap) (registry_bytes place modules) (calls_bytes shelf place calls))))

  -- the parts of a frame, added one after another
  pub frame_added : (c : Call) (old one two three new : List ℕ) → one ≡ old ++ running_bytes place c → two ≡ one ++ locals_bytes shelf place c.locals → three ≡ two ++ slots_bytes shelf place (reverse c.slots)
      → new ≡ three ++ entries_bytes place c.at (reverse c.entries) → new ≡ old ++ call_bytes shelf place c
  frame_added c old one two three new e1 e2 e3 e4 =
      let l = locals_bytes shelf place c.locals in
      let s = slots_bytes shelf place (reverse c.slots) in
      let e = entries_bytes place c.at (reverse c.entries) in
      e4 ∙ (ap (λ (z : List ℕ). z ++ e) (e3 ∙ ap (λ (z : List ℕ). z ++ s) (e2 ∙ ap (λ (z : List ℕ). z ++ l) e1))
      ∙ (joined3 old (running_bytes place c) l s e ∙ ap (λ (z : List ℕ). old ++ z) (sym (call_is c))))

  -- what is too long before the rest of a frame
  pub locals_long : (c : Call) (old one : List ℕ) → one ≡ old ++ running_bytes place c → IsLong (one ++ locals_bytes shelf place c.locals) → IsLong (old ++ call_bytes shelf place c)
  locals_long c old one e long =
      let l = locals_bytes shelf place c.locals in
      let rest = slots_bytes shelf place (reverse c.slots) ++ entries_bytes place c.at (reverse c.entries) in
      subst IsLong (ap (λ (z : List ℕ). old ++ z) (sym (call_is c))) (long_front old (running_bytes place c) l rest (subst (λ (z : List ℕ). IsLong (z ++ l)) e long))

  pub slots_long : (c : Call) (old one two : List ℕ) → one ≡ old ++ running_bytes place c → two ≡ one ++ locals_bytes shelf place c.locals → IsLong (two ++ slots_bytes shelf place (reverse c.slots)) → IsLong (old ++ call_bytes shelf place c)
  slots_long c old one two e1 e2 long =
      let l = locals_bytes shelf place c.locals in
      let s = slots_bytes shelf place (reverse c.slots) in
      let e = entries_bytes place c.at (reverse c.entries) in
      subst IsLong (joined3 old (running_bytes place c) l s e ∙ ap (λ (z : List ℕ). old ++ z) (sym (call_is c)))
      (long_by _ e (subst (λ (z : List ℕ). IsLong (z ++ s)) (e2 ∙ ap (λ (z : List ℕ). z ++ l) e1) long))

  -- the parts of a state, added one after another
  pub state_added : (heap : Heap Value ℕ) (modules : Registry) (calls : List Call) (paid : ℕ) (old one two three : List ℕ) → one ≡ old ++ head_bytes heap paid → two ≡ one ++ heap_bytes shelf place heap
      → three ≡ two ++ registry_bytes place modules → three ++ calls_bytes shelf place calls ≡ old ++ put.whole (snapshot_by shelf place heap modules calls paid)
  state_added heap modules calls paid old one two three e1 e2 e3 =
      let h = heap_bytes shelf place heap in
      let m = registry_bytes place modules in
      let f = calls_bytes shelf place calls in
      ap (λ (z : List ℕ). z ++ f) (e3 ∙ ap (λ (z : List ℕ). z ++ m) (e2 ∙ ap (λ (z : List ℕ). z ++ h) e1))
      ∙ (joined3 old (head_bytes heap paid) h m f ∙ ap (λ (z : List ℕ). old ++ z) (sym (state_is heap modules calls paid)))

  pub heap_long : (heap : Heap Value ℕ) (modules : Registry) (calls : List Call) (paid : ℕ) (old one : List ℕ) → one ≡ old ++ head_bytes heap paid → IsLong (one ++ heap_bytes shelf place heap)
      → IsLong (old ++ put.whole (snapshot_by shelf place heap modules calls paid))
  heap_long heap modules calls paid old one e long =
      let h = heap_bytes shelf place heap in
      let rest = registry_bytes place modules ++ calls_bytes shelf place calls in
      subst IsLong (ap (λ (z : List ℕ). old ++ z) (sym (state_is heap modules calls paid))) (long_front old (head_bytes heap paid) h rest (subst (λ (z : List ℕ). IsLong (z ++ h)) e long))

  -- where the places are found in a list
  pub placed : (heap : Heap Value ℕ) (modules : Registry) (calls : List Call) (paid : ℕ) (places : List ℕ) → ArePlaces heap places → (old : List ℕ)
      → old ++ put.whole (snapshot_by shelf (found places) heap modules calls paid) ≡ old ++ put.whole (snapshot_of shelf heap modules calls paid)
  placed heap modules calls paid places are old = ap (λ (by : ℕ → ℕ). old ++ put.whole (snapshot_by shelf by heap modules calls paid)) (found_is heap places are)
