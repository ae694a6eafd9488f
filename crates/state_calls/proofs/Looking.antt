-- What a call instruction finds on the running call.
use Rattle.std.proofs.Common.{◌≡◌, ℕ, zero, suc, ◌+◌, List, [], ◌∷◌, ◌++◌, length, map, Option, Some, None, All, inl, inr, refl, sym, ap, subst, ◌∙◌, arith}
use Rattle.std.specs.Prelude.{slice_get}
use Rattle.std.proofs.lemmas.List.Elements.{All-head, All-tail, All-weaker}
use Rattle.vm_states.specs.mpy_base.declared.builtin.Builtin.{Builtin}
use Rattle.vm_states.specs.mpy_base.World.{Objects}
use Rattle.vm_states.specs.mpy_base.Val.{Val, Built}
use Rattle.frame_calls.specs.arena_heap.declared.value.Value.{Value}
use Rattle.frame_calls.specs.arena_heap.declared.value.Value.TheVariants as values
use Rattle.frame_calls.specs.arena_heap.declared.value.StrNo.{StrNo}
use Rattle.frame_calls.specs.arena_heap.declared.value.ConstNo.{ConstNo}
use Rattle.bc_progress.specs.bc_flow.Action.{arguments}
use Rattle.frame_calls.specs.prim_walks.Plain.{fixed_of, fixed_within, plain}
use Rattle.vm_states.specs.vm_frames.declared.slot.Slot.{Slot}
use Rattle.vm_states.specs.vm_frames.declared.slot.Slot.TheVariants as slots
use Rattle.vm_states.specs.vm_frames.Calls.{Call, OfRunning}
use Rattle.vm_states.specs.frame_moves.Shown.{Tables, view_of}
use Rattle.vm_states.specs.Tops.{OneValue, Defaults, Values, IsLooked, bound, free}
use Rattle.vm_states.specs.frame_exits.Known as known
use Rattle.frame_calls.specs.Invoking.{HasLooked}
use Rattle.frame_calls.specs.Children.{HasDefaults}
use Rattle.frame_calls.specs.Known.{IsKnownSlot}
use Rattle.frame_calls.specs.Operands.{running_slots, operands_count}
use Rattle.state_calls.specs.Taken.{HasMethods}

-- slots behind values
behind : (vs : List Value) (xs : List Slot) (k n : ℕ) → n ≡ length vs + k → slice_get (map slots.Value vs ++ xs) n ≡ slice_get xs k
behind [] xs k n e = let same : n ≡ k = omega (arith, e) in ap (slice_get xs) same
behind (v ∷ vs) xs k zero e = absurd (omega (arith, e))
behind (v ∷ vs) xs k (suc n) e = behind vs xs k n (omega (arith, e))

count_is : (number : ℕ) → operands_count number ≡ arguments number
count_is number = omega arith

-- a value lies below a call's operands
pub callee_there : (number : ℕ) (st : List Slot) → Values (arguments number) OneValue st → (v : Value) × (slice_get st (operands_count number) ≡ Some (slots.Value v))
callee_there number st h =
    let n = count_is number in
    let many = h.many in (
      h.holds.top,
      ap (λ (z : List Slot). slice_get z (operands_count number)) (h.are ∙ ap (λ (z : List Slot). map slots.Value h.values ++ z) h.holds.are)
          ∙ behind h.values (slots.Value h.holds.top ∷ h.holds.below) 0 (operands_count number) (omega (arith, n, many)),
    )

no_built : (vs : List Val) (b : Builtin) → fixed_of vs ≡ Built b → ⊥
no_built [] b e = cc
no_built (v ∷ vs) b e = cc

-- a value that is a built-in
built_back : (texts : StrNo → Option (List ℕ)) (tuples : ConstNo → Option (List Value)) (v : Value) (b : Builtin) → plain texts tuples v ≡ Built b → v ≡ values.Built b
unfolding fixed_within
built_back texts tuples values.None b e = cc
built_back texts tuples (values.Bool x) b e = cc
built_back texts tuples (values.Int z) b e = cc
built_back texts tuples (values.Str s) b e = cc
built_back texts tuples (values.Fixed c) b e = absurd (no_built _ b e)
built_back texts tuples values.Empty b e = cc
built_back texts tuples (values.List l) b e = cc
built_back texts tuples (values.Dict d) b e = cc
built_back texts tuples (values.Tuple t) b e = cc
built_back texts tuples (values.Text t) b e = cc
built_back texts tuples (values.Fun f) b e = cc
built_back texts tuples (values.Exc x) b e = cc
built_back texts tuples (values.Method m) b e = cc
built_back texts tuples (values.Range r) b e = cc
built_back texts tuples (values.Module m) b e = cc
built_back texts tuples (values.Built x) b e = let same : x ≡ b = cc in ap values.Built same

module _ (t : Tables) (number : ℕ) (st : List Slot) (methods : HasMethods st) where
  looked_in : (vs : List Value) (below : List Slot) → length vs ≡ arguments number → IsLooked (view_of t) below → st ≡ map slots.Value vs ++ below → HasLooked (operands_count number) st
  looked_in vs below many (bound object method b rest e) are =
      let n = count_is number in
      let is : method ≡ values.Built b = built_back t.texts t.tuples method b e in
      let upper : slice_get st (operands_count number) ≡ Some (slots.Object (Some object)) = ap (λ (z : List Slot). slice_get z (operands_count number)) are ∙ behind vs (slots.Object (Some object) ∷ slots.Value method ∷ rest) 0 (operands_count number) (omega (arith, n, many)) in
      let lower : slice_get st (suc (operands_count number)) ≡ Some (slots.Value method) = ap (λ (z : List Slot). slice_get z (suc (operands_count number))) are ∙ behind vs (slots.Object (Some object) ∷ slots.Value method ∷ rest) 1 (suc (operands_count number)) (omega (arith, n, many)) in
      record {
        upper = slots.Object (Some object);
        lower = slots.Value method;
        upper_there = upper;
        lower_there = lower;
        looked = inl (record { object = object; method = b; object_is = refl; method_is = ap slots.Value is; of_type = methods (operands_count number) object b upper (lower ∙ ap (λ (z : Value). Some (slots.Value z)) is) });
      }
  looked_in vs below many (free v rest) are =
      let n = count_is number in
      record {
        upper = slots.Object None;
        lower = slots.Value v;
        upper_there = ap (λ (z : List Slot). slice_get z (operands_count number)) are ∙ behind vs (slots.Object None ∷ slots.Value v ∷ rest) 0 (operands_count number) (omega (arith, n, many));
        lower_there = ap (λ (z : List Slot). slice_get z (suc (operands_count number))) are ∙ behind vs (slots.Object None ∷ slots.Value v ∷ rest) 1 (suc (operands_count number)) (omega (arith, n, many));
        looked = inr (record { callee = v; no_object = refl; callee_is = refl });
      }

  -- a look-up lies below a call's operands
  pub looked_there : Values (arguments number) (IsLooked (view_of t)) st → HasLooked (operands_count number) st
  looked_there h = looked_in h.values h.below h.many h.holds h.are

-- defaults lie on top
pub defaults_there : (texts : StrNo → Option (List ℕ)) (tuples : ConstNo → Option (List Value)) (objects : Objects Value ℕ) (st : List Slot) → Defaults st → All (known.IsKnownSlot texts tuples objects) st → HasDefaults texts tuples objects st
defaults_there texts tuples objects st h all =
    let K : Slot → Type 0 = known.IsKnownSlot texts tuples objects in
    let inside : All K (slots.Null ∷ slots.Value h.value ∷ h.below) = subst (All K) h.are all in
    record {
      defaults = h.value;
      above = ap (λ (z : List Slot). slice_get z 0) h.are;
      there = ap (λ (z : List Slot). slice_get z 1) h.are;
      known = All-head K (slots.Value h.value) h.below (All-tail K slots.Null (slots.Value h.value ∷ h.below) inside);
    }

-- the running call's slots
pub of_first : (P : List Slot → Type 0) (calls : List Call) (c : Call) (cs : List Call) → calls ≡ c ∷ cs → P c.slots → P (running_slots calls)
of_first P calls c cs are h = subst (λ (z : List Call). P (running_slots z)) (sym are) h

pub first_of : (P : Call → Type 0) (calls : List Call) (c : Call) (cs : List Call) → calls ≡ c ∷ cs → OfRunning P calls → P c
first_of P calls c cs are h = subst (OfRunning P) are h

-- known slots are known
module _ (texts : StrNo → Option (List ℕ)) (tuples : ConstNo → Option (List Value)) (objects : Objects Value ℕ) where
  slot_known : (s : Slot) → known.IsKnownSlot texts tuples objects s → IsKnownSlot texts tuples objects s
  slot_known (slots.Value v) h = h
  slot_known slots.Null h = tt
  slot_known (slots.Object o) h = h
  slot_known (slots.Iter over at part) h = h
  slot_known (slots.Return v) h = h
  slot_known (slots.Jump target entries iterator) h = tt

  pub slots_known : (st : List Slot) → All (known.IsKnownSlot texts tuples objects) st → All (IsKnownSlot texts tuples objects) st
  slots_known st h = All-weaker (known.IsKnownSlot texts tuples objects) (IsKnownSlot texts tuples objects) slot_known st h
