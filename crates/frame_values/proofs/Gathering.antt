-- Values that are gathered from slots.
use Rattle.std.proofs.Common.{◌≡◌, ℕ, zero, suc, ◌+◌, ◌-◌, ◌<◌, ◌≤◌, List, length, map, take, reverse, get_or, set, Option, Some, slice_get, refl, sym, ap, ◌∙◌, subst, ◌⊎◌, inl, inr, arith, get_or-set_same, get_or-set_other}
use Rattle.std.specs.List.{All}
use Rattle.std.proofs.lemmas.Option.{slice_get-get_or, slice_get_within, same_Some}
use Rattle.std.proofs.lemmas.List.{get_or-reverse, get_or-take, get_or-map, length-reverse, length-take-le, length-map, length-set, ext_get_or}
use Rattle.frame_moves.specs.mpy_base.World.{Objects}
use Rattle.frame_moves.specs.mpy_base.Val.{Nil}
use Rattle.prim_names.specs.arena_heap.declared.value.Value.{Value}
use Rattle.prim_names.specs.arena_heap.declared.value.Value.TheVariants as values
use Rattle.prim_names.specs.arena_heap.declared.value.StrNo.{StrNo}
use Rattle.prim_names.specs.arena_heap.declared.value.ConstNo.{ConstNo}
use Rattle.prim_names.specs.prim_faults.Faults.{IsKnown}
use Rattle.prim_names.proofs.prim_types_lemmas.prim_operators_lemmas.ItemFills.{read_value}
use Rattle.frame_moves.specs.vm_frames.declared.slot.Slot.{Slot}
use Rattle.frame_moves.specs.vm_frames.declared.slot.Slot.TheVariants as slots
use Rattle.frame_moves.specs.vm_frames.Calls.{Call}
use Rattle.frame_moves.specs.vm_frames.Views.{View, slots_of, slot_of}
use Rattle.frame_moves.specs.bc_machine.State as states
use Rattle.frame_moves.specs.bc_machine.Operations as machine
use Rattle.frame_values.specs.Slots.{HasValue}

below_or_last : (k n : ℕ) → k < n + 1 → (k ≡ n) ⊎ (k < n)
below_or_last zero zero less = inl refl
below_or_last zero (suc n) less = inr (omega arith)
below_or_last (suc k) zero less = absurd (omega (arith, less))
below_or_last (suc k) (suc n) less = elim (below_or_last k n (omega (arith, less))) [ inl e ↦ inl (ap suc e) | inr l ↦ inr (omega (arith, l)) ]

written : (P : ℕ → Value → Type 0) (items : List Value) (at : ℕ) (v : Value) → at < length items → P at v → ((k : ℕ) → k < at → P k (get_or items k values.None))
    → (k : ℕ) → k < at + 1 → P k (get_or (set items at v) k values.None)
written P items at v there new old k less =
    elim (below_or_last k at less) [
      | inl e ↦ subst (λ (z : ℕ). P z (get_or (set items at v) z values.None)) (sym e) (subst (P at) (sym (get_or-set_same items at v values.None there)) new)
      | inr l ↦ subst (P k) (sym (get_or-set_other items at k v values.None (λ e. absurd (omega (arith, e, l))))) (old k l)
    ]

module _ (texts : StrNo → Option (List ℕ)) (tuples : ConstNo → Option (List Value)) (objects : Objects Value ℕ) (calls : List Call) (count : ℕ) where
  -- the first items are the values of slots, the lowest first
  pub record Gathered (items : List Value) (upto : ℕ) : Type 0 where
    pub as_many : length items ≡ count
    pub lie : (at : ℕ) → at < upto → HasValue (count - suc at) (get_or items at values.None) calls
    pub known : (at : ℕ) → at < upto → IsKnown texts tuples objects (get_or items at values.None)

  pub gathered_none : (items : List Value) → length items ≡ count → Gathered items 0
  gathered_none items e = record { as_many = e; lie = λ at less. absurd (omega (arith, less)); known = λ at less. absurd (omega (arith, less)) }

  pub gathered_more : (items : List Value) (at : ℕ) (v : Value) → at < length items → HasValue (count - suc at) v calls → IsKnown texts tuples objects v → Gathered items at → Gathered (set items at v) (at + 1)
  gathered_more items at v there here known g = record {
    as_many = length-set items at v ∙ g.as_many;
    lie = written (λ k x. HasValue (count - suc k) x calls) items at v there here g.lie;
    known = written (λ k x. IsKnown texts tuples objects x) items at v there known g.known;
  }

  pub gathered_value : (items : List Value) → Gathered items count → (at : ℕ) (v : Value) → slice_get items at ≡ Some v → HasValue (count - suc at) v calls
  gathered_value items g at v e =
      let within = slice_get_within items at v e in
      subst (λ (x : Value). HasValue (count - suc at) x calls) (sym (read_value items at v e)) (g.lie at (omega (arith, within, g.as_many)))

  pub gathered_known : (items : List Value) → Gathered items count → All (IsKnown texts tuples objects) items
  gathered_known items g at d less =
      let same : get_or items at d ≡ get_or items at values.None = read_value items at (get_or items at d) (slice_get-get_or items at d less) in
      subst (IsKnown texts tuples objects) (sym same) (g.known at (omega (arith, less, g.as_many)))

-- what the machine takes from the slots
-- =====================================

module _ (view : View) (starts : List ℕ) (count : ℕ) (items : List Value) (st : List Slot) (as_many : length items ≡ count) (there : count ≤ length st)
    (each : (at : ℕ) (v : Value) → slice_get items at ≡ Some v → slice_get st (count - suc at) ≡ Some (slots.Value v)) where
  abbrev plain_slots : List states.Slot
  plain_slots = slots_of view starts st

  taken_length : length (take count plain_slots) ≡ count
  taken_length = length-take-le count plain_slots (omega (arith, there, length-map st (slot_of view starts)))

  value_at : (at : ℕ) → at < count → machine.value_in (get_or (take count plain_slots) (count - suc at) states.Null) ≡ view.plain (get_or items at values.None)
  value_at at less =
      let v = get_or items at values.None in
      let back = count - suc at in
      let is = each at v (slice_get-get_or items at values.None (omega (arith, less, as_many))) in
      let same : get_or st back slots.Null ≡ slots.Value v = same_Some (get_or st back slots.Null) (slots.Value v) (sym (slice_get-get_or st back slots.Null (omega (arith, less, there))) ∙ is) in
      ap machine.value_in
      (get_or-take count plain_slots back states.Null (omega (arith, less))
      ∙ (get_or-map (slot_of view starts) st back slots.Null states.Null (omega (arith, less, there)) ∙ ap (slot_of view starts) same))

  pub taken_values : machine.values count plain_slots ≡ map view.plain items
  taken_values =
      let taken = take count plain_slots in
      let vs = map machine.value_in taken in
      let many : length vs ≡ count = length-map taken machine.value_in ∙ taken_length in
      ext_get_or Nil (reverse vs) (map view.plain items) (length-reverse vs ∙ (many ∙ sym (length-map items view.plain ∙ as_many)))
      (λ at less.
      let below : at < count = omega (arith, less, length-reverse vs, many) in
      let back : length vs - 1 - at ≡ count - suc at = omega (arith, many, below) in
      get_or-reverse vs at Nil (omega (arith, many, below))
      ∙ (ap (λ (k : ℕ). get_or vs k Nil) back
      ∙ (get_or-map machine.value_in taken (count - suc at) states.Null Nil (omega (arith, below, taken_length))
      ∙ (value_at at below ∙ sym (get_or-map view.plain items at values.None Nil (omega (arith, below, as_many)))))))
