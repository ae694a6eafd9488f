-- Values of known slots are known.
use Rattle.std.proofs.Common.{◌≡◌, ℕ, List, [], ◌∷◌, map, take, drop, reverse, Option, Some, slice_get, sym, subst}
use Rattle.std.specs.Prelude.{All}
use Rattle.std.proofs.lemmas.Option.{slice_get_within, get_or_from_slice_get}
use Rattle.std.proofs.lemmas.List.{reverse-append}
use Rattle.std.proofs.lemmas.List.Elements.{All-nil, All-cons, All-head, All-tail, All-append, All-weaker, All-take, All-drop, All-map}
use Rattle.mpy_base.specs.World.{Objects}
use Rattle.frame_moves.specs.arena_heap.declared.value.Value.{Value}
use Rattle.frame_moves.specs.arena_heap.declared.value.Value.TheVariants as values
use Rattle.frame_moves.specs.arena_heap.declared.value.StrNo.{StrNo}
use Rattle.frame_moves.specs.arena_heap.declared.value.ConstNo.{ConstNo}
use Rattle.frame_moves.specs.prim_faults.Faults.{IsKnown}
use Rattle.frame_moves.specs.vm_frames.declared.slot.Slot.{Slot}
use Rattle.frame_moves.specs.vm_frames.declared.slot.Slot.TheVariants as slots
use Rattle.frame_calls.specs.Operands.{value_in, values_in, paired, keys_count, args_count, args_in, keys_in}
use Rattle.frame_calls.specs.Known.{IsKnownSlot, AreKnown}

all_reversed : {A : Type 0} (P : A → Type 0) (xs : List A) → All P xs → All P (reverse xs)
all_reversed P [] all = All-nil P
all_reversed P (x ∷ xs) all =
    subst (All P) (sym (reverse-append (x ∷ []) xs)) (All-append P (reverse xs) (x ∷ []) (all_reversed P xs (All-tail P x xs all)) (All-cons P x [] (All-head P x xs all) (All-nil P)))

-- what holds of all holds of the one at a place
pub all_at : {A : Type 0} (P : A → Type 0) (xs : List A) (at : ℕ) (x : A) → All P xs → slice_get xs at ≡ Some x → P x
all_at P xs at x all is = subst P (get_or_from_slice_get xs at x x is) (all at x (slice_get_within xs at x is))

module _ (texts : StrNo → Option (List ℕ)) (tuples : ConstNo → Option (List Value)) (objects : Objects Value ℕ) where
  abbrev Known : Value → Type 0
  Known v = IsKnown texts tuples objects v

  pub none_known : Known values.None
  none_known = record { leads = record { meets = tt; small = tt }; told = tt }

  value_known : (s : Slot) → IsKnownSlot texts tuples objects s → Known (value_in s)
  value_known (slots.Value v) known = known
  value_known slots.Null known = none_known
  value_known (slots.Object o) known = none_known
  value_known (slots.Iter over at part) known = none_known
  value_known (slots.Return v) known = none_known
  value_known (slots.Jump target entries iterator) known = none_known

  all_known : (st : List Slot) → All (IsKnownSlot texts tuples objects) st → All Known (map value_in st)
  all_known st all = All-map Known value_in st (All-weaker (IsKnownSlot texts tuples objects) (λ s. Known (value_in s)) value_known st all)

  -- the value of a known slot
  pub read_known : (st : List Slot) (i : ℕ) (v : Value) → All (IsKnownSlot texts tuples objects) st → slice_get (map value_in st) i ≡ Some v → Known v
  read_known st i v all is = all_at Known (map value_in st) i v (all_known st all) is

  values_known : (count : ℕ) (st : List Slot) → All (IsKnownSlot texts tuples objects) st → All Known (values_in count st)
  values_known count st all = all_reversed Known (map value_in (take count st)) (all_known (take count st) (All-take (IsKnownSlot texts tuples objects) count st all))

  abbrev Pair : Value × Value → Type 0
  Pair pair = Known pair.0 × Known pair.1

  paired_known : (vs : List Value) → All Known vs → All Pair (paired vs)
  paired_known [] all = All-nil Pair
  paired_known (name ∷ []) all = All-nil Pair
  paired_known (name ∷ v ∷ vs) all =
      let rest = All-tail Known name (v ∷ vs) all in
      All-cons Pair (name, v) (paired vs) (All-head Known name (v ∷ vs) all, All-head Known v vs rest) (paired_known vs (All-tail Known v vs rest))

  -- the operands of an instruction
  pub operands_known : (number room : ℕ) (st : List Slot) → All (IsKnownSlot texts tuples objects) st → AreKnown texts tuples objects (record { args = args_in number st; keys = keys_in number st; room = room })
  operands_known number room st all = record {
    args = values_known (args_count number) (drop (keys_count number) st) (All-drop (IsKnownSlot texts tuples objects) (keys_count number) st all);
    keys = paired_known (values_in (keys_count number) st) (values_known (keys_count number) st all);
  }
