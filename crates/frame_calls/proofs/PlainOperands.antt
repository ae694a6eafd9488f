-- The operands of a call as the machine's slots have them.
use Rattle.std.proofs.Common.{◌≡◌, ℕ, zero, suc, ◌+◌, List, [], ◌∷◌, ◌++◌, map, take, drop, reverse, Some, slice_get, refl, sym, ap, ◌∙◌}
use Rattle.std.proofs.lemmas.Option.{none-some, same_Some}
use Rattle.std.proofs.lemmas.List.{drop-map, drop-drop, reverse-append, map-append}
use Rattle.mpy_base.specs.Val.{Val}
use Rattle.frame_moves.specs.arena_heap.declared.value.Value.{Value}
use Rattle.frame_moves.specs.prim_walks.Plain.{plain_pair}
use Rattle.frame_moves.specs.vm_frames.declared.slot.Slot.{Slot}
use Rattle.frame_moves.specs.vm_frames.declared.slot.Slot.TheVariants as slots
use Rattle.frame_moves.specs.vm_frames.Views.{slot_of, slots_of}
use Rattle.frame_moves.specs.bc_machine.Operations as machine
use Rattle.frame_moves.specs.bc_machine.State as states
use Rattle.frame_moves.specs.Shown.{Tables, value_of, view_of}
use Rattle.frame_calls.specs.Operands.{value_in, values_in, paired, args_count, keys_count, operands_count, args_in, keys_in}

map_reversed : {A B : Type 0} (f : A → B) (xs : List A) → reverse (map f xs) ≡ map f (reverse xs)
map_reversed f [] = refl
map_reversed f (x ∷ xs) =
    reverse-append (f x ∷ []) (map f xs) ∙ (ap (λ z. z ++ f x ∷ []) (map_reversed f xs)
    ∙ (sym (map-append f (reverse xs) (x ∷ [])) ∙ ap (map f) (sym (reverse-append (x ∷ []) xs))))

module _ (t : Tables) (starts : List ℕ) where
  value_plain : (s : Slot) → machine.value_in (slot_of (view_of t) starts s) ≡ value_of t (value_in s)
  value_plain (slots.Value v) = refl
  value_plain slots.Null = refl
  value_plain (slots.Object o) = refl
  value_plain (slots.Iter over at part) = refl
  value_plain (slots.Return v) = refl
  value_plain (slots.Jump target entries iterator) = refl

  taken_plain : (count : ℕ) (st : List Slot) → map machine.value_in (take count (slots_of (view_of t) starts st)) ≡ map (value_of t) (map value_in (take count st))
  taken_plain zero st = refl
  taken_plain (suc count) [] = refl
  taken_plain (suc count) (s ∷ st) =
      ap (λ (v : Val). v ∷ map machine.value_in (take count (slots_of (view_of t) starts st))) (value_plain s)
      ∙ ap (λ (vs : List Val). value_of t (value_in s) ∷ vs) (taken_plain count st)

  values_plain : (count : ℕ) (st : List Slot) → machine.values count (slots_of (view_of t) starts st) ≡ map (value_of t) (values_in count st)
  values_plain count st = ap reverse (taken_plain count st) ∙ map_reversed (value_of t) (map value_in (take count st))

  paired_plain : (vs : List Value) → machine.paired (map (value_of t) vs) ≡ map (plain_pair t.texts t.tuples) (paired vs)
  paired_plain [] = refl
  paired_plain (name ∷ []) = refl
  paired_plain (name ∷ v ∷ vs) = ap (λ (pairs : List (Val × Val)). (value_of t name, value_of t v) ∷ pairs) (paired_plain vs)

  -- the operands of the machine's instruction
  pub operands_plain : (number : ℕ) (st : List Slot) → machine.operands number (slots_of (view_of t) starts st)
      ≡ record { args = map (value_of t) (args_in number st); keys = map (plain_pair t.texts t.tuples) (keys_in number st); below = slots_of (view_of t) starts (drop (operands_count number) st) }
  operands_plain number st =
      let f = slot_of (view_of t) starts in
      let S : List Slot → List states.Slot = slots_of (view_of t) starts in
      let k = keys_count number in
      let p = args_count number in
      let args : machine.values p (drop k (S st)) ≡ map (value_of t) (args_in number st) = ap (machine.values p) (drop-map f k st) ∙ values_plain p (drop k st) in
      let keys : machine.paired (machine.values k (S st)) ≡ map (plain_pair t.texts t.tuples) (keys_in number st) = ap machine.paired (values_plain k st) ∙ paired_plain (values_in k st) in
      let below : drop p (drop k (S st)) ≡ S (drop (operands_count number) st) = drop-drop p k (S st) ∙ drop-map f (k + p) st in
      ap (λ (z : List Val). record { args = z; keys = machine.paired (machine.values k (S st)); below = drop p (drop k (S st)) }) args
      ∙ (ap (λ (z : List (Val × Val)). record { args = map (value_of t) (args_in number st); keys = z; below = drop p (drop k (S st)) }) keys
      ∙ ap (λ (z : List states.Slot). record { args = map (value_of t) (args_in number st); keys = map (plain_pair t.texts t.tuples) (keys_in number st); below = z }) below)

-- a slot and what lies below it
pub cut_at : {A : Type 0} (n : ℕ) (xs : List A) (x : A) → slice_get xs n ≡ Some x → drop n xs ≡ x ∷ drop (suc n) xs
cut_at zero [] x e = absurd (none-some x e)
cut_at (suc n) [] x e = absurd (none-some x e)
cut_at zero (y ∷ xs) x e = ap (λ z. z ∷ xs) (same_Some y x e)
cut_at (suc n) (y ∷ xs) x e = cut_at n xs x e
