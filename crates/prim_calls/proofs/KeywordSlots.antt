-- Keyword arguments and the slots of their parameters.
use Rattle.std.proofs.Common.{◌≡◌, ℕ, ◌+◌, ◌<◌, ◌≤◌, List, length, map, get_or, set, drop, Bool, true, cond, Option, Some, None, Result, Ok, Err, sym, ap, ◌∙◌}
use Rattle.std.specs.Prelude.{slice_get, bytes_eq, position, option_and_then}
use Rattle.std.specs.List.{position_from}
use Rattle.std.specs.Option.{option_map}
use Rattle.std.proofs.lemmas.List.{drop_more, drop_all, map-set}
use Rattle.std.proofs.lemmas.Option.{slice_get-map}
use Rattle.std.proofs.lemmas.Iterator.Adapters.{position_from-zero}
use Rattle.prim_methods.specs.arena_heap.declared.value.Value.{Value}
use Rattle.prim_methods.specs.arena_heap.declared.value.Value.TheVariants as values
use Rattle.prim_methods.specs.arena_heap.declared.value.StrNo.{StrNo}
use Rattle.prim_methods.specs.arena_heap.declared.value.ConstNo.{ConstNo}
use Rattle.mpy_base.specs.World.{Heap}
use Rattle.mpy_base.specs.Val.{Val}
use Rattle.prim_methods.specs.arena_objects.Iterables.{or_nothing}
use Rattle.prim_types.specs.py_values.Shown.{Shown, Text, shown}
use Rattle.prim_types.specs.py_primitives.Faults as plain
use Rattle.prim_types.specs.py_primitives.Methods.{str_in}
use Rattle.prim_outputs.specs.py_effects.Names.{Locals}
use Rattle.prim_outputs.specs.py_effects.Calling.{filled, into_slot, one_key}
use Rattle.prim_methods.specs.prim_walks.Plain.{plain as plain_value, plain_by, plain_heap, fixed_within}
use Rattle.prim_methods.proofs.prim_walks_lemmas.PlainValues.{within_step, shown_fixed}
use Rattle.prim_calls.specs.Binding.{plain_slot, plain_slots}

-- the place of a name
-- ===================

module _ (passes : List ℕ → Bool) (name : StrNo → List ℕ) (params : List StrNo) (at : ℕ) (whole : position_from passes at (map name (drop at params)) ≡ position_from passes 0 (map name params)) where
  at_position : position_from passes at (map name (drop at params)) ≡ position passes (map name params)
  at_position = whole ∙ sym (position_from-zero passes (map name params))

  pub found_here : (d : StrNo) → at < length params → passes (name (get_or params at d)) ≡ true → Some at ≡ position passes (map name params)
  found_here d lt same =
      let rest : Option ℕ = position_from passes (at + 1) (map name (drop (at + 1) params)) in
      sym (ap (λ (ps : List StrNo). position_from passes at (map name ps)) (drop_more params at d lt) ∙ ap (λ (b : Bool). cond b (Some at) rest) same) ∙ at_position

  pub found_nowhere : length params ≤ at → None ≡ position passes (map name params)
  found_nowhere past = sym (ap (λ (ps : List StrNo). position_from passes at (map name ps)) (drop_all at params past)) ∙ at_position

-- strs
-- ====

-- a constant tuple is no str
pub fixed_no_str : (texts : StrNo → Option (List ℕ)) (tuples : ConstNo → Option (List Value)) (h : Heap Value ℕ) (v : Value) (c : ConstNo) → v ≡ values.Fixed c
    → None ≡ str_in (shown (plain_heap texts tuples h) (plain_value texts tuples v))
fixed_no_str texts tuples h v c is =
    let heap = plain_heap texts tuples h in
    let items = map (plain_by texts (fixed_within texts tuples 31)) (or_nothing (tuples c)) in
    sym (ap (λ (w : Value). str_in (shown heap (plain_value texts tuples w))) is
    ∙ (ap (λ (w : Val). str_in (shown heap w)) (within_step texts tuples 31 c) ∙ ap str_in (shown_fixed heap items)))

-- a name that is a str
pub named_key : (params : List (List ℕ)) (slots : Locals) (v : Val) (s : Shown) (name : List ℕ) → Some name ≡ str_in s → one_key params slots v s ≡ into_slot slots name v (position (bytes_eq name) params)
named_key params slots v (Text bytes) name e = let same : name ≡ bytes = cc in sym (ap (λ (n : List ℕ). into_slot slots n v (position (bytes_eq n) params)) same)
named_key params slots v _ name e = absurd cc

-- slots
-- =====

module _ (texts : StrNo → Option (List ℕ)) (tuples : ConstNo → Option (List Value)) (slots : List (Option Value)) (at : ℕ) where
  here : (slot : Option Value) → slice_get slots at ≡ Some slot → slice_get (plain_slots texts tuples slots) at ≡ Some (plain_slot texts tuples slot)
  here slot is = slice_get-map (plain_slot texts tuples) slots at ∙ ap (λ (o : Option (Option Value)). option_map (plain_slot texts tuples) o) is

  -- a value goes into an empty slot
  pub filled_empty : (name : List ℕ) (v : Value) → slice_get slots at ≡ Some None
      → Ok (plain_slots texts tuples (set slots at (Some v)))
      ≡ filled (plain_slots texts tuples slots) at name (plain_value texts tuples v) (option_and_then (λ old. old) (slice_get (plain_slots texts tuples slots) at))
  filled_empty name v is =
      let old : Option (Option Val) → Result Locals plain.Fault = λ o. filled (plain_slots texts tuples slots) at name (plain_value texts tuples v) (option_and_then (λ x. x) o) in
      ap (λ (xs : Locals). Ok xs) (map-set (plain_slot texts tuples) slots at (Some v)) ∙ sym (ap old (here None is))

  -- one that has a value keeps it
  pub filled_full : (name : List ℕ) (v old : Value) → slice_get slots at ≡ Some (Some old)
      → Err (plain.RepeatedKeyword name)
      ≡ filled (plain_slots texts tuples slots) at name (plain_value texts tuples v) (option_and_then (λ old. old) (slice_get (plain_slots texts tuples slots) at))
  filled_full name v old is =
      sym (ap (λ (o : Option (Option Val)). filled (plain_slots texts tuples slots) at name (plain_value texts tuples v) (option_and_then (λ x. x) o)) (here (Some old) is))
