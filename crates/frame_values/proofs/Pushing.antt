-- Values that are pushed, the last one first.
use Rattle.std.proofs.Common.{◌≡◌, ℕ, suc, ◌+◌, ◌<◌, ◌≤◌, List, ◌∷◌, ◌++◌, length, map, drop, Some, slice_get, sym, ap, ◌∙◌, subst, arith}
use Rattle.std.proofs.lemmas.Option.{slice_get_within}
use Rattle.std.proofs.lemmas.List.{drop_more, drop_all, length-drop, length-map, length-append}
use Rattle.prim_names.specs.arena_heap.declared.value.Value.{Value}
use Rattle.prim_names.specs.arena_heap.declared.value.Value.TheVariants as values
use Rattle.prim_names.proofs.prim_types_lemmas.prim_operators_lemmas.ItemFills.{read_value}
use Rattle.frame_moves.specs.vm_frames.declared.slot.Slot.TheVariants as slots
use Rattle.frame_moves.specs.vm_frames.Calls.{Call, Calls, OfRunning, on_running}
use Rattle.frame_moves.proofs.Stepping.{weaker}
use Rattle.frame_moves.proofs.Changing.{then_is, still}
use Rattle.frame_values.specs.Slots.{with_values}
use Rattle.frame_values.proofs.Calls.{dropped}

-- the values from a place on, in the place of the top slot
abbrev pub pushed_from : List Value → ℕ → Call → Call
pushed_from vs k c = record c { slots = map slots.Value (drop k vs) ++ drop 1 c.slots }

pub pushed_none : (vs : List Value) (k : ℕ) (s0 s1 : Calls) → length vs ≤ k → s1 ≡ on_running (dropped 1) s0 → s1 ≡ on_running (pushed_from vs k) s0
pushed_none vs k s0 s1 all e = subst (λ (xs : List Value). s1 ≡ on_running (λ c. record c { slots = map slots.Value xs ++ drop 1 c.slots }) s0) (sym (drop_all k vs all)) e

pub pushed_more : (vs : List Value) (k j : ℕ) (v : Value) (s0 s1 s2 : Calls) → slice_get vs k ≡ Some v → j ≡ k + 1 → s1 ≡ on_running (pushed_from vs j) s0
    → s2 ≡ on_running (λ c. record c { slots = slots.Value v ∷ c.slots }) s1 → s2 ≡ on_running (pushed_from vs k) s0
pushed_more vs k j v s0 s1 s2 is next d e =
    let within = slice_get_within vs k v is in
    let one : drop k vs ≡ v ∷ drop j vs =
    drop_more vs k values.None within ∙ (ap (λ (x : Value). x ∷ drop (k + 1) vs) (sym (read_value vs k v is)) ∙ ap (λ (n : ℕ). v ∷ drop n vs) (sym next)) in
    then_is (pushed_from vs j) (λ c. record c { slots = slots.Value v ∷ c.slots }) s0 s1 s2 d e
    ∙ ap (λ (xs : List Value). on_running (λ c. record c { slots = map slots.Value xs ++ drop 1 c.slots }) s0) (sym one)

same_room : (f : Call → Call) (s0 s1 : Calls) → s1 ≡ on_running f s0 → s1.slot_room ≡ s0.slot_room
same_room f s0 s1 e = ap (λ (s : Calls). s.slot_room) e

pub push_room : (vs : List Value) (j : ℕ) (s0 s1 : Calls) → 0 < j → j ≤ length vs → s1 ≡ on_running (pushed_from vs j) s0 → OfRunning (λ c. 0 < length c.slots) s0.calls
    → OfRunning (λ c. length c.slots + length vs ≤ suc s0.slot_room) s0.calls → OfRunning (λ c. length c.slots < s1.slot_room) s1.calls
push_room vs j s0 s1 some within e there room =
    still (λ c. length c.slots < s1.slot_room) (pushed_from vs j) s0 s1 e
    (weaker (λ c. (0 < length c.slots) × (length c.slots + length vs ≤ suc s0.slot_room)) (λ c. length (map slots.Value (drop j vs) ++ drop 1 c.slots) < s1.slot_room) s0.calls
    (λ c h. omega (arith, some, within, h.0, h.1, same_room (pushed_from vs j) s0 s1 e, length-append (map slots.Value (drop j vs)) (drop 1 c.slots), length-map (drop j vs) slots.Value, length-drop j vs, length-drop 1 c.slots))
    (Rattle.frame_moves.proofs.Stepping.both (λ c. 0 < length c.slots) (λ c. length c.slots + length vs ≤ suc s0.slot_room) s0.calls there room))

pub pushed_all : (vs : List Value) (end k : ℕ) (s0 s1 s2 : Calls) → k ≡ 0 → s1 ≡ on_running (pushed_from vs k) s0 → s2 ≡ on_running (λ c. record c { at = end }) s1 → s2 ≡ on_running (with_values end vs) s0
pushed_all vs end k s0 s1 s2 none d e =
    then_is (pushed_from vs k) (λ c. record c { at = end }) s0 s1 s2 d e
    ∙ ap (λ (n : ℕ). on_running (λ c. record c { at = end; slots = map slots.Value (drop n vs) ++ drop 1 c.slots }) s0) none
