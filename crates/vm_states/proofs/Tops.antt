-- Slots that are wanted lie on top.
use Rattle.std.proofs.Common.{◌≡◌, ℕ, zero, suc, List, [], ◌∷◌, true, refl, ap}
use Rattle.std.proofs.lemmas.Bool.{false≢true}
use Rattle.frame_exits.specs.mpy_base.Val.{Nil, At}
use Rattle.frame_exits.specs.bc_shapes.declared.kinds.Want.{Want}
use Rattle.frame_exits.specs.bc_shapes.declared.kinds.Want.TheVariants as wants
use Rattle.frame_exits.specs.bc_shapes.Shape.{takes}
use Rattle.bc_progress.specs.bc_flow.Action.{iterator}
use Rattle.bc_progress.specs.bc_flow.Machine as flow
use Rattle.bc_progress.specs.bc_flow.Machine.{Stack, is_wanted, all_wanted}
use Rattle.bc_progress.specs.bc_machine.State.{Slot, Value, Null}
use Rattle.bc_progress.specs.Slots.{Shows, value, nothing, exception, null, kept_return, kept_jump, iterator1, iterator2, iterator3, iterator4, ShowsAll}
use Rattle.bc_progress.proofs.Showing.{top, one_value, two_values, one_method, one_iterator, as_value_or_null, as_null}
use Rattle.vm_states.specs.OnTop as tops
use Rattle.vm_states.specs.OnTop.{OneValue, TwoValues, ThreeValues, Values, Anything, IsOperand, IsDropped, OneDropped, TwoOperands, ThreeOperands, Stored, Defaults, IsLooked, Iterator}

pub one : (slots : List Slot) (stack : Stack) → ShowsAll slots stack → all_wanted (wants.Value ∷ []) stack ≡ true → OneValue slots
one = one_value [] (λ st ss. OneValue st) (λ v t rest below h r e. record { top = v; below = rest; are = refl })

pub two : (slots : List Slot) (stack : Stack) → ShowsAll slots stack → all_wanted (wants.Value ∷ wants.Value ∷ []) stack ≡ true → TwoValues slots
two = two_values [] (λ st ss. TwoValues st) (λ u v s t rest below h1 h2 r e. record { top = u; second = v; below = rest; are = refl })

pub three : (slots : List Slot) (stack : Stack) → ShowsAll slots stack → all_wanted (wants.Value ∷ wants.Value ∷ wants.Value ∷ []) stack ≡ true → ThreeValues slots
three = two_values (wants.Value ∷ []) (λ st ss. ThreeValues st) (λ u v s t st ss h1 h2 r e.
    let third = one st ss r e in
    record { top = u; second = v; third = third.top; below = third.below; are = ap (λ z. Value u ∷ Value v ∷ z) third.are })

-- values on what the other wants say
pub many : (n : ℕ) (ws : List Want) (P : List Slot → Type 0) → ((slots : List Slot) (stack : Stack) → ShowsAll slots stack → all_wanted ws stack ≡ true → P slots)
    → (slots : List Slot) (stack : Stack) → ShowsAll slots stack → all_wanted (takes n ws) stack ≡ true → Values n P slots
many zero ws P k slots stack r e = record { values = []; below = slots; are = refl; many = refl; holds = k slots stack r e }
many (suc n) ws P k slots stack r e =
    one_value (takes n ws) (λ st ss. Values (suc n) P st) (λ v t st ss h q w.
    let others = many n ws P k st ss q w in
    record { values = v ∷ others.values; below = others.below; are = ap (λ z. Value v ∷ z) others.are; many = ap suc others.many; holds = others.holds })
    slots stack r e

operand : (s : Slot) (t : flow.Slot) → Shows s t → is_wanted wants.ValueOrNull t ≡ true → IsOperand s
operand s t h e = as_value_or_null IsOperand s t (λ v. tops.value v) tops.null h e

pub stored : (slots : List Slot) (stack : Stack) → ShowsAll slots stack → all_wanted (wants.Value ∷ wants.Value ∷ wants.ValueOrNull ∷ []) stack ≡ true → Stored slots
stored = two_values (wants.ValueOrNull ∷ []) (λ st ss. Stored st) (λ u v s t st ss h1 h2 r e.
    top wants.ValueOrNull [] (λ st2 ss2. Stored (Value u ∷ Value v ∷ st2)) refl
    (λ x t3 rest below h w q k. record { index = u; container = v; third = x; below = rest; are = refl; is = operand x t3 h w }) st ss r e)

pub two_operands : (slots : List Slot) (stack : Stack) → ShowsAll slots stack → all_wanted (wants.ValueOrNull ∷ wants.ValueOrNull ∷ []) stack ≡ true → TwoOperands slots
two_operands = top wants.ValueOrNull (wants.ValueOrNull ∷ []) (λ st ss. TwoOperands st) refl (λ x t st ss h w r e.
    top wants.ValueOrNull [] (λ st2 ss2. TwoOperands (x ∷ st2)) refl
    (λ y u rest below h2 w2 q k. record { top = x; second = y; below = rest; are = refl; top_is = operand x t h w; second_is = operand y u h2 w2 }) st ss r e)

pub three_operands : (slots : List Slot) (stack : Stack) → ShowsAll slots stack → all_wanted (wants.ValueOrNull ∷ wants.ValueOrNull ∷ wants.ValueOrNull ∷ []) stack ≡ true → ThreeOperands slots
three_operands = top wants.ValueOrNull (wants.ValueOrNull ∷ wants.ValueOrNull ∷ []) (λ st ss. ThreeOperands st) refl (λ x t st ss h w r e.
    let others = two_operands st ss r e in
    record {
      top = x;
      second = others.top;
      third = others.second;
      below = others.below;
      are = ap (λ z. x ∷ z) others.are;
      top_is = operand x t h w;
      second_is = others.top_is;
      third_is = others.second_is;
    })

pub defaults : (slots : List Slot) (stack : Stack) → ShowsAll slots stack → all_wanted (wants.Null ∷ wants.Value ∷ []) stack ≡ true → Defaults slots
defaults = top wants.Null (wants.Value ∷ []) (λ st ss. Defaults st) refl (λ x t st ss h w r e.
    as_null (λ z. Defaults (z ∷ st)) x t (let v = one st ss r e in record { value = v.top; below = v.below; are = ap (λ z. Null ∷ z) v.are }) h w)

pub looked : (slots : List Slot) (stack : Stack) → ShowsAll slots stack → all_wanted (wants.Method ∷ wants.Value ∷ []) stack ≡ true → IsLooked slots
looked = one_method (λ st ss. IsLooked st) (λ object method rest below r. tops.bound object method rest) (λ v rest below r. tops.free v rest)

pub iterating : (slots : List Slot) (stack : Stack) → ShowsAll slots stack → all_wanted iterator stack ≡ true → Iterator slots
iterating = one_iterator (λ st ss. Iterator st) (λ over at c b a rest below r. record { over = over; at = at; second = c; third = b; fourth = a; below = rest; are = refl })

is_dropped : (s : Slot) (t : flow.Slot) → Shows s t → is_wanted wants.Top t ≡ true → IsDropped s
is_dropped s t (value {v = v}) e = tops.value v
is_dropped s t nothing e = tops.value Nil
is_dropped s t (exception {x = x} is) e = tops.value (At x)
is_dropped s t null e = absurd (false≢true e)
is_dropped s t kept_return e = absurd (false≢true e)
is_dropped s t kept_jump e = absurd (false≢true e)
is_dropped s t (iterator1 {over = over} {at = at}) e = tops.iterator over at 0
is_dropped s t (iterator2 {over = over} {at = at}) e = tops.iterator over at 1
is_dropped s t (iterator3 {over = over} {at = at}) e = tops.iterator over at 2
is_dropped s t (iterator4 {over = over} {at = at}) e = tops.iterator over at 3

pub dropped : (slots : List Slot) (stack : Stack) → ShowsAll slots stack → all_wanted (wants.Top ∷ []) stack ≡ true → OneDropped slots
dropped = top wants.Top [] (λ st ss. OneDropped st) refl (λ x t rest below h w r e. record { top = x; below = rest; are = refl; is = is_dropped x t h w })
