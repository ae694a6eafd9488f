-- Operators by their numbers, and their visits.
use Rattle.std.proofs.Common.{◌≡◌, ℕ, zero, suc, ◌+◌, ◌-◌, ◌≤◌, List, [], ◌∷◌, ◌++◌, length, map, drop, Option, Some, None, slice_get, refl, sym, ap, ◌∙◌, subst, arith, min}
use Rattle.std.specs.Prelude.{option_and_then}
use Rattle.std.specs.Option.{option_map}
use Rattle.std.proofs.lemmas.Option.{none-some}
use Rattle.frame_moves.specs.mpy_base.Val.{Val, PlainWorld}
use Rattle.prim_names.specs.arena_heap.declared.value.Value.{Value}
use Rattle.prim_names.specs.prim_types.py_values.Shown.{PlainHeap}
use Rattle.prim_names.specs.prim_types.py_primitives.Operators.{in_place, binary}
use Rattle.prim_names.specs.prim_types.py_primitives.Outcome.{Outcome}
use Rattle.frame_moves.specs.py_effects.Effect.{Place, on_heap}
use Rattle.frame_moves.specs.vm_frames.declared.slot.Slot.{Slot}
use Rattle.frame_moves.specs.vm_frames.declared.slot.Slot.TheVariants as slots
use Rattle.frame_moves.specs.vm_frames.Views.{View, slots_of}
use Rattle.frame_moves.specs.bc_machine.Library.{Library}
use Rattle.frame_moves.specs.bc_machine.State as states
use Rattle.frame_moves.specs.bc_machine.Step as step
use Rattle.prim_names.specs.prim_types.prim_operators.declared.operators.Operator.{Operator}
use Rattle.prim_names.specs.prim_types.prim_operators.declared.operators.Operator.TheVariants as operators
use Rattle.prim_names.specs.prim_types.prim_operators.Operators.{plain_operator, plain_unary}
use Rattle.frame_moves.specs.bc_machine.Operations.{TwoValued, comparisons, arithmetic, two_valued, operator_at, unary_at}
use Rattle.frame_values.specs.declared.operations.TwoOperands.{TwoOperands}
use Rattle.frame_values.specs.declared.operations.TwoOperands.TheVariants as twos
use Rattle.frame_values.specs.declared.operations.OneOperand.{OneOperand}
use Rattle.frame_values.specs.declared.operations.OneOperand.TheVariants as ones
use Rattle.frame_values.specs.Operations.{meaning_of_one, meaning_of_two, visits_of}
use Rattle.frame_values.proofs.Items.{get_map, on_one, on_two, Gave}
use Rattle.frame_values.proofs.Visits.{binary_free, unary_free}

get_left : {A : Type 0} (xs ys : List A) (i : ℕ) (x : A) → slice_get xs i ≡ Some x → slice_get (xs ++ ys) i ≡ Some x
get_left [] ys i x e = absurd (none-some x e)
get_left (y ∷ xs) ys zero x e = e
get_left (y ∷ xs) ys (suc i) x e = get_left xs ys i x e

get_beyond : {A : Type 0} (xs : List A) (i : ℕ) → length xs ≤ i → slice_get xs i ≡ None
get_beyond [] i less = refl
get_beyond (y ∷ xs) zero less = absurd (omega (arith, less))
get_beyond (y ∷ xs) (suc i) less = get_beyond xs i (omega (arith, less))

abbrev in_places : List (Option TwoValued)
in_places = map (option_map (λ op heap. in_place heap op)) arithmetic

abbrev plains : List (Option TwoValued)
plains = map (option_map (λ op heap. binary heap op)) arithmetic

abbrev chosen : Option (Option TwoValued) → Option TwoValued
chosen o = option_and_then (λ op. op) o

get_right : {A : Type 0} (xs ys : List A) (i n : ℕ) → i ≡ length xs + n → slice_get (xs ++ ys) i ≡ slice_get ys n
get_right [] ys i n e = let same : i ≡ n = omega (arith, e) in ap (λ (k : ℕ). slice_get ys k) same
get_right (x ∷ xs) ys zero n e = absurd (omega (arith, e))
get_right (x ∷ xs) ys (suc i) n e = get_right xs ys i n (omega (arith, e))

behind_nine : (number n : ℕ) → number ≡ 9 + n → slice_get two_valued number ≡ slice_get (in_places ++ plains) n
behind_nine number n e = get_right comparisons (in_places ++ plains) number n e

behind_more : (number n : ℕ) → number ≡ 22 + n → slice_get two_valued number ≡ slice_get plains n
behind_more number n e = behind_nine number (13 + n) (omega (arith, e)) ∙ get_right in_places plains (13 + n) n refl

placed : (number n : ℕ) (r : Option Operator) → number ≡ 9 + n → slice_get arithmetic n ≡ Some (option_map plain_operator r)
    → operator_at number ≡ option_map (λ op heap. in_place heap op) (option_map plain_operator r)
placed number n r e f =
    ap chosen (behind_nine number n e ∙ get_left in_places plains n (option_map (λ op heap. in_place heap op) (option_map plain_operator r)) (get_map (option_map (λ op heap. in_place heap op)) arithmetic n (option_map plain_operator r) f))

plainly : (number n : ℕ) (r : Option Operator) → number ≡ 22 + n → slice_get arithmetic n ≡ Some (option_map plain_operator r)
    → operator_at number ≡ option_map (λ op heap. binary heap op) (option_map plain_operator r)
plainly number n r e f = ap chosen (behind_more number n e ∙ get_map (option_map (λ op heap. binary heap op)) arithmetic n (option_map plain_operator r) f)

pub in_place_is : (number : ℕ) (r : Option Operator) (op : Operator) → 9 ≤ number → slice_get arithmetic (number - 9) ≡ Some (option_map plain_operator r) → r ≡ Some op
    → option_map meaning_of_two (Some (twos.InPlace op)) ≡ operator_at number
in_place_is number r op less f is =
    sym (placed number (number - 9) (Some op) (omega (arith, less)) (subst (λ (z : Option Operator). slice_get arithmetic (number - 9) ≡ Some (option_map plain_operator z)) is f))

pub plain_is : (number : ℕ) (r : Option Operator) (op : Operator) → 22 ≤ number → slice_get arithmetic (number - 22) ≡ Some (option_map plain_operator r) → r ≡ Some op
    → option_map meaning_of_two (Some (twos.Arithmetic op)) ≡ operator_at number
plain_is number r op less f is =
    sym (plainly number (number - 22) (Some op) (omega (arith, less)) (subst (λ (z : Option Operator). slice_get arithmetic (number - 22) ≡ Some (option_map plain_operator z)) is f))

pub plain_none : (number : ℕ) (r : Option Operator) → 22 ≤ number → slice_get arithmetic (number - 22) ≡ Some (option_map plain_operator r) → r ≡ None → None ≡ operator_at number
plain_none number r less f is =
    sym (plainly number (number - 22) None (omega (arith, less)) (subst (λ (z : Option Operator). slice_get arithmetic (number - 22) ≡ Some (option_map plain_operator z)) is f))

pub beyond_all : (number : ℕ) → 35 ≤ number → None ≡ operator_at number
beyond_all number less = sym (ap chosen (get_beyond two_valued number less))

-- only `+` differs in place
pub other_in_place : (heap : PlainHeap) (op : Operator) (a b : Val) → (op ≡ operators.Add → ⊥) → in_place heap (plain_operator op) a b ≡ binary heap (plain_operator op) a b
other_in_place heap operators.Add a b other = absurd (other refl)
other_in_place heap operators.Or a b other = refl
other_in_place heap operators.Xor a b other = refl
other_in_place heap operators.And a b other = refl
other_in_place heap operators.ShiftLeft a b other = refl
other_in_place heap operators.ShiftRight a b other = refl
other_in_place heap operators.Subtract a b other = refl
other_in_place heap operators.Multiply a b other = refl
other_in_place heap operators.FloorDivide a b other = refl
other_in_place heap operators.Modulo a b other = refl
other_in_place heap operators.Power a b other = refl

pub nothing : (visits most : ℕ) → visits ≡ 0 → 0 ≡ min visits most
nothing visits most none = omega (arith, none)

pub other_visits : (heap : PlainHeap) (op : Operator) (a b : Val) (most : ℕ) → (op ≡ operators.Add → ⊥) → 0 ≡ min (in_place heap (plain_operator op) a b).visits most
other_visits heap op a b most other =
    let same = ap (λ (o : Outcome Val). o.visits) (other_in_place heap op a b other) in
    nothing (in_place heap (plain_operator op) a b).visits most (same ∙ binary_free heap (plain_operator op) a b)

pub plain_visits : (op : TwoOperands) (f : Operator) → op ≡ twos.Arithmetic f → (heap : PlainHeap) (a b : Val) (most : ℕ) → 0 ≡ min (meaning_of_two op heap a b).visits most
plain_visits op f is heap a b most =
    nothing (meaning_of_two op heap a b).visits most (ap (λ (o : TwoOperands). (meaning_of_two o heap a b).visits) is ∙ binary_free heap (plain_operator f) a b)

pub one_free : (heap : PlainHeap) (op : OneOperand) (v : Val) → (meaning_of_one op heap v).visits ≡ 0
one_free heap (ones.Arithmetic op) v = unary_free heap (plain_unary op) v
one_free heap ones.Not v = refl

pub one_found : (number : ℕ) (found : Option OneOperand) (op : OneOperand) → option_map meaning_of_one found ≡ unary_at number → found ≡ Some op → unary_at number ≡ Some (meaning_of_one op)
one_found number found op e is = sym e ∙ ap (option_map meaning_of_one) is

pub two_found : (number : ℕ) (found : Option TwoOperands) (op : TwoOperands) → option_map meaning_of_two found ≡ operator_at number → found ≡ Some op → operator_at number ≡ Some (meaning_of_two op)
two_found number found op e is = sym e ∙ ap (option_map meaning_of_two) is

pub two_visits : (number : ℕ) (op : TwoOperands) → operator_at number ≡ Some (meaning_of_two op) → (heap : PlainHeap) (a b : Val) → (meaning_of_two op heap a b).visits ≡ visits_of (operator_at number) heap a b
two_visits number op e heap a b = ap (λ (o : Option TwoValued). visits_of o heap a b) (sym e)

module _ (view : View) (starts : List ℕ) (library : Library) (place : Place) (paid : ℕ) (frame : states.Frame) (frames : List states.Frame) (w : PlainWorld) (number : ℕ) where
  pub one_done : (op : OneOperand) → unary_at number ≡ Some (meaning_of_one op) → (st : List Slot) (v : Value) → slice_get st 0 ≡ Some (slots.Value v)
      → step.one_step library place paid frame frames w (slots_of view starts st) (unary_at number) ≡ Gave view starts library place paid frame frames w (drop 1 st) (on_heap w (meaning_of_one op w.heap (view.plain v)))
  one_done op e st v f =
      ap (λ (o : Option (PlainHeap → Val → Outcome Val)). step.one_step library place paid frame frames w (slots_of view starts st) o) e
      ∙ on_one (λ z. step.one_step library place paid frame frames w (slots_of view starts z) (Some (meaning_of_one op)) ≡ Gave view starts library place paid frame frames w (drop 1 z) (on_heap w (meaning_of_one op w.heap (view.plain v))))
      st (slots.Value v) f refl

  pub two_done : (op : TwoOperands) → operator_at number ≡ Some (meaning_of_two op) → (st : List Slot) (right left : Value) → slice_get st 0 ≡ Some (slots.Value right) → slice_get st 1 ≡ Some (slots.Value left)
      → step.two_step library place paid frame frames w (slots_of view starts st) (operator_at number) ≡ Gave view starts library place paid frame frames w (drop 2 st) (on_heap w (meaning_of_two op w.heap (view.plain left) (view.plain right)))
  two_done op e st right left f h =
      ap (λ (o : Option TwoValued). step.two_step library place paid frame frames w (slots_of view starts st) o) e
      ∙ on_two (λ z. step.two_step library place paid frame frames w (slots_of view starts z) (Some (meaning_of_two op)) ≡ Gave view starts library place paid frame frames w (drop 2 z) (on_heap w (meaning_of_two op w.heap (view.plain left) (view.plain right))))
      st (slots.Value right) (slots.Value left) f h refl
