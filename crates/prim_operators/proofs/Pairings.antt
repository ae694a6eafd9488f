-- Operators over texts, tuples, lists and numbers, as what they show.
use Rattle.std.proofs.Common.{◌≡◌, ℤ, refl, sym, ap, ap₂, ◌∙◌, subst}
use Rattle.prim_faults.specs.mpy_base.Val.{Val}
use Rattle.prim_faults.specs.py_values.Shown.{PlainHeap, Shown, Nothing, Number, Text, Tuple, Items, Pairs, Range, Other}
use Rattle.prim_faults.specs.py_primitives.Operators.{Operator, Or, Xor, And, ShiftLeft, ShiftRight, Add, Subtract, Multiply, FloorDivide, Modulo, Power, operator_method, binary_shown, unsupported, gives_number, number_answer}
use Rattle.prim_operators.specs.declared.operands.Shape.{Shape}
use Rattle.prim_operators.specs.declared.operands.Shape.TheVariants as shapes
use Rattle.prim_operators.specs.Pairs.{IsUnfit, ShowsShape, AreUnfit, AreAlike}

number_unfit : (x : ℤ) (t : Shown) → IsUnfit t → AreUnfit (Number x) t
number_unfit x Nothing u = tt
number_unfit x (Pairs pairs) u = tt
number_unfit x (Range start stop step) u = tt
number_unfit x Other u = tt
number_unfit x _ u = absurd u

pub unfit_number : (s t : Shown) (x : ℤ) → s ≡ Number x → IsUnfit t → AreUnfit s t
unfit_number s t x e u = subst (λ (r : Shown). AreUnfit r t) (sym e) (number_unfit x t u)

pub unfit_shape : (s t : Shown) (shape : Shape) → ShowsShape s shape → IsUnfit t → AreUnfit s t
unfit_shape (Text bytes) Nothing shape is u = tt
unfit_shape (Text bytes) (Pairs pairs) shape is u = tt
unfit_shape (Text bytes) (Range start stop step) shape is u = tt
unfit_shape (Text bytes) Other shape is u = tt
unfit_shape (Text bytes) _ shape is u = absurd u
unfit_shape (Tuple items) Nothing shape is u = tt
unfit_shape (Tuple items) (Pairs pairs) shape is u = tt
unfit_shape (Tuple items) (Range start stop step) shape is u = tt
unfit_shape (Tuple items) Other shape is u = tt
unfit_shape (Tuple items) _ shape is u = absurd u
unfit_shape (Items items) Nothing shape is u = tt
unfit_shape (Items items) (Pairs pairs) shape is u = tt
unfit_shape (Items items) (Range start stop step) shape is u = tt
unfit_shape (Items items) Other shape is u = tt
unfit_shape (Items items) _ shape is u = absurd u
unfit_shape _ t shape is u = absurd is

pub unfit_left : (s t : Shown) → IsUnfit s → AreUnfit s t
unfit_left Nothing t u = tt
unfit_left (Pairs pairs) t u = tt
unfit_left (Range start stop step) t u = tt
unfit_left Other t u = tt
unfit_left _ t u = absurd u

pub unfit_shapes : (s t : Shown) (shape other : Shape) → (shape ≡ other → ⊥) → ShowsShape s shape → ShowsShape t other → AreUnfit s t
unfit_shapes (Text bytes) (Text others) shapes.Text shapes.Text differ is is_too = absurd (differ refl)
unfit_shapes (Text bytes) (Tuple others) shapes.Text shapes.Tuple differ is is_too = tt
unfit_shapes (Text bytes) (Items others) shapes.Text shapes.List differ is is_too = tt
unfit_shapes (Tuple items) (Text others) shapes.Tuple shapes.Text differ is is_too = tt
unfit_shapes (Tuple items) (Tuple others) shapes.Tuple shapes.Tuple differ is is_too = absurd (differ refl)
unfit_shapes (Tuple items) (Items others) shapes.Tuple shapes.List differ is is_too = tt
unfit_shapes (Items items) (Text others) shapes.List shapes.Text differ is is_too = tt
unfit_shapes (Items items) (Tuple others) shapes.List shapes.Tuple differ is is_too = tt
unfit_shapes (Items items) (Items others) shapes.List shapes.List differ is is_too = absurd (differ refl)
unfit_shapes (Text bytes) _ shapes.Text shapes.Text differ is is_too = absurd is_too
unfit_shapes (Text bytes) _ shapes.Text shapes.Tuple differ is is_too = absurd is_too
unfit_shapes (Text bytes) _ shapes.Text shapes.List differ is is_too = absurd is_too
unfit_shapes (Tuple items) _ shapes.Tuple shapes.Text differ is is_too = absurd is_too
unfit_shapes (Tuple items) _ shapes.Tuple shapes.Tuple differ is is_too = absurd is_too
unfit_shapes (Tuple items) _ shapes.Tuple shapes.List differ is is_too = absurd is_too
unfit_shapes (Items items) _ shapes.List shapes.Text differ is is_too = absurd is_too
unfit_shapes (Items items) _ shapes.List shapes.Tuple differ is is_too = absurd is_too
unfit_shapes (Items items) _ shapes.List shapes.List differ is is_too = absurd is_too
unfit_shapes _ t shapes.Text other differ is is_too = absurd is
unfit_shapes _ t shapes.Tuple other differ is is_too = absurd is
unfit_shapes _ t shapes.List other differ is is_too = absurd is

-- what no operator takes
pub unfit_unsupported : (heap : PlainHeap) (op : Operator) (a b : Val) (s t : Shown) → AreUnfit s t → binary_shown heap op a b s t ≡ unsupported heap (operator_method op) a b
unfit_unsupported heap Or a b (Number x) (Number y) u = absurd u
unfit_unsupported heap Or a b (Text bytes) (Text others) u = absurd u
unfit_unsupported heap Or a b (Tuple items) (Tuple others) u = absurd u
unfit_unsupported heap Or a b (Items items) (Items others) u = absurd u
unfit_unsupported heap Or a b (Number x) (Text others) u = absurd u
unfit_unsupported heap Or a b (Number x) (Tuple others) u = absurd u
unfit_unsupported heap Or a b (Number x) (Items others) u = absurd u
unfit_unsupported heap Or a b (Text bytes) (Number y) u = absurd u
unfit_unsupported heap Or a b (Tuple items) (Number y) u = absurd u
unfit_unsupported heap Or a b (Items items) (Number y) u = absurd u
unfit_unsupported heap Or a b _ _ u = refl
unfit_unsupported heap Xor a b (Number x) (Number y) u = absurd u
unfit_unsupported heap Xor a b (Text bytes) (Text others) u = absurd u
unfit_unsupported heap Xor a b (Tuple items) (Tuple others) u = absurd u
unfit_unsupported heap Xor a b (Items items) (Items others) u = absurd u
unfit_unsupported heap Xor a b (Number x) (Text others) u = absurd u
unfit_unsupported heap Xor a b (Number x) (Tuple others) u = absurd u
unfit_unsupported heap Xor a b (Number x) (Items others) u = absurd u
unfit_unsupported heap Xor a b (Text bytes) (Number y) u = absurd u
unfit_unsupported heap Xor a b (Tuple items) (Number y) u = absurd u
unfit_unsupported heap Xor a b (Items items) (Number y) u = absurd u
unfit_unsupported heap Xor a b _ _ u = refl
unfit_unsupported heap And a b (Number x) (Number y) u = absurd u
unfit_unsupported heap And a b (Text bytes) (Text others) u = absurd u
unfit_unsupported heap And a b (Tuple items) (Tuple others) u = absurd u
unfit_unsupported heap And a b (Items items) (Items others) u = absurd u
unfit_unsupported heap And a b (Number x) (Text others) u = absurd u
unfit_unsupported heap And a b (Number x) (Tuple others) u = absurd u
unfit_unsupported heap And a b (Number x) (Items others) u = absurd u
unfit_unsupported heap And a b (Text bytes) (Number y) u = absurd u
unfit_unsupported heap And a b (Tuple items) (Number y) u = absurd u
unfit_unsupported heap And a b (Items items) (Number y) u = absurd u
unfit_unsupported heap And a b _ _ u = refl
unfit_unsupported heap ShiftLeft a b (Number x) (Number y) u = absurd u
unfit_unsupported heap ShiftLeft a b (Text bytes) (Text others) u = absurd u
unfit_unsupported heap ShiftLeft a b (Tuple items) (Tuple others) u = absurd u
unfit_unsupported heap ShiftLeft a b (Items items) (Items others) u = absurd u
unfit_unsupported heap ShiftLeft a b (Number x) (Text others) u = absurd u
unfit_unsupported heap ShiftLeft a b (Number x) (Tuple others) u = absurd u
unfit_unsupported heap ShiftLeft a b (Number x) (Items others) u = absurd u
unfit_unsupported heap ShiftLeft a b (Text bytes) (Number y) u = absurd u
unfit_unsupported heap ShiftLeft a b (Tuple items) (Number y) u = absurd u
unfit_unsupported heap ShiftLeft a b (Items items) (Number y) u = absurd u
unfit_unsupported heap ShiftLeft a b _ _ u = refl
unfit_unsupported heap ShiftRight a b (Number x) (Number y) u = absurd u
unfit_unsupported heap ShiftRight a b (Text bytes) (Text others) u = absurd u
unfit_unsupported heap ShiftRight a b (Tuple items) (Tuple others) u = absurd u
unfit_unsupported heap ShiftRight a b (Items items) (Items others) u = absurd u
unfit_unsupported heap ShiftRight a b (Number x) (Text others) u = absurd u
unfit_unsupported heap ShiftRight a b (Number x) (Tuple others) u = absurd u
unfit_unsupported heap ShiftRight a b (Number x) (Items others) u = absurd u
unfit_unsupported heap ShiftRight a b (Text bytes) (Number y) u = absurd u
unfit_unsupported heap ShiftRight a b (Tuple items) (Number y) u = absurd u
unfit_unsupported heap ShiftRight a b (Items items) (Number y) u = absurd u
unfit_unsupported heap ShiftRight a b _ _ u = refl
unfit_unsupported heap Add a b (Number x) (Number y) u = absurd u
unfit_unsupported heap Add a b (Text bytes) (Text others) u = absurd u
unfit_unsupported heap Add a b (Tuple items) (Tuple others) u = absurd u
unfit_unsupported heap Add a b (Items items) (Items others) u = absurd u
unfit_unsupported heap Add a b (Number x) (Text others) u = absurd u
unfit_unsupported heap Add a b (Number x) (Tuple others) u = absurd u
unfit_unsupported heap Add a b (Number x) (Items others) u = absurd u
unfit_unsupported heap Add a b (Text bytes) (Number y) u = absurd u
unfit_unsupported heap Add a b (Tuple items) (Number y) u = absurd u
unfit_unsupported heap Add a b (Items items) (Number y) u = absurd u
unfit_unsupported heap Add a b _ _ u = refl
unfit_unsupported heap Subtract a b (Number x) (Number y) u = absurd u
unfit_unsupported heap Subtract a b (Text bytes) (Text others) u = absurd u
unfit_unsupported heap Subtract a b (Tuple items) (Tuple others) u = absurd u
unfit_unsupported heap Subtract a b (Items items) (Items others) u = absurd u
unfit_unsupported heap Subtract a b (Number x) (Text others) u = absurd u
unfit_unsupported heap Subtract a b (Number x) (Tuple others) u = absurd u
unfit_unsupported heap Subtract a b (Number x) (Items others) u = absurd u
unfit_unsupported heap Subtract a b (Text bytes) (Number y) u = absurd u
unfit_unsupported heap Subtract a b (Tuple items) (Number y) u = absurd u
unfit_unsupported heap Subtract a b (Items items) (Number y) u = absurd u
unfit_unsupported heap Subtract a b _ _ u = refl
unfit_unsupported heap Multiply a b (Number x) (Number y) u = absurd u
unfit_unsupported heap Multiply a b (Text bytes) (Text others) u = absurd u
unfit_unsupported heap Multiply a b (Tuple items) (Tuple others) u = absurd u
unfit_unsupported heap Multiply a b (Items items) (Items others) u = absurd u
unfit_unsupported heap Multiply a b (Number x) (Text others) u = absurd u
unfit_unsupported heap Multiply a b (Number x) (Tuple others) u = absurd u
unfit_unsupported heap Multiply a b (Number x) (Items others) u = absurd u
unfit_unsupported heap Multiply a b (Text bytes) (Number y) u = absurd u
unfit_unsupported heap Multiply a b (Tuple items) (Number y) u = absurd u
unfit_unsupported heap Multiply a b (Items items) (Number y) u = absurd u
unfit_unsupported heap Multiply a b _ _ u = refl
unfit_unsupported heap FloorDivide a b (Number x) (Number y) u = absurd u
unfit_unsupported heap FloorDivide a b (Text bytes) (Text others) u = absurd u
unfit_unsupported heap FloorDivide a b (Tuple items) (Tuple others) u = absurd u
unfit_unsupported heap FloorDivide a b (Items items) (Items others) u = absurd u
unfit_unsupported heap FloorDivide a b (Number x) (Text others) u = absurd u
unfit_unsupported heap FloorDivide a b (Number x) (Tuple others) u = absurd u
unfit_unsupported heap FloorDivide a b (Number x) (Items others) u = absurd u
unfit_unsupported heap FloorDivide a b (Text bytes) (Number y) u = absurd u
unfit_unsupported heap FloorDivide a b (Tuple items) (Number y) u = absurd u
unfit_unsupported heap FloorDivide a b (Items items) (Number y) u = absurd u
unfit_unsupported heap FloorDivide a b _ _ u = refl
unfit_unsupported heap Modulo a b (Number x) (Number y) u = absurd u
unfit_unsupported heap Modulo a b (Text bytes) (Text others) u = absurd u
unfit_unsupported heap Modulo a b (Tuple items) (Tuple others) u = absurd u
unfit_unsupported heap Modulo a b (Items items) (Items others) u = absurd u
unfit_unsupported heap Modulo a b (Number x) (Text others) u = absurd u
unfit_unsupported heap Modulo a b (Number x) (Tuple others) u = absurd u
unfit_unsupported heap Modulo a b (Number x) (Items others) u = absurd u
unfit_unsupported heap Modulo a b (Text bytes) (Number y) u = absurd u
unfit_unsupported heap Modulo a b (Tuple items) (Number y) u = absurd u
unfit_unsupported heap Modulo a b (Items items) (Number y) u = absurd u
unfit_unsupported heap Modulo a b _ _ u = refl
unfit_unsupported heap Power a b (Number x) (Number y) u = absurd u
unfit_unsupported heap Power a b (Text bytes) (Text others) u = absurd u
unfit_unsupported heap Power a b (Tuple items) (Tuple others) u = absurd u
unfit_unsupported heap Power a b (Items items) (Items others) u = absurd u
unfit_unsupported heap Power a b (Number x) (Text others) u = absurd u
unfit_unsupported heap Power a b (Number x) (Tuple others) u = absurd u
unfit_unsupported heap Power a b (Number x) (Items others) u = absurd u
unfit_unsupported heap Power a b (Text bytes) (Number y) u = absurd u
unfit_unsupported heap Power a b (Tuple items) (Number y) u = absurd u
unfit_unsupported heap Power a b (Items items) (Number y) u = absurd u
unfit_unsupported heap Power a b _ _ u = refl

-- two of one shape, but for `+`
alike_by : (heap : PlainHeap) (op : Operator) (a b : Val) (s t : Shown) → (op ≡ Add → ⊥) → AreAlike s t → binary_shown heap op a b s t ≡ unsupported heap (operator_method op) a b
alike_by heap Add a b s t other alike = absurd (other refl)
alike_by heap Or a b (Text bytes) (Text others) other alike = refl
alike_by heap Or a b (Tuple items) (Tuple others) other alike = refl
alike_by heap Or a b (Items items) (Items others) other alike = refl
alike_by heap Or a b _ _ other alike = absurd alike
alike_by heap Xor a b (Text bytes) (Text others) other alike = refl
alike_by heap Xor a b (Tuple items) (Tuple others) other alike = refl
alike_by heap Xor a b (Items items) (Items others) other alike = refl
alike_by heap Xor a b _ _ other alike = absurd alike
alike_by heap And a b (Text bytes) (Text others) other alike = refl
alike_by heap And a b (Tuple items) (Tuple others) other alike = refl
alike_by heap And a b (Items items) (Items others) other alike = refl
alike_by heap And a b _ _ other alike = absurd alike
alike_by heap ShiftLeft a b (Text bytes) (Text others) other alike = refl
alike_by heap ShiftLeft a b (Tuple items) (Tuple others) other alike = refl
alike_by heap ShiftLeft a b (Items items) (Items others) other alike = refl
alike_by heap ShiftLeft a b _ _ other alike = absurd alike
alike_by heap ShiftRight a b (Text bytes) (Text others) other alike = refl
alike_by heap ShiftRight a b (Tuple items) (Tuple others) other alike = refl
alike_by heap ShiftRight a b (Items items) (Items others) other alike = refl
alike_by heap ShiftRight a b _ _ other alike = absurd alike
alike_by heap Subtract a b (Text bytes) (Text others) other alike = refl
alike_by heap Subtract a b (Tuple items) (Tuple others) other alike = refl
alike_by heap Subtract a b (Items items) (Items others) other alike = refl
alike_by heap Subtract a b _ _ other alike = absurd alike
alike_by heap Multiply a b (Text bytes) (Text others) other alike = refl
alike_by heap Multiply a b (Tuple items) (Tuple others) other alike = refl
alike_by heap Multiply a b (Items items) (Items others) other alike = refl
alike_by heap Multiply a b _ _ other alike = absurd alike
alike_by heap FloorDivide a b (Text bytes) (Text others) other alike = refl
alike_by heap FloorDivide a b (Tuple items) (Tuple others) other alike = refl
alike_by heap FloorDivide a b (Items items) (Items others) other alike = refl
alike_by heap FloorDivide a b _ _ other alike = absurd alike
alike_by heap Modulo a b (Text bytes) (Text others) other alike = refl
alike_by heap Modulo a b (Tuple items) (Tuple others) other alike = refl
alike_by heap Modulo a b (Items items) (Items others) other alike = refl
alike_by heap Modulo a b _ _ other alike = absurd alike
alike_by heap Power a b (Text bytes) (Text others) other alike = refl
alike_by heap Power a b (Tuple items) (Tuple others) other alike = refl
alike_by heap Power a b (Items items) (Items others) other alike = refl
alike_by heap Power a b _ _ other alike = absurd alike

are_alike : (s t : Shown) (shape : Shape) → ShowsShape s shape → ShowsShape t shape → AreAlike s t
are_alike (Text bytes) (Text others) shapes.Text is is_too = tt
are_alike (Tuple items) (Tuple others) shapes.Tuple is is_too = tt
are_alike (Items items) (Items others) shapes.List is is_too = tt
are_alike (Text bytes) _ shapes.Text is is_too = absurd is_too
are_alike (Tuple items) _ shapes.Tuple is is_too = absurd is_too
are_alike (Items items) _ shapes.List is is_too = absurd is_too
are_alike _ t shapes.Text is is_too = absurd is
are_alike _ t shapes.Tuple is is_too = absurd is
are_alike _ t shapes.List is is_too = absurd is

pub alike_unsupported : (heap : PlainHeap) (op : Operator) (a b : Val) (s t : Shown) (shape : Shape) → (op ≡ Add → ⊥) → ShowsShape s shape → ShowsShape t shape → binary_shown heap op a b s t ≡ unsupported heap (operator_method op) a b
alike_unsupported heap op a b s t shape other is is_too = alike_by heap op a b s t other (are_alike s t shape is is_too)

-- a number beside one, but for `*`
left_by : (heap : PlainHeap) (op : Operator) (a b : Val) (s : Shown) (shape : Shape) (n : ℤ) → (op ≡ Multiply → ⊥) → ShowsShape s shape → binary_shown heap op a b s (Number n) ≡ unsupported heap (operator_method op) a b
left_by heap Multiply a b s shape n other is = absurd (other refl)
left_by heap Or a b (Text bytes) shape n other is = refl
left_by heap Or a b (Tuple items) shape n other is = refl
left_by heap Or a b (Items items) shape n other is = refl
left_by heap Or a b _ shape n other is = absurd is
left_by heap Xor a b (Text bytes) shape n other is = refl
left_by heap Xor a b (Tuple items) shape n other is = refl
left_by heap Xor a b (Items items) shape n other is = refl
left_by heap Xor a b _ shape n other is = absurd is
left_by heap And a b (Text bytes) shape n other is = refl
left_by heap And a b (Tuple items) shape n other is = refl
left_by heap And a b (Items items) shape n other is = refl
left_by heap And a b _ shape n other is = absurd is
left_by heap ShiftLeft a b (Text bytes) shape n other is = refl
left_by heap ShiftLeft a b (Tuple items) shape n other is = refl
left_by heap ShiftLeft a b (Items items) shape n other is = refl
left_by heap ShiftLeft a b _ shape n other is = absurd is
left_by heap ShiftRight a b (Text bytes) shape n other is = refl
left_by heap ShiftRight a b (Tuple items) shape n other is = refl
left_by heap ShiftRight a b (Items items) shape n other is = refl
left_by heap ShiftRight a b _ shape n other is = absurd is
left_by heap Add a b (Text bytes) shape n other is = refl
left_by heap Add a b (Tuple items) shape n other is = refl
left_by heap Add a b (Items items) shape n other is = refl
left_by heap Add a b _ shape n other is = absurd is
left_by heap Subtract a b (Text bytes) shape n other is = refl
left_by heap Subtract a b (Tuple items) shape n other is = refl
left_by heap Subtract a b (Items items) shape n other is = refl
left_by heap Subtract a b _ shape n other is = absurd is
left_by heap FloorDivide a b (Text bytes) shape n other is = refl
left_by heap FloorDivide a b (Tuple items) shape n other is = refl
left_by heap FloorDivide a b (Items items) shape n other is = refl
left_by heap FloorDivide a b _ shape n other is = absurd is
left_by heap Modulo a b (Text bytes) shape n other is = refl
left_by heap Modulo a b (Tuple items) shape n other is = refl
left_by heap Modulo a b (Items items) shape n other is = refl
left_by heap Modulo a b _ shape n other is = absurd is
left_by heap Power a b (Text bytes) shape n other is = refl
left_by heap Power a b (Tuple items) shape n other is = refl
left_by heap Power a b (Items items) shape n other is = refl
left_by heap Power a b _ shape n other is = absurd is

right_by : (heap : PlainHeap) (op : Operator) (a b : Val) (t : Shown) (shape : Shape) (n : ℤ) → (op ≡ Multiply → ⊥) → ShowsShape t shape → binary_shown heap op a b (Number n) t ≡ unsupported heap (operator_method op) a b
right_by heap Multiply a b t shape n other is = absurd (other refl)
right_by heap Or a b (Text bytes) shape n other is = refl
right_by heap Or a b (Tuple items) shape n other is = refl
right_by heap Or a b (Items items) shape n other is = refl
right_by heap Or a b _ shape n other is = absurd is
right_by heap Xor a b (Text bytes) shape n other is = refl
right_by heap Xor a b (Tuple items) shape n other is = refl
right_by heap Xor a b (Items items) shape n other is = refl
right_by heap Xor a b _ shape n other is = absurd is
right_by heap And a b (Text bytes) shape n other is = refl
right_by heap And a b (Tuple items) shape n other is = refl
right_by heap And a b (Items items) shape n other is = refl
right_by heap And a b _ shape n other is = absurd is
right_by heap ShiftLeft a b (Text bytes) shape n other is = refl
right_by heap ShiftLeft a b (Tuple items) shape n other is = refl
right_by heap ShiftLeft a b (Items items) shape n other is = refl
right_by heap ShiftLeft a b _ shape n other is = absurd is
right_by heap ShiftRight a b (Text bytes) shape n other is = refl
right_by heap ShiftRight a b (Tuple items) shape n other is = refl
right_by heap ShiftRight a b (Items items) shape n other is = refl
right_by heap ShiftRight a b _ shape n other is = absurd is
right_by heap Add a b (Text bytes) shape n other is = refl
right_by heap Add a b (Tuple items) shape n other is = refl
right_by heap Add a b (Items items) shape n other is = refl
right_by heap Add a b _ shape n other is = absurd is
right_by heap Subtract a b (Text bytes) shape n other is = refl
right_by heap Subtract a b (Tuple items) shape n other is = refl
right_by heap Subtract a b (Items items) shape n other is = refl
right_by heap Subtract a b _ shape n other is = absurd is
right_by heap FloorDivide a b (Text bytes) shape n other is = refl
right_by heap FloorDivide a b (Tuple items) shape n other is = refl
right_by heap FloorDivide a b (Items items) shape n other is = refl
right_by heap FloorDivide a b _ shape n other is = absurd is
right_by heap Modulo a b (Text bytes) shape n other is = refl
right_by heap Modulo a b (Tuple items) shape n other is = refl
right_by heap Modulo a b (Items items) shape n other is = refl
right_by heap Modulo a b _ shape n other is = absurd is
right_by heap Power a b (Text bytes) shape n other is = refl
right_by heap Power a b (Tuple items) shape n other is = refl
right_by heap Power a b (Items items) shape n other is = refl
right_by heap Power a b _ shape n other is = absurd is

pub left_unsupported : (heap : PlainHeap) (op : Operator) (a b : Val) (s t : Shown) (shape : Shape) (n : ℤ) → (op ≡ Multiply → ⊥) → ShowsShape s shape → t ≡ Number n → binary_shown heap op a b s t ≡ unsupported heap (operator_method op) a b
left_unsupported heap op a b s t shape n other is e = ap (λ (r : Shown). binary_shown heap op a b s r) e ∙ left_by heap op a b s shape n other is

pub right_unsupported : (heap : PlainHeap) (op : Operator) (a b : Val) (s t : Shown) (shape : Shape) (n : ℤ) → (op ≡ Multiply → ⊥) → s ≡ Number n → ShowsShape t shape → binary_shown heap op a b s t ≡ unsupported heap (operator_method op) a b
right_unsupported heap op a b s t shape n other e is = ap (λ (r : Shown). binary_shown heap op a b r t) e ∙ right_by heap op a b t shape n other is

pub numbers_answer : (heap : PlainHeap) (op : Operator) (a b : Val) (s t : Shown) (x y : ℤ) → s ≡ Number x → t ≡ Number y → binary_shown heap op a b s t ≡ gives_number heap (number_answer op x y)
numbers_answer heap op a b s t x y e e' = ap₂ (λ (p q : Shown). binary_shown heap op a b p q) e e'
