-- Identity of values as the meaning has them.
use Rattle.std.proofs.Common.{◌≡◌, ℕ, List, [], ◌∷◌, false, Option, None, map, refl, ap, ◌∙◌}
use Rattle.py_primitives.specs.mpy_base.declared.builtin.Builtin.{Builtin}
use Rattle.arena_objects.specs.arena_heap.declared.value.Value.{Value}
use Rattle.arena_objects.specs.arena_heap.declared.value.Value.TheVariants as values
use Rattle.arena_objects.specs.arena_heap.declared.value.StrNo.{StrNo}
use Rattle.arena_objects.specs.arena_heap.declared.value.ConstNo.{ConstNo}
use Rattle.arena_objects.specs.arena_heap.declared.value.ListNo.{ListNo}
use Rattle.arena_objects.specs.arena_heap.declared.value.DictNo.{DictNo}
use Rattle.arena_objects.specs.arena_heap.declared.value.TupleNo.{TupleNo}
use Rattle.arena_objects.specs.arena_heap.declared.value.TextNo.{TextNo}
use Rattle.arena_objects.specs.arena_heap.declared.value.FunNo.{FunNo}
use Rattle.arena_objects.specs.arena_heap.declared.value.ExcNo.{ExcNo}
use Rattle.arena_objects.specs.arena_heap.declared.value.MethodNo.{MethodNo}
use Rattle.arena_objects.specs.arena_heap.declared.value.RangeNo.{RangeNo}
use Rattle.arena_objects.specs.arena_heap.declared.value.ModuleNo.{ModuleNo}
use Rattle.py_primitives.specs.mpy_base.Val.{Val, Nil, Built}
use Rattle.arena_objects.specs.Iterables.{or_nothing}
use Rattle.py_primitives.specs.py_values.Equality.{is_same}
use Rattle.prim_walks.specs.Numbers.{number_in}
use Rattle.prim_walks.specs.Plain.{fixed_of, plain_by, fixed_within, plain}
use Rattle.prim_walks.proofs.PlainValues.{within_step}

-- a constant tuple is no object, and the same as nothing
fixed_number : (items : List Val) → number_in (fixed_of items) ≡ None
fixed_number [] = refl
fixed_number (v ∷ vs) = refl

nil_fixed : (items : List Val) → is_same Nil (fixed_of items) ≡ false
nil_fixed [] = refl
nil_fixed (v ∷ vs) = refl

built_fixed : (x : Builtin) (items : List Val) → is_same (Built x) (fixed_of items) ≡ false
built_fixed x [] = refl
built_fixed x (v ∷ vs) = refl

fixed_any : (items : List Val) (w : Val) → is_same (fixed_of items) w ≡ false
fixed_any [] w = refl
fixed_any (v ∷ vs) w = refl

module _ (texts : StrNo → Option (List ℕ)) (tuples : ConstNo → Option (List Value)) where
  pub rest_number : (v : Value) → ((x : ListNo) → v ≡ values.List x → ⊥) → ((x : DictNo) → v ≡ values.Dict x → ⊥) → ((x : TupleNo) → v ≡ values.Tuple x → ⊥) → ((x : TextNo) → v ≡ values.Text x → ⊥)
      → ((x : FunNo) → v ≡ values.Fun x → ⊥) → ((x : ExcNo) → v ≡ values.Exc x → ⊥) → ((x : MethodNo) → v ≡ values.Method x → ⊥) → ((x : RangeNo) → v ≡ values.Range x → ⊥) → ((x : ModuleNo) → v ≡ values.Module x → ⊥)
      → number_in (plain texts tuples v) ≡ None
  rest_number (values.List x) l d t s f e m r o = absurd (l x refl)
  rest_number (values.Dict x) l d t s f e m r o = absurd (d x refl)
  rest_number (values.Tuple x) l d t s f e m r o = absurd (t x refl)
  rest_number (values.Text x) l d t s f e m r o = absurd (s x refl)
  rest_number (values.Fun x) l d t s f e m r o = absurd (f x refl)
  rest_number (values.Exc x) l d t s f e m r o = absurd (e x refl)
  rest_number (values.Method x) l d t s f e m r o = absurd (m x refl)
  rest_number (values.Range x) l d t s f e m r o = absurd (r x refl)
  rest_number (values.Module x) l d t s f e m r o = absurd (o x refl)
  rest_number (values.Fixed c) l d t s f e m r o =
      ap number_in (within_step texts tuples 31 c) ∙ fixed_number (map (plain_by texts (fixed_within texts tuples 31)) (or_nothing (tuples c)))
  rest_number _ l d t s f e m r o = refl

  pub nil_other : (v : Value) → (v ≡ values.None → ⊥) → is_same Nil (plain texts tuples v) ≡ false
  nil_other values.None ne = absurd (ne refl)
  nil_other (values.Fixed c) ne = ap (is_same Nil) (within_step texts tuples 31 c) ∙ nil_fixed (map (plain_by texts (fixed_within texts tuples 31)) (or_nothing (tuples c)))
  nil_other _ ne = refl

  pub built_other : (x : Builtin) (v : Value) → ((y : Builtin) → v ≡ values.Built y → ⊥) → is_same (Built x) (plain texts tuples v) ≡ false
  built_other x (values.Built y) ne = absurd (ne y refl)
  built_other x (values.Fixed c) ne = ap (is_same (Built x)) (within_step texts tuples 31 c) ∙ built_fixed x (map (plain_by texts (fixed_within texts tuples 31)) (or_nothing (tuples c)))
  built_other x _ ne = refl

  -- what is neither None, a built-in nor an object is nothing but itself
  pub none_same : (v : Value) (w : Val) → (v ≡ values.None → ⊥) → ((y : Builtin) → v ≡ values.Built y → ⊥) → number_in (plain texts tuples v) ≡ None → is_same (plain texts tuples v) w ≡ false
  none_same values.None w n b e = absurd (n refl)
  none_same (values.Built y) w n b e = absurd (b y refl)
  none_same (values.Fixed c) w n b e = ap (λ (u : Val). is_same u w) (within_step texts tuples 31 c) ∙ fixed_any (map (plain_by texts (fixed_within texts tuples 31)) (or_nothing (tuples c))) w
  none_same (values.Bool x) w n b e = refl
  none_same (values.Int x) w n b e = refl
  none_same (values.Str x) w n b e = refl
  none_same values.Empty w n b e = refl
  none_same _ w n b e = absurd cc
