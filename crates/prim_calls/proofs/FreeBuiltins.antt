-- Built-ins that make no visits.
use Rattle.std.proofs.Common.{◌≡◌, ℕ, ℤ, pos, negsuc, List, [], ◌∷◌, length, nat_lt, Option, Some, None, Result, Ok, Err, refl, sym}
use Rattle.std.specs.Ordering.{int_eq}
use Rattle.mpy_base.specs.declared.builtin.Builtin.{Builtin}
use Rattle.mpy_base.specs.declared.builtin.Builtin.TheVariants as builtins
use Rattle.mpy_base.specs.World.{DictObject, RangeObject}
use Rattle.mpy_base.specs.Val.{Val, PlainWorld}
use Rattle.prim_types.specs.py_values.Shown.{PlainHeap, Shown, Nothing, Number, Text, Tuple, Items, Pairs, Range, Other, shown}
use Rattle.prim_types.specs.py_primitives.Faults.{ZeroStep, NoCode}
use Rattle.prim_types.specs.py_primitives.Outcome.{Outcome, Stop, raises, making, making_text}
use Rattle.prim_types.specs.py_primitives.Iterables.{items_in}
use Rattle.prim_types.specs.py_primitives.Calls as calls
use Rattle.prim_types.specs.py_primitives.Calls.{counts_of, count_fault, of_number, call_len, call_abs, range_of, call_range, gives_numeral, signed_number, trimmed, int_of, ord_of, character, instance_of, call_isinstance, called}
use Rattle.prim_outputs.specs.py_effects.Calling.{written, call_builtin}
use Rattle.prim_calls.proofs.FreeOutcomes.{either_free, unless_free, number_free, gives_free, making_free, text_free, exception_free}

len_free : (heap : PlainHeap) (v : Val) (items : Option (List Val)) → (call_len heap v items).visits ≡ 0
len_free heap v (Some items) = gives_free heap _
len_free heap v None = refl

range_free : (heap : PlainHeap) (start stop step : ℤ) → (range_of heap start stop step).visits ≡ 0
range_free heap start stop step = either_free (int_eq step (pos 0)) (raises ZeroStep heap) (making heap (RangeObject start stop step)) refl (making_free heap (RangeObject start stop step))

ranges_free : (heap : PlainHeap) (args : List Val) → (call_range heap args).visits ≡ 0
ranges_free heap [] = refl
ranges_free heap (a ∷ []) = number_free heap a (shown heap a) _ (λ stop. range_free heap (pos 0) stop (pos 1))
ranges_free heap (a ∷ b ∷ []) = number_free heap a (shown heap a) _ (λ start. number_free heap b (shown heap b) _ (λ stop. range_free heap start stop (pos 1)))
ranges_free heap (a ∷ b ∷ c ∷ others) =
    number_free heap a (shown heap a) _ (λ start. number_free heap b (shown heap b) _ (λ stop. number_free heap c (shown heap c) _ (λ step. range_free heap start stop step)))

numeral_free : (heap : PlainHeap) (z : Option ℤ) → (gives_numeral heap z).visits ≡ 0
numeral_free heap (Some z) = gives_free heap _
numeral_free heap None = refl

int_free : (heap : PlainHeap) (v : Val) (s : Shown) → (int_of heap v s).visits ≡ 0
int_free heap v (Text bytes) = numeral_free heap (signed_number (trimmed bytes))
int_free heap v Nothing = refl
int_free heap v (Number z) = refl
int_free heap v (Tuple items) = refl
int_free heap v (Items items) = refl
int_free heap v (Pairs pairs) = refl
int_free heap v (Range start stop step) = refl
int_free heap v Other = refl

ord_free : (heap : PlainHeap) (s : Shown) → (ord_of heap s).visits ≡ 0
ord_free heap (Text []) = refl
ord_free heap (Text (byte ∷ [])) = refl
ord_free heap (Text (byte ∷ other ∷ bytes)) = refl
ord_free heap _ = refl

character_free : (heap : PlainHeap) (z : ℤ) → (character heap z).visits ≡ 0
character_free heap (pos n) = either_free (nat_lt n 128) (making_text heap (n ∷ [])) (raises NoCode heap) (text_free heap (n ∷ [])) refl
character_free heap (negsuc n) = refl

instance_free : (heap : PlainHeap) (v : Val) (types : Option (List Builtin)) → (instance_of heap v types).visits ≡ 0
instance_free heap v (Some types) = refl
instance_free heap v None = refl

module _ (heap : PlainHeap) where
  called_free : (b : Builtin) (args : List Val) → (b ≡ builtins.Str → ⊥) → (b ≡ builtins.Repr → ⊥) → (b ≡ builtins.List → ⊥) → (b ≡ builtins.Tuple → ⊥) → (b ≡ builtins.Min → ⊥) → (b ≡ builtins.Max → ⊥)
      → (called heap b args).visits ≡ 0
  called_free builtins.Str args s r l t a z = absurd (s refl)
  called_free builtins.Repr args s r l t a z = absurd (r refl)
  called_free builtins.List args s r l t a z = absurd (l refl)
  called_free builtins.Tuple args s r l t a z = absurd (t refl)
  called_free builtins.Min args s r l t a z = absurd (a refl)
  called_free builtins.Max args s r l t a z = absurd (z refl)
  called_free builtins.Len [] s r l t a z = refl
  called_free builtins.Len (v ∷ vs) s r l t a z = len_free heap v (items_in heap v)
  called_free builtins.Abs [] s r l t a z = refl
  called_free builtins.Abs (v ∷ vs) s r l t a z = number_free heap v (shown heap v) _ (λ n. gives_free heap _)
  called_free builtins.Bool [] s r l t a z = refl
  called_free builtins.Bool (v ∷ vs) s r l t a z = refl
  called_free builtins.Range args s r l t a z = ranges_free heap args
  called_free builtins.Int [] s r l t a z = refl
  called_free builtins.Int (v ∷ vs) s r l t a z = int_free heap v (shown heap v)
  called_free builtins.Ord [] s r l t a z = refl
  called_free builtins.Ord (v ∷ vs) s r l t a z = ord_free heap (shown heap v)
  called_free builtins.Chr [] s r l t a z = refl
  called_free builtins.Chr (v ∷ vs) s r l t a z = number_free heap v (shown heap v) (character heap) (λ n. character_free heap n)
  called_free builtins.Dict args s r l t a z = making_free heap (DictObject [] 4)
  called_free builtins.IsInstance [] s r l t a z = refl
  called_free builtins.IsInstance (v ∷ []) s r l t a z = refl
  called_free builtins.IsInstance (v ∷ types ∷ vs) s r l t a z = instance_free heap v _
  called_free (builtins.Kind kind) args s r l t a z = exception_free heap kind args
  called_free _ args s r l t a z = refl

  call_free : (b : Builtin) (args : List Val) (keys : List (Val × Val)) → (b ≡ builtins.Str → ⊥) → (b ≡ builtins.Repr → ⊥) → (b ≡ builtins.List → ⊥) → (b ≡ builtins.Tuple → ⊥) → (b ≡ builtins.Min → ⊥) → (b ≡ builtins.Max → ⊥)
      → (calls.call heap b args keys).visits ≡ 0
  call_free b args [] s r l t a z = unless_free heap (count_fault (counts_of b) (length args)) (called heap b args) (called_free b args s r l t a z)
  call_free b args (key ∷ keys) s r l t a z = refl

-- printing
written_visits : (w : PlainWorld) (outcome : Outcome (List ℕ)) (answer : Result (List ℕ) Stop) → (written w outcome answer).visits ≡ outcome.visits
written_visits w outcome (Ok text) = refl
written_visits w outcome (Err stop) = refl

pub prints_visits : (w : PlainWorld) (outcome : Outcome (List ℕ)) → outcome.visits ≡ (written w outcome outcome.answer).visits
prints_visits w outcome = sym (written_visits w outcome outcome.answer)

-- only `print`, the texts of values, what goes over an iterable and comparisons make visits
pub builtin_free : (w : PlainWorld) (b : Builtin) (args : List Val) (keys : List (Val × Val)) → (b ≡ builtins.Print → ⊥) → (b ≡ builtins.Str → ⊥) → (b ≡ builtins.Repr → ⊥) → (b ≡ builtins.List → ⊥) → (b ≡ builtins.Tuple → ⊥)
    → (b ≡ builtins.Min → ⊥) → (b ≡ builtins.Max → ⊥) → (call_builtin w b args keys).visits ≡ 0
builtin_free w builtins.Print args keys p s r l t a z = absurd (p refl)
builtin_free w builtins.PortPut args keys p s r l t a z = refl
builtin_free w builtins.PortGet args keys p s r l t a z = refl
builtin_free w builtins.PortCount args keys p s r l t a z = refl
builtin_free w builtins.Port args keys p s r l t a z = refl
builtin_free w builtins.Str args keys p s r l t a z = absurd (s refl)
builtin_free w builtins.Repr args keys p s r l t a z = absurd (r refl)
builtin_free w builtins.List args keys p s r l t a z = absurd (l refl)
builtin_free w builtins.Tuple args keys p s r l t a z = absurd (t refl)
builtin_free w builtins.Min args keys p s r l t a z = absurd (a refl)
builtin_free w builtins.Max args keys p s r l t a z = absurd (z refl)
builtin_free w builtins.Bool args keys p s r l t a z = call_free w.heap builtins.Bool args keys s r l t a z
builtin_free w builtins.Int args keys p s r l t a z = call_free w.heap builtins.Int args keys s r l t a z
builtin_free w builtins.Dict args keys p s r l t a z = call_free w.heap builtins.Dict args keys s r l t a z
builtin_free w builtins.Len args keys p s r l t a z = call_free w.heap builtins.Len args keys s r l t a z
builtin_free w builtins.Abs args keys p s r l t a z = call_free w.heap builtins.Abs args keys s r l t a z
builtin_free w builtins.Range args keys p s r l t a z = call_free w.heap builtins.Range args keys s r l t a z
builtin_free w builtins.Ord args keys p s r l t a z = call_free w.heap builtins.Ord args keys s r l t a z
builtin_free w builtins.Chr args keys p s r l t a z = call_free w.heap builtins.Chr args keys s r l t a z
builtin_free w builtins.IsInstance args keys p s r l t a z = call_free w.heap builtins.IsInstance args keys s r l t a z
builtin_free w builtins.ListAppend args keys p s r l t a z = call_free w.heap builtins.ListAppend args keys s r l t a z
builtin_free w builtins.ListPop args keys p s r l t a z = call_free w.heap builtins.ListPop args keys s r l t a z
builtin_free w builtins.ListInsert args keys p s r l t a z = call_free w.heap builtins.ListInsert args keys s r l t a z
builtin_free w builtins.ListExtend args keys p s r l t a z = call_free w.heap builtins.ListExtend args keys s r l t a z
builtin_free w builtins.DictGet args keys p s r l t a z = call_free w.heap builtins.DictGet args keys s r l t a z
builtin_free w builtins.DictKeys args keys p s r l t a z = call_free w.heap builtins.DictKeys args keys s r l t a z
builtin_free w builtins.DictValues args keys p s r l t a z = call_free w.heap builtins.DictValues args keys s r l t a z
builtin_free w builtins.DictItems args keys p s r l t a z = call_free w.heap builtins.DictItems args keys s r l t a z
builtin_free w builtins.DictPop args keys p s r l t a z = call_free w.heap builtins.DictPop args keys s r l t a z
builtin_free w builtins.StrJoin args keys p s r l t a z = call_free w.heap builtins.StrJoin args keys s r l t a z
builtin_free w builtins.StrFind args keys p s r l t a z = call_free w.heap builtins.StrFind args keys s r l t a z
builtin_free w builtins.StrStartsWith args keys p s r l t a z = call_free w.heap builtins.StrStartsWith args keys s r l t a z
builtin_free w builtins.StrSplit args keys p s r l t a z = call_free w.heap builtins.StrSplit args keys s r l t a z
builtin_free w (builtins.Kind kind) args keys p s r l t a z = call_free w.heap (builtins.Kind kind) args keys s r l t a z
