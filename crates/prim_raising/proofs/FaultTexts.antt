-- The texts of faults, and texts that are filled with them.
use Rattle.std.proofs.Common.{◌≡◌, ℕ, ◌+◌, ◌^◌, ◌<◌, ◌≤◌, List, [], ◌++◌, length, get_or, set, true, Option, Some, None, refl, sym, ap, ap₂, ◌∙◌, arith, get_or-set_same, get_or-set_other}
use Rattle.std.specs.Prelude.{All, codes, nat_lt}
use Rattle.std.specs.List.{list_all}
use Rattle.std.specs.Fmt.{decimal}
use Rattle.std.proofs.lemmas.Fmt.{IsAscii-decimal}
use Rattle.std.proofs.lemmas.Str.Ascii.{All-from_ascii}
use Rattle.std.proofs.lemmas.List.{set-get_or, set-set}
use Rattle.std.proofs.lemmas.List.Elements.{All-append}
use Rattle.mpy_base.proofs.Worlds.{is_within, object_before}
use Rattle.prim_types.specs.py_values.declared.small_int.NumFault.{NumFault}
use Rattle.prim_types.specs.py_values.declared.small_int.NumFault.TheVariants.{Overflow, ZeroDivide, NegativeShift, NegativePower}
use Rattle.prim_types.specs.arena_heap.declared.value.Value.{Value}
use Rattle.prim_types.specs.arena_heap.declared.value.Value.TheVariants as values
use Rattle.prim_types.specs.arena_heap.declared.value.StrNo.{StrNo}
use Rattle.prim_types.specs.arena_heap.declared.value.ConstNo.{ConstNo}
use Rattle.mpy_base.specs.World.{TextObject, Heap, Later, AText, IsA, object, kind_of, text_of, text_at, with_text}
use Rattle.mpy_base.specs.Weights.{Made}
use Rattle.prim_types.specs.arena_heap.Values.{ArenaObject}
use Rattle.prim_types.proofs.arena_heap_lemmas.Sounds.{leads_later}
use Rattle.prim_types.specs.arena_objects.Iterables.{spelled}
use Rattle.prim_types.specs.py_primitives.Faults as plain
use Rattle.prim_types.specs.py_primitives.Faults.{fault_text}
use Rattle.prim_types.proofs.prim_walks_lemmas.PenSteps.{ascii_by}
use Rattle.prim_types.proofs.prim_walks_lemmas.AsciiNames.{kind_ascii}
use Rattle.prim_types.specs.prim_faults.declared.fault.Fault.{Fault}
use Rattle.prim_types.specs.prim_faults.declared.fault.Fault.TheVariants as faults
use Rattle.prim_types.specs.prim_faults.declared.method.SpecialMethod.{SpecialMethod}
use Rattle.prim_types.specs.prim_faults.declared.method.SpecialMethod.TheVariants as methods
use Rattle.prim_types.specs.prim_faults.declared.types.ValueType.{ValueType}
use Rattle.prim_types.specs.prim_faults.declared.types.ValueType.TheVariants as types
use Rattle.prim_types.specs.prim_faults.Faults.{plain_fault, name_in, method_text, IsKnownStr, IsKnownFault}
use Rattle.prim_types.specs.prim_faults.Types.{type_text}
use Rattle.prim_types.specs.prim_operators.Sources.{IsOtherThan}
use Rattle.prim_types.proofs.prim_operators_lemmas.TextFills.{partly, partly_more, partly_all, partly_length}
use Rattle.prim_raising.specs.Makings.{IsApart, HasCounts}

-- ASCII
-- =====

record AreAscii (bytes : List ℕ) : Type 0 where
  all : All (λ b. b < 128) bytes

word : (bytes : List ℕ) → list_all (λ b. nat_lt b 128) bytes ≡ true → AreAscii bytes
word bytes are = record { all = ascii_by bytes are }

both : {xs ys : List ℕ} → AreAscii xs → AreAscii ys → AreAscii (xs ++ ys)
both {xs} {ys} left right = record { all = All-append (λ b. b < 128) xs ys left.all right.all }

quoted : {text : List ℕ} → AreAscii text → AreAscii (plain.between_quotes text)
quoted are = both (both (word (codes "'") refl) are) (word (codes "'") refl)

acting : {type act : List ℕ} → AreAscii type → AreAscii act → AreAscii (plain.object_does type act)
acting type act = both (both (quoted type) (word (codes " object ") refl)) act

number : (n : ℕ) → n < 2 ^ 32 → AreAscii (decimal n)
number n lt = record { all = All-from_ascii (decimal n) (IsAscii-decimal n (omega arith)) }

method_ascii : (method : SpecialMethod) → AreAscii (method_text method)
method_ascii methods.Or = word (codes "__or__") refl
method_ascii methods.Xor = word (codes "__xor__") refl
method_ascii methods.And = word (codes "__and__") refl
method_ascii methods.LeftShift = word (codes "__lshift__") refl
method_ascii methods.RightShift = word (codes "__rshift__") refl
method_ascii methods.Add = word (codes "__add__") refl
method_ascii methods.Subtract = word (codes "__sub__") refl
method_ascii methods.Multiply = word (codes "__mul__") refl
method_ascii methods.FloorDivide = word (codes "__floordiv__") refl
method_ascii methods.Modulo = word (codes "__mod__") refl
method_ascii methods.Power = word (codes "__pow__") refl
method_ascii methods.Less = word (codes "__lt__") refl
method_ascii methods.Greater = word (codes "__gt__") refl
method_ascii methods.LessOrEqual = word (codes "__le__") refl
method_ascii methods.GreaterOrEqual = word (codes "__ge__") refl
method_ascii methods.Contains = word (codes "__contains__") refl
method_ascii methods.Positive = word (codes "__pos__") refl
method_ascii methods.Negative = word (codes "__neg__") refl
method_ascii methods.Invert = word (codes "__invert__") refl
method_ascii methods.Hash = word (codes "__hash__") refl

type_ascii : (type : ValueType) → AreAscii (type_text type)
type_ascii types.None = word (codes "NoneType") refl
type_ascii types.Bool = word (codes "bool") refl
type_ascii types.Int = word (codes "int") refl
type_ascii types.Str = word (codes "str") refl
type_ascii types.Tuple = word (codes "tuple") refl
type_ascii types.List = word (codes "list") refl
type_ascii types.Dict = word (codes "dict") refl
type_ascii types.Range = word (codes "range") refl
type_ascii types.Function = word (codes "function") refl
type_ascii types.Module = word (codes "module") refl
type_ascii types.Metatype = word (codes "type") refl
type_ascii types.BoundMethod = word (codes "bound_method") refl
type_ascii (types.Exception kind) = record { all = kind_ascii kind }

number_text_ascii : (fault : NumFault) → AreAscii (plain.number_text fault)
number_text_ascii Overflow = word (plain.number_text Overflow) refl
number_text_ascii ZeroDivide = word (plain.number_text ZeroDivide) refl
number_text_ascii NegativeShift = word (plain.number_text NegativeShift) refl
number_text_ascii NegativePower = word (plain.number_text NegativePower) refl

-- the text of a fault is ASCII where its name is
module _ (texts : StrNo → Option (List ℕ)) (tuples : ConstNo → Option (List Value)) (heap : Heap Value ℕ) where
  fault_text_ascii : (fault : Fault) → AreAscii (name_in texts tuples heap fault) → HasCounts fault → AreAscii (fault_text (plain_fault texts tuples heap fault))
  fault_text_ascii (faults.Unsupported method left right) named counts = both (both (both (both (both (word (codes "unsupported types for ") refl) (method_ascii method)) (word (codes ": ") refl)) (quoted (type_ascii left))) (word (codes ", ") refl)) (quoted (type_ascii right))
  fault_text_ascii (faults.UnsupportedOne method operand) named counts = both (both (both (word (codes "unsupported type for ") refl) (method_ascii method)) (word (codes ": ") refl)) (quoted (type_ascii operand))
  fault_text_ascii faults.UnsupportedMatch named counts = word (codes "unsupported types for exception match") refl
  fault_text_ascii faults.NotAnException named counts = word (codes "exceptions must derive from BaseException") refl
  fault_text_ascii (faults.Arithmetic fault) named counts = number_text_ascii fault
  fault_text_ascii (faults.NotCallable t) named counts = acting (type_ascii t) (word (codes "isn't callable") refl)
  fault_text_ascii (faults.NotIterable t) named counts = acting (type_ascii t) (word (codes "isn't iterable") refl)
  fault_text_ascii (faults.NotSubscriptable t) named counts = acting (type_ascii t) (word (codes "isn't subscriptable") refl)
  fault_text_ascii (faults.NotAssignable t) named counts = acting (type_ascii t) (word (codes "doesn't support item assignment") refl)
  fault_text_ascii (faults.NotDeletable t) named counts = acting (type_ascii t) (word (codes "doesn't support item deletion") refl)
  fault_text_ascii (faults.NoLength t) named counts = both (both (word (codes "object of type ") refl) (quoted (type_ascii t))) (word (codes " has no len()") refl)
  fault_text_ascii (faults.NotANumber t) named counts = both (both (word (codes "can't convert ") refl) (type_ascii t)) (word (codes " to int") refl)
  fault_text_ascii (faults.NotAnIndex sequence index) named counts = both (both (type_ascii sequence) (word (codes " indices must be integers, not ") refl)) (type_ascii index)
  fault_text_ascii (faults.OutOfRange t) named counts = both (type_ascii t) (word (codes " index out of range") refl)
  fault_text_ascii faults.EmptyList named counts = word (codes "pop from empty list") refl
  fault_text_ascii (faults.NoKey key) named counts = word [] refl
  fault_text_ascii (faults.NoAttribute of name) named counts = acting (type_ascii of) (both (word (codes "has no attribute ") refl) (quoted named))
  fault_text_ascii (faults.WrongCount takes given) named counts = both (both (both (both (word (codes "function takes ") refl) (number takes counts.0)) (word (codes " positional arguments but ") refl)) (number given counts.1)) (word (codes " were given") refl)
  fault_text_ascii (faults.Missing count) named counts = both (both (word (codes "function missing ") refl) (number count counts)) (word (codes " required positional arguments") refl)
  fault_text_ascii (faults.TooFew least given) named counts = both (both (both (both (word (codes "function expected at least ") refl) (number least counts.0)) (word (codes " arguments, got ") refl)) (number given counts.1)) (word [] refl)
  fault_text_ascii (faults.TooMany most given) named counts = both (both (both (both (word (codes "function expected at most ") refl) (number most counts.0)) (word (codes " arguments, got ") refl)) (number given counts.1)) (word [] refl)
  fault_text_ascii faults.NoKeywords named counts = word (codes "function doesn't take keyword arguments") refl
  fault_text_ascii faults.KeywordNotAStr named counts = word (codes "keywords must be strings") refl
  fault_text_ascii (faults.UnknownKeyword name) named counts = both (word (codes "unexpected keyword argument ") refl) (quoted named)
  fault_text_ascii (faults.RepeatedKeyword name) named counts = both (word (codes "function got multiple values for argument ") refl) (quoted named)
  fault_text_ascii (faults.NotAStr name) named counts = both named (word (codes " must be a str") refl)
  fault_text_ascii faults.ZeroStep named counts = word (codes "zero step") refl
  fault_text_ascii faults.NothingToCompare named counts = word (codes "arg is an empty sequence") refl
  fault_text_ascii faults.NoNumeral named counts = word (codes "invalid syntax for integer with base 10") refl
  fault_text_ascii faults.NoCharacter named counts = word (codes "ord() expects a character") refl
  fault_text_ascii faults.NoCode named counts = word (codes "chr() arg not in range(128)") refl
  fault_text_ascii faults.NotTypes named counts = word (codes "isinstance() arg 2 must be a type or a tuple of types") refl
  fault_text_ascii faults.JoinsNoStr named counts = word (codes "join expects a list of str") refl
  fault_text_ascii faults.EmptySeparator named counts = word (codes "empty separator") refl
  fault_text_ascii faults.NoSuchPort named counts = word (codes "no such port") refl
  fault_text_ascii faults.PortFailed named counts = word [] refl
  fault_text_ascii (faults.NoSuchName name) named counts = both (both (word (codes "name ") refl) (quoted named)) (word (codes " isn't defined") refl)
  fault_text_ascii faults.Unassigned named counts = word (codes "local variable referenced before assignment") refl
  fault_text_ascii (faults.NotImported name) named counts = both (word (codes "can't import name ") refl) (quoted named)
  fault_text_ascii (faults.UnpacksMore have) named counts = both (both (word (codes "need more than ") refl) (number have counts)) (word (codes " values to unpack") refl)
  fault_text_ascii (faults.UnpacksFewer want) named counts = both (both (word (codes "too many values to unpack (expected ") refl) (number want counts)) (word (codes ")") refl)
  fault_text_ascii faults.NothingToRaise named counts = word (codes "no active exception to reraise") refl
  fault_text_ascii faults.TooDeep named counts = word (codes "maximum recursion depth exceeded") refl
  fault_text_ascii (faults.NoModule name len) named counts = both (word (codes "no module named ") refl) (quoted named)
  fault_text_ascii faults.RelativeImport named counts = word (codes "relative import") refl
  fault_text_ascii faults.IncompatibleFile named counts = word (codes "incompatible .mpy file") refl
  fault_text_ascii faults.BadDefaults named counts = word (codes "bad defaults") refl

  pub fault_ascii : (fault : Fault) → All (λ b. b < 128) (name_in texts tuples heap fault) → HasCounts fault → All (λ b. b < 128) (fault_text (plain_fault texts tuples heap fault))
  fault_ascii fault named counts = (fault_text_ascii fault (record { all = named }) counts).all

-- what is known of a fault stays known
pub known_later : (texts : StrNo → Option (List ℕ)) (tuples : ConstNo → Option (List Value)) {old new : List (Option ArenaObject)} → Later old new → (fault : Fault)
    → IsKnownFault texts tuples old fault → IsKnownFault texts tuples new fault
known_later texts tuples later (faults.NoKey key) k = record { leads = leads_later later key k.leads; told = k.told }
known_later texts tuples later (faults.UnknownKeyword name) k = record { str = k.str; leads = leads_later later name k.leads; told = k.told }
known_later texts tuples later (faults.RepeatedKeyword name) k = record { str = k.str; leads = leads_later later name k.leads; told = k.told }
known_later texts tuples later (faults.NotAStr name) k = record { str = k.str; leads = leads_later later name k.leads; told = k.told }
known_later texts tuples later (faults.NoAttribute of name) k = k
known_later texts tuples later (faults.NoSuchName name) k = k
known_later texts tuples later (faults.NotImported name) k = k
known_later texts tuples later (faults.NoModule name len) k = k
known_later texts tuples later _ k = tt

-- a text that is filled
module _ (h : Heap Value ℕ) (t : ℕ) (is : IsA h.objects AText t) (target : List ℕ) (room : length (text_at h t) ≡ length target) where
  kept : (o : Option ArenaObject) → kind_of o ≡ Some AText → Some (TextObject (text_of o)) ≡ o
  kept (Some (TextObject bytes)) text = refl
  kept _ text = absurd cc

  -- the bytes below k are filled
  abbrev pub filled : ℕ → Heap Value ℕ
  filled k = with_text h t (partly target (text_at h t) k)

  pub begins : h ≡ filled 0
  begins =
      sym (ap (λ (o : Option ArenaObject). record h { objects = set h.objects t o }) (kept (object h.objects t) is)
      ∙ ap (λ (os : List (Option ArenaObject)). record h { objects = os }) (set-get_or h.objects t None))

  partly_there : (a : Heap Value ℕ) (k : ℕ) → a ≡ filled k → text_at a t ≡ partly target (text_at h t) k
  partly_there a k e = ap (λ (w : Heap Value ℕ). text_at w t) e ∙ ap text_of (get_or-set_same h.objects t (Some (TextObject (partly target (text_at h t) k))) None (is_within h.objects AText t is))

  pub room_there : (a : Heap Value ℕ) (k : ℕ) → a ≡ filled k → k ≤ length target → length (text_at a t) ≡ length target
  room_there a k e le = ap (λ (xs : List ℕ). length xs) (partly_there a k e) ∙ partly_length target (text_at h t) k (length target) refl room le

  pub step : (a b : Heap Value ℕ) (k byte : ℕ) → a ≡ filled k → k < length target → byte ≡ get_or target k 0 → b ≡ with_text a t (set (text_at a t) k byte) → b ≡ filled (k + 1)
  step a b k byte e lt read put =
      let start = text_at h t in
      put ∙ (ap₂ (λ (xs : List ℕ) (x : ℕ). with_text a t (set xs k x)) (partly_there a k e) read
      ∙ (ap (λ (w : Heap Value ℕ). with_text w t (set (partly target start k) k (get_or target k 0))) e
      ∙ (ap (λ (os : List (Option ArenaObject)). record h { objects = os }) (set-set h.objects t (Some (TextObject (partly target start k))) (Some (TextObject (set (partly target start k) k (get_or target k 0)))))
      ∙ ap (λ (xs : List ℕ). with_text h t xs) (partly_more target start k 0 lt (omega (arith, lt, room))))))

  pub ends : (a : Heap Value ℕ) (k : ℕ) → k ≡ length target → a ≡ filled k → a ≡ with_text h t target
  ends a k end e = e ∙ ap (λ (xs : List ℕ). with_text h t xs) (partly_all target (text_at h t) k (sym end) (room ∙ sym end))

-- a fault in a heap in which another text is written over
module _ (texts : StrNo → Option (List ℕ)) (tuples : ConstNo → Option (List Value)) (h : Heap Value ℕ) (t : ℕ) (bytes : List ℕ) where
  spelled_apart : (v : Value) → IsOtherThan t v → spelled texts (with_text h t bytes) v ≡ spelled texts h v
  spelled_apart (values.Text m) other = ap text_of (get_or-set_other h.objects t m.cell (Some (TextObject bytes)) None other)
  spelled_apart _ other = refl

  pub fault_apart : (fault : Fault) → IsApart t fault → plain_fault texts tuples (with_text h t bytes) fault ≡ plain_fault texts tuples h fault
  fault_apart (faults.UnknownKeyword name) apart = ap plain.UnknownKeyword (spelled_apart name apart)
  fault_apart (faults.RepeatedKeyword name) apart = ap plain.RepeatedKeyword (spelled_apart name apart)
  fault_apart (faults.NotAStr name) apart = ap plain.NotAStr (spelled_apart name apart)
  fault_apart _ apart = refl

-- a fault in a heap with one text more
module _ (texts : StrNo → Option (List ℕ)) (tuples : ConstNo → Option (List Value)) {old made : Heap Value ℕ} {t : ℕ} (bytes : List ℕ) (m : Made old made t (TextObject bytes)) where
  other_than : (v : Value) → IsKnownStr texts tuples old.objects v → IsOtherThan t v
  other_than (values.Text n) k = let low = is_within old.objects AText n.cell k.leads.meets in let number = m.number in λ e. omega arith
  other_than _ k = tt

  pub apart_made : (fault : Fault) → IsKnownFault texts tuples old.objects fault → IsApart t fault
  apart_made (faults.UnknownKeyword name) k = other_than name k
  apart_made (faults.RepeatedKeyword name) k = other_than name k
  apart_made (faults.NotAStr name) k = other_than name k
  apart_made _ k = tt

  spelled_made : (v : Value) → IsKnownStr texts tuples old.objects v → spelled texts made v ≡ spelled texts old v
  spelled_made (values.Text n) k = ap text_of (object_before m n.cell (is_within old.objects AText n.cell k.leads.meets))
  spelled_made _ k = refl

  pub fault_made : (fault : Fault) → IsKnownFault texts tuples old.objects fault → plain_fault texts tuples made fault ≡ plain_fault texts tuples old fault
  fault_made (faults.UnknownKeyword name) k = ap plain.UnknownKeyword (spelled_made name k)
  fault_made (faults.RepeatedKeyword name) k = ap plain.RepeatedKeyword (spelled_made name k)
  fault_made (faults.NotAStr name) k = ap plain.NotAStr (spelled_made name k)
  fault_made _ k = refl
