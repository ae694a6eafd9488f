-- Calls of built-in functions, types and kinds. What writes to the output or calls a port stands apart.
use Rattle.std.specs.Prelude.{ℕ, ◌+◌, ◌-◌, ◌*◌, ℤ, pos, negsuc, neg_ℤ, unsigned_abs, List, [], ◌∷◌, length, reverse, fold, Bool}
use Rattle.std.specs.Prelude.{true, false, Option, Some, None, Result, Ok, Err, nat_eq, nat_lt, bytes_eq, if◌then◌else◌}
use Rattle.std.specs.Option.{option_map}
use Rattle.std.specs.Char.{is_ascii_digit}
use Rattle.std.specs.List.{list_any, list_all}
use Rattle.std.specs.Ordering.{int_eq}
use Rattle.py_values.specs.mpy_base.declared.builtin.Builtin.{Builtin}
use Rattle.py_values.specs.mpy_base.declared.builtin.Builtin.TheVariants as builtins
use Rattle.py_values.specs.mpy_base.declared.kind.Kind.{Kind}
use Rattle.py_values.specs.mpy_base.World.{DictObject, RangeObject}
use Rattle.py_values.specs.mpy_base.Val.{Val, Nil, Truth, Int, Str, Empty, Built}
use Rattle.py_values.specs.Small.{checked}
use Rattle.py_values.specs.Shown.{PlainHeap, Shown, Number, Text, Tuple, shown, truth}
use Rattle.py_values.specs.Names.{builtin_name, type_name}
use Rattle.py_values.specs.Equality.{visit}
use Rattle.py_primitives.specs.Builtins.{is_type}
use Rattle.py_primitives.specs.Texts.{str_of, repr_of}
use Rattle.py_primitives.specs.Order.{Sign, Below, Above, Unordered, best_from}
use Rattle.py_primitives.specs.Faults.{Fault, WrongCount, TooFew, TooMany, NoLength, NotANumber, ZeroStep, NothingToCompare}
use Rattle.py_primitives.specs.Faults.{NoNumeral, NoCharacter, NoCode, NotTypes, NoKeywords}
use Rattle.py_primitives.specs.Outcome.{Outcome, gives, raises, with_visits, after_walk, making, making_text, making_list, making_exception, list_of, tuple_of}
use Rattle.py_primitives.specs.Iterables.{iterating, items_in, kept_items, length_of}
use Rattle.py_primitives.specs.Operators.{gives_number, unsupported, sign_method, exception_kind, is_under, members, all_of}

-- counts of arguments
-- ===================

-- how many arguments a built-in takes. The object of a method isn't counted, and a module's call is refused whatever the count
pub data Counts : Type 0 where
  Exactly : ℕ → Counts
  Between : (least most : ℕ) → Counts
  AtLeast : ℕ → Counts

-- how many arguments each built-in takes
abbrev pub counts_of : Builtin → Counts
counts_of builtins.Bool = Exactly 1
counts_of builtins.Int = Exactly 1
counts_of builtins.Str = Exactly 1
counts_of builtins.List = Between 0 1
counts_of builtins.Tuple = Between 0 1
counts_of builtins.Dict = Exactly 0
counts_of builtins.Print = AtLeast 0
counts_of builtins.Len = Exactly 1
counts_of builtins.Abs = Exactly 1
counts_of builtins.Range = Between 1 3
counts_of builtins.Min = AtLeast 1
counts_of builtins.Max = AtLeast 1
counts_of builtins.Repr = Exactly 1
counts_of builtins.Ord = Exactly 1
counts_of builtins.Chr = Exactly 1
counts_of builtins.IsInstance = Exactly 2
counts_of (builtins.Kind kind) = AtLeast 0
counts_of builtins.ListAppend = Exactly 1
counts_of builtins.ListPop = Between 0 1
counts_of builtins.ListInsert = Exactly 2
counts_of builtins.ListExtend = Exactly 1
counts_of builtins.DictGet = Between 1 2
counts_of builtins.DictKeys = Exactly 0
counts_of builtins.DictValues = Exactly 0
counts_of builtins.DictItems = Exactly 0
counts_of builtins.DictPop = Between 1 2
counts_of builtins.StrJoin = Exactly 1
counts_of builtins.StrFind = Exactly 1
counts_of builtins.StrStartsWith = Exactly 1
counts_of builtins.StrSplit = Between 0 1
counts_of builtins.Port = AtLeast 0
counts_of builtins.PortPut = Exactly 2
counts_of builtins.PortGet = Exactly 1
counts_of builtins.PortCount = Exactly 0

-- the fault of a count that isn't taken
abbrev pub count_fault : Counts → ℕ → Option Fault
count_fault (Exactly n) given = if nat_eq n given then None else Some (WrongCount n given)
count_fault (Between least most) given =
    if nat_lt given least then Some (TooFew least given)
    else (if nat_lt most given then Some (TooMany most given) else None)
count_fault (AtLeast least) given = if nat_lt given least then Some (TooFew least given) else None

-- the fault, if there is one, and else what follows
abbrev pub unless_fault : {A : Type 0} → PlainHeap → Option Fault → Outcome A → Outcome A
unless_fault heap None next = next
unless_fault heap (Some fault) next = raises fault heap

-- arguments
-- =========

-- what follows on a number, and a fault for any other value
abbrev pub of_number : {A : Type 0} → PlainHeap → Val → Shown → (ℤ → Outcome A) → Outcome A
of_number heap v (Number z) next = next z
of_number heap v _ next = raises (NotANumber (type_name heap v)) heap

-- what follows on an argument that is a number
abbrev pub with_number : {A : Type 0} → PlainHeap → Val → (ℤ → Outcome A) → Outcome A
with_number heap v next = of_number heap v (shown heap v) next

-- numbers and strs
-- ================

-- `len`
abbrev pub call_len : PlainHeap → Val → Option (List Val) → Outcome Val
call_len heap v (Some items) = gives_number heap (checked (pos (length_of heap v)))
call_len heap v None = raises (NoLength (type_name heap v)) heap

-- `abs`
abbrev pub call_abs : PlainHeap → Val → Outcome Val
call_abs heap v = with_number heap v (λ z. gives_number heap (checked (pos (unsigned_abs z))))

-- a range of these numbers, or the fault of a step that is 0
abbrev pub range_of : PlainHeap → ℤ → ℤ → ℤ → Outcome Val
range_of heap start stop step = if int_eq step (pos 0) then raises ZeroStep heap else making heap (RangeObject start stop step)

-- `range`
abbrev pub call_range : PlainHeap → List Val → Outcome Val
call_range heap (a ∷ []) = with_number heap a (λ stop. range_of heap (pos 0) stop (pos 1))
call_range heap (a ∷ b ∷ []) = with_number heap a (λ start. with_number heap b (λ stop. range_of heap start stop (pos 1)))
call_range heap (a ∷ b ∷ c ∷ _) = with_number heap a (λ start. with_number heap b (λ stop. with_number heap c (λ step. range_of heap start stop step)))
call_range heap [] = gives Nil heap

-- 32 is the blank
abbrev pub without_blanks : List ℕ → List ℕ
without_blanks [] = []
without_blanks (byte ∷ bytes) = if nat_eq byte 32 then without_blanks bytes else byte ∷ bytes

-- the text without blanks at its ends
abbrev pub trimmed : List ℕ → List ℕ
trimmed bytes = reverse (without_blanks (reverse (without_blanks bytes)))

-- the number that digits spell
abbrev pub digits_number : List ℕ → Option ℕ
digits_number [] = None
digits_number digits = if list_all is_ascii_digit digits then Some (fold (λ n digit. 10 * n + (digit - 48)) 0 digits) else None

-- a sign and digits. 43 is plus and 45 minus
abbrev pub signed_number : List ℕ → Option ℤ
signed_number [] = None
signed_number (byte ∷ bytes) =
    if nat_eq byte 45 then option_map (λ n. neg_ℤ (pos n)) (digits_number bytes)
    else option_map pos (digits_number (if nat_eq byte 43 then bytes else byte ∷ bytes))

-- the number that a text spells, or the fault that it spells none
abbrev pub gives_numeral : PlainHeap → Option ℤ → Outcome Val
gives_numeral heap (Some z) = gives_number heap (checked z)
gives_numeral heap None = raises NoNumeral heap

-- `int`
abbrev pub int_of : PlainHeap → Val → Shown → Outcome Val
int_of heap v (Text bytes) = gives_numeral heap (signed_number (trimmed bytes))
int_of heap v other = of_number heap v other (λ z. gives (Int z) heap)

-- `ord`
abbrev pub ord_of : PlainHeap → Shown → Outcome Val
ord_of heap (Text (byte ∷ [])) = gives (Int (pos byte)) heap
ord_of heap _ = raises NoCharacter heap

-- `chr`
abbrev pub character : PlainHeap → ℤ → Outcome Val
character heap (pos n) = if nat_lt n 128 then making_text heap (n ∷ []) else raises NoCode heap
character heap (negsuc n) = raises NoCode heap

-- `str`
abbrev pub call_str : PlainHeap → Val → Outcome Val
call_str heap v = after_walk heap (str_of heap v) (making_text heap)

-- `repr`
abbrev pub call_repr : PlainHeap → Val → Outcome Val
call_repr heap v = after_walk heap (repr_of heap v) (making_text heap)

-- the least and the greatest
-- ==========================

-- what follows on the best value, and a fault for two that have no order
abbrev pub gives_best : PlainHeap → Sign → (Val → Outcome Val) → Result Val Unordered → Outcome Val
gives_best heap sign next (Ok best) = next best
gives_best heap sign next (Err e) = unsupported heap (sign_method sign) e.left e.right

-- the best of values, of which there is one at least
abbrev pub best_of : PlainHeap → Sign → (Val → Outcome Val) → List Val → Outcome Val
best_of heap sign next [] = raises NothingToCompare heap
best_of heap sign next (v ∷ vs) = after_walk heap (visit (best_from heap sign (Ok v) vs)) (gives_best heap sign next)

-- a letter of a str is made
abbrev pub made_letter : PlainHeap → Shown → Val → Outcome Val
made_letter heap (Text bytes) (Str letter) = making_text heap letter
made_letter heap _ v = gives v heap

-- `min` and `max`: of the items of one argument, or of several arguments
abbrev pub call_best : PlainHeap → Sign → List Val → Outcome Val
call_best heap sign (v ∷ []) = iterating heap v (best_of heap sign (made_letter heap (shown heap v)))
call_best heap sign vs = best_of heap sign (λ best. gives best heap) vs

-- lists, tuples and types
-- =======================

-- a list of the items of an iterable
abbrev pub list_from : PlainHeap → Val → List Val → Outcome Val
list_from heap v items = with_visits (length items) (list_of heap (length items) (λ behind. kept_items behind items (shown heap v)))

-- `list`
abbrev pub call_list : PlainHeap → List Val → Outcome Val
call_list heap [] = making_list heap []
call_list heap (v ∷ _) = iterating heap v (list_from heap v)

-- a tuple of the items of an iterable
abbrev pub tuple_from : PlainHeap → Val → List Val → Outcome Val
tuple_from heap v items = with_visits (length items) (tuple_of heap (length items) (λ behind. kept_items behind items (shown heap v)))

-- the tuple of a tuple is itself
abbrev pub tuple_shown : PlainHeap → Val → Shown → Outcome Val
tuple_shown heap v (Tuple items) = gives v heap
tuple_shown heap v _ = iterating heap v (tuple_from heap v)

-- `tuple`
abbrev pub call_tuple : PlainHeap → List Val → Outcome Val
call_tuple heap [] = gives Empty heap
call_tuple heap (v ∷ _) = tuple_shown heap v (shown heap v)

-- `dict`
abbrev pub call_dict : PlainHeap → Outcome Val
call_dict heap = making heap (DictObject [] 4)

-- the type that a value is
abbrev pub named_type : Val → Option Builtin
named_type (Built b) = if is_type b then Some b else None
named_type _ = None

-- is it a number?
abbrev pub is_number : Shown → Bool
is_number (Number z) = true
is_number _ = false

-- is the exception's kind this one, or below it?
abbrev pub is_exception_of : Option Kind → Kind → Bool
is_exception_of (Some kind) other = is_under kind other
is_exception_of None other = false

-- a bool is an int too
abbrev pub is_instance : PlainHeap → Val → Builtin → Bool
is_instance heap v (builtins.Kind kind) = is_exception_of (exception_kind heap v) kind
is_instance heap v builtins.Int = is_number (shown heap v)
is_instance heap v type = bytes_eq (type_name heap v) (builtin_name type)

-- is the value an instance of one of these types?
abbrev pub instance_of : PlainHeap → Val → Option (List Builtin) → Outcome Val
instance_of heap v (Some types) = gives (Truth (list_any (is_instance heap v) types)) heap
instance_of heap v None = raises NotTypes heap

-- `isinstance`
abbrev pub call_isinstance : PlainHeap → Val → Val → Outcome Val
call_isinstance heap v types = instance_of heap v (all_of named_type (members types (shown heap types)))

-- all of them
-- ===========

-- what is never called here: print, methods, the ports' module and its functions, and too few arguments
abbrev pub elsewhere : PlainHeap → Outcome Val
elsewhere heap = gives Nil heap

-- with as many arguments as it takes
abbrev pub called : PlainHeap → Builtin → List Val → Outcome Val
called heap builtins.Len (v ∷ _) = call_len heap v (items_in heap v)
called heap builtins.Abs (v ∷ _) = call_abs heap v
called heap builtins.Bool (v ∷ _) = gives (Truth (truth heap v)) heap
called heap builtins.Range args = call_range heap args
called heap builtins.Min args = call_best heap Below args
called heap builtins.Max args = call_best heap Above args
called heap builtins.Str (v ∷ _) = call_str heap v
called heap builtins.Repr (v ∷ _) = call_repr heap v
called heap builtins.Int (v ∷ _) = int_of heap v (shown heap v)
called heap builtins.Ord (v ∷ _) = ord_of heap (shown heap v)
called heap builtins.Chr (v ∷ _) = with_number heap v (character heap)
called heap builtins.List args = call_list heap args
called heap builtins.Tuple args = call_tuple heap args
called heap builtins.Dict _ = call_dict heap
called heap builtins.IsInstance (v ∷ types ∷ _) = call_isinstance heap v types
called heap (builtins.Kind kind) args = making_exception heap kind args
called heap builtins.Len [] = elsewhere heap
called heap builtins.Abs [] = elsewhere heap
called heap builtins.Bool [] = elsewhere heap
called heap builtins.Str [] = elsewhere heap
called heap builtins.Repr [] = elsewhere heap
called heap builtins.Int [] = elsewhere heap
called heap builtins.Ord [] = elsewhere heap
called heap builtins.Chr [] = elsewhere heap
called heap builtins.IsInstance [] = elsewhere heap
called heap builtins.IsInstance (v ∷ []) = elsewhere heap
called heap builtins.Print args = elsewhere heap
called heap builtins.ListAppend args = elsewhere heap
called heap builtins.ListPop args = elsewhere heap
called heap builtins.ListInsert args = elsewhere heap
called heap builtins.ListExtend args = elsewhere heap
called heap builtins.DictGet args = elsewhere heap
called heap builtins.DictKeys args = elsewhere heap
called heap builtins.DictValues args = elsewhere heap
called heap builtins.DictItems args = elsewhere heap
called heap builtins.DictPop args = elsewhere heap
called heap builtins.StrJoin args = elsewhere heap
called heap builtins.StrFind args = elsewhere heap
called heap builtins.StrStartsWith args = elsewhere heap
called heap builtins.StrSplit args = elsewhere heap
called heap builtins.Port args = elsewhere heap
called heap builtins.PortPut args = elsewhere heap
called heap builtins.PortGet args = elsewhere heap
called heap builtins.PortCount args = elsewhere heap

-- a call of one that takes no keyword arguments: they are refused first, and then the count is judged
abbrev pub call : PlainHeap → Builtin → List Val → List (Val × Val) → Outcome Val
call heap b args [] = unless_fault heap (count_fault (counts_of b) (length args)) (called heap b args)
call heap b args (_ ∷ _) = raises NoKeywords heap
