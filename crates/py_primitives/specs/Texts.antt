-- The texts of values: what print and str write, and the reprs that values have inside others. Each value that is written
-- is one visit.
use Rattle.std.specs.Prelude.{ℕ, zero, suc, ◌/◌, ◌%◌, ℤ, pos, Bool, true, false, not, ◌&&◌, ◌||◌, List, [], ◌∷◌, ◌++◌, Option}
use Rattle.std.specs.Prelude.{Some, None, nat_eq, nat_lt, codes, if◌then◌else◌}
use Rattle.std.specs.List.{list_any, flat_map, join_by}
use Rattle.std.specs.Fmt.{digit_glyph, signed_decimal}
use Rattle.std.specs.Ordering.{int_eq}
use Rattle.py_values.specs.mpy_base.declared.builtin.Builtin.{Builtin}
use Rattle.py_values.specs.mpy_base.declared.builtin.Builtin.TheVariants as builtins
use Rattle.py_values.specs.mpy_base.declared.kind.Kind.{Kind}
use Rattle.py_values.specs.mpy_base.declared.limits.TheConstants.{MAX_WALK_DEPTH}
use Rattle.py_values.specs.mpy_base.Kind.{kind_name}
use Rattle.py_values.specs.mpy_base.World.{Object, ListObject, TupleObject, TextObject, DictObject, FunctionObject}
use Rattle.py_values.specs.mpy_base.World.{ExceptionObject, MethodObject, RangeObject, ModuleObject, object}
use Rattle.py_values.specs.mpy_base.Val.{Val, Nil, Truth, Int, Str, Fixed, Empty, Built, At, vals}
use Rattle.py_values.specs.Shown.{PlainHeap, Shown, Tuple, shown}
use Rattle.py_values.specs.Names.{builtin_name}
use Rattle.py_values.specs.Equality.{Walk, answers, goes_too_deep, visit}
use Rattle.py_primitives.specs.Walks.{and_then, walk_map, walk_all}
use Rattle.py_primitives.specs.Builtins.{is_type}

-- strs
-- ====

-- 34 is the quotation mark and 39 the apostrophe
abbrev pub quote_of : List ℕ → ℕ
quote_of bytes = if list_any (nat_eq 39) bytes && not (list_any (nat_eq 34) bytes) then 34 else 39

-- two hexadecimal digits
abbrev pub two_digits : ℕ → List ℕ
two_digits byte = digit_glyph false (byte / 16) ∷ digit_glyph false (byte % 16) ∷ []

-- a byte that has no sign of its own: \n, \r, \t, or \x and two digits. 92 is the backslash
abbrev pub coded : ℕ → List ℕ
coded byte =
    if nat_eq byte 10 then 92 ∷ 110 ∷ []
    else (if nat_eq byte 13 then 92 ∷ 114 ∷ []
    else (if nat_eq byte 9 then 92 ∷ 116 ∷ [] else 92 ∷ 120 ∷ two_digits byte))

-- a byte between such quotes
abbrev pub escaped : ℕ → ℕ → List ℕ
escaped quote byte =
    if nat_eq byte quote || nat_eq byte 92 then 92 ∷ byte ∷ []
    else (if nat_lt byte 32 || nat_eq byte 127 then coded byte else byte ∷ [])

-- the repr of a str
abbrev pub quoted : List ℕ → List ℕ
quoted bytes = quote_of bytes ∷ flat_map (escaped (quote_of bytes)) bytes ++ quote_of bytes ∷ []

-- values without others in them
-- =============================

-- the text of a bool
abbrev pub truth_text : Bool → List ℕ
truth_text true = codes "True"
truth_text false = codes "False"

-- the text of a built-in
abbrev pub builtin_text : Builtin → List ℕ
builtin_text builtins.Port = codes "<module 'port'>"
builtin_text b = if is_type b then codes "<class '" ++ builtin_name b ++ codes "'>" else codes "<function>"

-- the text of a range; a step of 1 is left out
abbrev pub range_text : (start stop step : ℤ) → List ℕ
range_text start stop step =
    codes "range(" ++ signed_decimal start ++ codes ", " ++ signed_decimal stop
    ++ (if int_eq step (pos 1) then codes ")" else codes ", " ++ signed_decimal step ++ codes ")")

-- a str by itself, or between quotes
abbrev pub str_text : Bool → List ℕ → List ℕ
str_text true bytes = bytes
str_text false bytes = quoted bytes

-- values with others in them
-- ==========================

-- texts with a separator between them
abbrev pub joined : List ℕ → List (List ℕ) → List ℕ
joined separator texts = join_by (λ text. text) separator texts

-- the items of a tuple
abbrev pub items_of_tuple : Shown → List Val
items_of_tuple (Tuple items) = items
items_of_tuple _ = []

-- write gives the str of a value inside another where its first argument is true, and else its repr
module _ (heap : PlainHeap) (write : Bool → Val → Walk (List ℕ)) where
  -- the reprs of values, between two texts
  abbrev pub texts_between : List ℕ → List ℕ → List Val → Walk (List ℕ)
  texts_between open_text close_text vs =
      walk_map (λ texts. open_text ++ joined (codes ", ") texts ++ close_text) (walk_all (write false) vs)

  -- a tuple of one has a comma
  abbrev pub tuple_text : List Val → Walk (List ℕ)
  tuple_text (v ∷ []) = texts_between (codes "(") (codes ",)") (v ∷ [])
  tuple_text vs = texts_between (codes "(") (codes ")") vs

  -- the text of a dict's pair
  abbrev pub pair_text : Val × Val → Walk (List ℕ)
  pair_text pair = and_then (write false (pair.0)) (λ key. walk_map (λ v. key ++ codes ": " ++ v) (write false (pair.1)))

  -- the text of a dict
  abbrev pub dict_text : List (Val × Val) → Walk (List ℕ)
  dict_text pairs = walk_map (λ texts. codes "{" ++ joined (codes ", ") texts ++ codes "}") (walk_all pair_text pairs)

  -- the str of an exception: empty, that of its only argument, or the repr of the tuple of its arguments
  abbrev pub exception_str : Val → List Val → Walk (List ℕ)
  exception_str args [] = answers []
  exception_str args (v ∷ []) = write true v
  exception_str args vs = write false args

  -- the str or the repr of an exception
  abbrev pub exception_text : Bool → Kind → Val → Walk (List ℕ)
  exception_text true kind args = exception_str args (items_of_tuple (shown heap args))
  exception_text false kind args = texts_between (kind_name kind ++ codes "(") (codes ")") (items_of_tuple (shown heap args))

  -- the text of an object
  abbrev pub object_text : Bool → Option (Object Val (List ℕ)) → Walk (List ℕ)
  object_text raw (Some (ListObject items room)) = texts_between (codes "[") (codes "]") items
  object_text raw (Some (TupleObject items)) = tuple_text items
  object_text raw (Some (TextObject bytes)) = answers (str_text raw bytes)
  object_text raw (Some (DictObject pairs room)) = dict_text pairs
  object_text raw (Some (FunctionObject name module_name code names defaults)) = answers (codes "<function " ++ name ++ codes ">")
  object_text raw (Some (ExceptionObject kind args file line name)) = exception_text raw kind args
  object_text raw (Some (MethodObject value method)) = answers (codes "<bound_method>")
  object_text raw (Some (RangeObject start stop step)) = answers (range_text start stop step)
  object_text raw (Some (ModuleObject name names)) = answers (codes "<module '" ++ name ++ codes "'>")
  object_text raw None = answers []

  -- the text of a value, by those of the values in it
  abbrev pub written : Bool → Val → Walk (List ℕ)
  written raw Nil = answers (codes "None")
  written raw (Truth b) = answers (truth_text b)
  written raw (Int z) = answers (signed_decimal z)
  written raw (Str bytes) = answers (str_text raw bytes)
  written raw (Fixed items) = tuple_text (vals items)
  written raw Empty = tuple_text []
  written raw (Built b) = answers (builtin_text b)
  written raw (At n) = object_text raw (object heap.objects n)

-- a text that may go that number of levels deep
abbrev pub write_within : PlainHeap → ℕ → Bool → Val → Walk (List ℕ)
write_within heap zero raw v = goes_too_deep
write_within heap (suc depth) raw v = visit (written heap (write_within heap depth) raw v)

-- what str and print write of a value
unfoldable pub str_of : PlainHeap → Val → Walk (List ℕ)
str_of heap v = write_within heap MAX_WALK_DEPTH true v

-- what repr writes of a value
unfoldable pub repr_of : PlainHeap → Val → Walk (List ℕ)
repr_of heap v = write_within heap MAX_WALK_DEPTH false v
