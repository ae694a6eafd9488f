-- What a str joins, and parts of strs.
use Rattle.std.specs.Prelude.{ℕ, zero, suc, ◌+◌, ◌≤◌, ◌^◌, List, [], ◌∷◌, ◌++◌, length, map, take, drop, Option, Some, None, All}
use Rattle.std.specs.Option.{option_map}
use Rattle.mpy_base.specs.World.{Heap, AText, IsA}
use Rattle.mpy_base.specs.Val.{Val}
use Rattle.prim_builtins.specs.arena_heap.declared.value.Value.{Value}
use Rattle.prim_builtins.specs.arena_heap.declared.value.Value.TheVariants as values
use Rattle.prim_builtins.specs.arena_heap.declared.value.StrNo.{StrNo}
use Rattle.prim_builtins.specs.arena_heap.declared.value.ConstNo.{ConstNo}
use Rattle.prim_builtins.specs.arena_objects.Keys.{AllTold}
use Rattle.prim_builtins.specs.arena_objects.Iterables.{items_in, or_nothing, spelled}
use Rattle.prim_builtins.specs.py_values.Shown.{PlainHeap, shown}
use Rattle.prim_builtins.specs.py_primitives.Iterables as plain_items
use Rattle.prim_builtins.specs.py_primitives.Methods.{str_in}
use Rattle.prim_builtins.specs.prim_faults.Faults.{IsKnown, IsKnownStr}
use Rattle.prim_builtins.specs.prim_operators.Sources.{IsOtherThan}
use Rattle.prim_str_methods.specs.declared.cuts.Cut.{Cut}

-- the bytes of each of these that is a str
abbrev pub strs_in : PlainHeap → List Val → List (Option (List ℕ))
strs_in heap vs = map (λ v. str_in (shown heap v)) vs

-- those of an iterable's items. Other values have none
abbrev pub strs_of : PlainHeap → Val → List (Option (List ℕ))
strs_of heap v = strs_in heap (or_nothing (plain_items.items_in heap v))

-- all of them, if all are strs
abbrev pub all_strs : List (Option (List ℕ)) → Option (List (List ℕ))
all_strs [] = Some []
all_strs (Some part ∷ parts) = option_map (λ others. part ∷ others) (all_strs parts)
all_strs (None ∷ parts) = None

-- how many are looked at, up to the first that is no str
abbrev pub looked_at : List (Option (List ℕ)) → ℕ
looked_at [] = 0
looked_at (Some part ∷ parts) = suc (looked_at parts)
looked_at (None ∷ parts) = 1

module _ (texts : StrNo → Option (List ℕ)) (heap : Heap Value ℕ) where
  -- the bytes of a part of a str
  abbrev pub cut_bytes : Cut → List ℕ
  cut_bytes cut = take cut.len (drop cut.start (spelled texts heap cut.of))

  -- each byte of a str, and else the bytes of each item
  abbrev pub parts_in : (ConstNo → Option (List Value)) → Value → List (List ℕ)
  parts_in tuples (values.Str s) = map (λ byte. byte ∷ []) (spelled texts heap (values.Str s))
  parts_in tuples (values.Text t) = map (λ byte. byte ∷ []) (spelled texts heap (values.Text t))
  parts_in tuples v = map (spelled texts heap) (items_in tuples heap v)

-- a part of a str that is known
pub record IsCut (texts : StrNo → Option (List ℕ)) (tuples : ConstNo → Option (List Value)) (heap : Heap Value ℕ) (cut : Cut) : Type 0 where
  pub str : IsKnownStr texts tuples heap.objects cut.of
  pub within : cut.start + cut.len ≤ length (spelled texts heap cut.of)
  pub few : cut.start + cut.len ≤ 2 ^ 32

-- bytes with others in the place of some of them
abbrev pub written : List ℕ → ℕ → List ℕ → List ℕ
written bytes from others = take from bytes ++ (others ++ drop (from + length others) bytes)

-- nothing in front of the first part, and the separator in front of the others
abbrev pub in_front : ℕ → List ℕ → List ℕ
in_front zero separator = []
in_front (suc at) separator = separator

-- what joins the strs of an iterable in a text: the text is neither the separator nor one of those
pub record CanJoin (texts : StrNo → Option (List ℕ)) (tuples : ConstNo
    → Option (List Value)) (heap : Heap Value ℕ) (t : ℕ) (separator : Cut) (over : Value) : Type 0 where
  pub text : IsA heap.objects AText t
  pub cut : IsCut texts tuples heap separator
  pub known : IsKnown texts tuples heap.objects over
  pub strs : All (IsKnownStr texts tuples heap.objects) (items_in tuples heap over)
  pub all_told : AllTold texts tuples heap.objects
  pub other_separator : IsOtherThan t separator.of
  pub other_over : IsOtherThan t over
  pub other_strs : All (IsOtherThan t) (items_in tuples heap over)
