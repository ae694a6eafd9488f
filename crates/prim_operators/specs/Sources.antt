-- What joins and repeats are made of.
use Rattle.std.specs.Prelude.{◌≢◌, ℕ, List, ◌++◌, Option}
use Rattle.std.specs.List.{repeat}
use Rattle.prim_faults.specs.mpy_base.World.{Heap, Objects}
use Rattle.prim_faults.specs.arena_heap.declared.value.Value.{Value}
use Rattle.prim_faults.specs.arena_heap.declared.value.Value.TheVariants as values
use Rattle.prim_faults.specs.arena_heap.declared.value.StrNo.{StrNo}
use Rattle.prim_faults.specs.arena_heap.declared.value.ConstNo.{ConstNo}
use Rattle.prim_faults.specs.arena_objects.Iterables.{items_in, spelled}
use Rattle.prim_faults.specs.Faults.{IsKnown, IsKnownStr}
use Rattle.prim_operators.specs.declared.sources.Source.{Source}
use Rattle.prim_operators.specs.declared.sources.Source.TheVariants as sources

module _ (texts : StrNo → Option (List ℕ)) (heap : Heap Value ℕ) where
  -- the bytes of a new str
  abbrev pub source_bytes : Source → List ℕ
  source_bytes (sources.Joined left right) = spelled texts heap left ++ spelled texts heap right
  source_bytes (sources.Repeated times of) = repeat times (spelled texts heap of)

module _ (tuples : ConstNo → Option (List Value)) (heap : Heap Value ℕ) where
  -- the items of a new tuple or list
  abbrev pub source_items : Source → List Value
  source_items (sources.Joined left right) = items_in tuples heap left ++ items_in tuples heap right
  source_items (sources.Repeated times of) = repeat times (items_in tuples heap of)

module _ (texts : StrNo → Option (List ℕ)) (tuples : ConstNo → Option (List Value)) (objects : Objects Value ℕ) where
  -- each part is a str that is told
  abbrev pub AreStrs : Source → Type 0
  AreStrs (sources.Joined left right) = IsKnownStr texts tuples objects left × IsKnownStr texts tuples objects right
  AreStrs (sources.Repeated times of) = IsKnownStr texts tuples objects of

  -- each part is known
  abbrev pub AreKnown : Source → Type 0
  AreKnown (sources.Joined left right) = IsKnown texts tuples objects left × IsKnown texts tuples objects right
  AreKnown (sources.Repeated times of) = IsKnown texts tuples objects of

-- a value that isn't the text of this number
abbrev pub IsOtherThan : ℕ → Value → Type 0
IsOtherThan n (values.Text t) = t.cell ≢ n
IsOtherThan n _ = Unit {0}

-- no part is the text of this number
abbrev pub IsApart : ℕ → Source → Type 0
IsApart n (sources.Joined left right) = IsOtherThan n left × IsOtherThan n right
IsApart n (sources.Repeated times of) = IsOtherThan n of

-- a value that isn't the object of this number, whose items it could have
abbrev pub IsElsewhere : ℕ → Value → Type 0
IsElsewhere n (values.List l) = l.cell ≢ n
IsElsewhere n (values.Tuple t) = t.cell ≢ n
IsElsewhere n (values.Dict d) = d.cell ≢ n
IsElsewhere n (values.Range r) = r.cell ≢ n
IsElsewhere n _ = Unit {0}

-- no part is the object of this number, whose items it could have
abbrev pub AreElsewhere : ℕ → Source → Type 0
AreElsewhere n (sources.Joined left right) = IsElsewhere n left × IsElsewhere n right
AreElsewhere n (sources.Repeated times of) = IsElsewhere n of
