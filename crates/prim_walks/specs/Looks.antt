-- What a look at a value of an arena shows.
use Rattle.std.specs.Prelude.{◌≡◌, ◌≢◌, ℕ, pos, List, length, map, Option}
use Rattle.arena_objects.specs.arena_heap.declared.value.Value.{Value}
use Rattle.arena_objects.specs.arena_heap.declared.value.StrNo.{StrNo}
use Rattle.arena_objects.specs.arena_heap.declared.value.ConstNo.{ConstNo}
use Rattle.py_primitives.specs.mpy_base.World.{Heap, ADict, IsA, pairs_at}
use Rattle.arena_objects.specs.arena_heap.Values.{IsSmall}
use Rattle.arena_objects.specs.Iterables.{items_in}
use Rattle.py_primitives.specs.py_values.Shown.{Shown, Nothing, Number, Text, Tuple, Items, Pairs, Range, Other}
use Rattle.prim_walks.specs.declared.look.Look.{Look}
use Rattle.prim_walks.specs.declared.look.Look.TheVariants as looks
use Rattle.prim_walks.specs.Plain.{plain, plain_pair}

module _ (texts : StrNo → Option (List ℕ)) (tuples : ConstNo → Option (List Value)) (heap : Heap Value ℕ) (v : Value) where
  -- the same of the meaning's value
  abbrev pub seen : Look → Shown
  seen looks.Nothing = Nothing
  seen (looks.Number z) = Number z
  seen (looks.Text s) = Text s.now
  seen (looks.Tuple count) = Tuple (map (plain texts tuples) (items_in tuples heap v))
  seen (looks.Items count) = Items (map (plain texts tuples) (items_in tuples heap v))
  seen (looks.Pairs d) = Pairs (map (plain_pair texts tuples) (pairs_at heap d.cell))
  seen (looks.Range start stop step) = Range start stop step
  seen looks.Other = Other

  -- what the parts of a look are
  abbrev pub IsLook : Look → Type 0
  IsLook (looks.Tuple count) = count ≡ length (items_in tuples heap v)
  IsLook (looks.Items count) = count ≡ length (items_in tuples heap v)
  IsLook (looks.Pairs d) = IsA heap.objects ADict d.cell
  IsLook (looks.Range start stop step) = IsSmall start × IsSmall stop × IsSmall step × (step ≢ pos 0)
  IsLook _ = Unit {0}
