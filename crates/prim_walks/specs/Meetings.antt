-- What a look at two values leaves to be compared.
use Rattle.std.specs.Prelude.{◌≡◌, ℕ, Bool, List, length, map, Option}
use Rattle.arena_objects.specs.arena_heap.declared.value.Value.{Value}
use Rattle.arena_objects.specs.arena_heap.declared.value.StrNo.{StrNo}
use Rattle.arena_objects.specs.arena_heap.declared.value.ConstNo.{ConstNo}
use Rattle.py_primitives.specs.mpy_base.World.{Heap, ADict, IsA, pairs_at}
use Rattle.py_primitives.specs.mpy_base.Val.{Val}
use Rattle.arena_objects.specs.Iterables.{items_in}
use Rattle.py_primitives.specs.py_values.Equality.{Walk, answers, all_equal, all_found}
use Rattle.prim_walks.specs.declared.meeting.Meeting.{Meeting}
use Rattle.prim_walks.specs.declared.meeting.Meeting.TheVariants as meetings
use Rattle.prim_walks.specs.Plain.{plain, plain_pair, plain_heap}

module _ (texts : StrNo → Option (List ℕ)) (tuples : ConstNo → Option (List Value)) (heap : Heap Value ℕ) (a b : Value) where
  -- the walk that is left
  abbrev pub met : (Val → Val → Walk Bool) → Meeting → Walk Bool
  met equal (meetings.Decided same) = answers same
  met equal (meetings.Items count) =
      all_equal (plain_heap texts tuples heap) equal (map (plain texts tuples) (items_in tuples heap a)) (map (plain texts tuples) (items_in tuples heap b))
  met equal (meetings.Pairs d e) =
      all_found (plain_heap texts tuples heap) equal (map (plain_pair texts tuples) (pairs_at heap d.cell))
      (map (plain_pair texts tuples) (pairs_at heap e.cell))

  -- as many items as there are on either side, or two dicts
  abbrev pub IsMeeting : Meeting → Type 0
  IsMeeting (meetings.Decided same) = Unit {0}
  IsMeeting (meetings.Items count) = (count ≡ length (items_in tuples heap a)) × (count ≡ length (items_in tuples heap b))
  IsMeeting (meetings.Pairs d e) = IsA heap.objects ADict d.cell × IsA heap.objects ADict e.cell
