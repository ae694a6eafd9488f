-- What is told of a constant tuple.
use Rattle.std.specs.Prelude.{◌<◌, ◌^◌, List, length}
use Rattle.mpy_base.specs.declared.limits.TheConstants.{MAX_DEPTH}
use Rattle.arena_heap.specs.declared.value.Value.{Value}
use Rattle.arena_heap.specs.declared.value.ConstNo.{ConstNo}
use Rattle.arena_heap.specs.Constants.{IsItemOf, NestsWithin}
use Rattle.bc_library.specs.Constants.{items_at, text_at}
use Rattle.bc_library.specs.Fine.{Each}
use Rattle.bc_library.specs.Shelf.{Shelf}

-- its items are few and formed, and tuples nest in it to no great depth
pub record IsTold (shelf : Shelf) (c : ConstNo) (values : List Value) : Type 0 where
  pub few : length values < 2 ^ 31
  pub nests : NestsWithin (items_at shelf) MAX_DEPTH c
  pub formed : Each (IsItemOf (text_at shelf) (items_at shelf) c) values
