-- The queue of the pending positions: a heap whose greatest item is the least position.
use Rattle.std.specs.Prelude.{◌≡◌, ℕ, List}
use Rattle.std.specs.BinaryHeap.{IsHeap}
use Rattle.std.specs.List.{Contains}
use Rattle.std.specs.Ordering.{nat_cmp}
use Rattle.std.specs.declared.cmp.Ordering.{Ordering}
use Rattle.std.specs.declared.cmp.Reverse.{Reverse}
use Rattle.bc_shapes.specs.Shape.{At}
use Rattle.bc_flow.specs.Verified.{Table, IsPending}

-- the order of the queue: the greater item is the lesser position
abbrev pub by_position : Reverse ℕ → Reverse ℕ → Ordering
by_position a b = nat_cmp b.0 a.0

-- the position is in the queue
pub record Has (queue : List (Reverse ℕ)) (p : ℕ) : Type 0 where
  pub item : Reverse ℕ
  pub there : Contains queue item
  pub is : item.0 ≡ p

-- each pending position is in the queue
pub record Queued (t : Table) (queue : List (Reverse ℕ)) : Type 0 where
  pub ordered : IsHeap by_position queue
  pub each : (p : ℕ) (x : At) → IsPending t p x → Has queue p
