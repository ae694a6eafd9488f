-- A call of one port of many.
use Rattle.std.specs.Prelude.{◌≡◌, ℕ, List, Some, map, slice_get, slice_set}
use Rattle.mpy_io.specs.mpy_base.World.{PortState}
use Rattle.mpy_io.specs.Ports.{PortView}

-- the port of this number was called, as the relation says, and every other port stayed
pub record CallsOne (old new : List PortView) (number : ℕ) (Call : PortView → PortView → Type 0) : Type 0 where
  pub before : PortView
  pub after : PortView
  pub here : slice_get old number ≡ Some before
  pub others : new ≡ slice_set old number after
  pub call : Call before after

-- each port tells its contents, and these are they
abbrev pub Tell : List PortView → List PortState → Type 0
Tell views ports = map (λ view. view.told) views ≡ map (λ port. Some port) ports

-- the port of this number was called, as the relation says of its contents, and every other port tells what it told
pub record CallsTold (old : List PortState) (new : List PortView) (number : ℕ) (Call : PortState → PortState → Type 0) : Type 0 where
  pub before : PortState
  pub after : PortState
  pub here : slice_get old number ≡ Some before
  pub others : Tell new (slice_set old number after)
  pub call : Call before after
