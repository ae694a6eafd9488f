-- What a port in memory holds.
use Rattle.std.specs.Prelude.{ℕ, Some}
use Rattle.mpy_base.specs.World.{PortState}
use Rattle.mpy_io.specs.Ports.{PortView}

-- a port in memory, with its counts of faults
pub record ScriptState : Type 0 where
  pub port : PortState
  -- how many calls failed, and how many puts failed for want of memory
  pub faults : ℕ
  pub starved : ℕ

-- what a port in memory tells
abbrev pub script_view : ScriptState → PortView
script_view script = record { told = Some script.port; count = script.faults }
