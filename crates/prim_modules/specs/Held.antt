-- The registered modules as their fields have them.
use Rattle.std.specs.Prelude.{◌≤◌, length}
use Rattle.std.specs.Vec.{vec_capacity}
use Rattle.prim_modules.specs.Registry.{Registry}
use Rattle.prim_modules.specs.declared.registry.Modules.TheInside.{Inside}

-- what the fields hold
abbrev pub registry_of : Inside → Registry
registry_of m = record { entries = m.entries.items; room = m.room }

-- what the fields keep: the entries fit, and the memory for them is taken
pub record IsRegistry (m : Inside) : Type 0 where
  pub fits : length m.entries.items ≤ m.room
  pub taken : m.room ≤ vec_capacity m.entries
