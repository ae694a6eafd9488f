-- The operands of a call as their fields have them.
use Rattle.std.specs.Prelude.{◌≤◌}
use Rattle.std.specs.Vec.{vec_capacity}
use Rattle.frame_calls.specs.Operands.{Given}
use Rattle.frame_calls.specs.declared.operands.Operands.TheInside.{Inside}

-- what the fields hold
abbrev pub given_of : Inside → Given
given_of o = record { args = o.args.items; keys = o.keys.items; room = o.room }

-- the vectors have room for the operands
pub record HasRoom (o : Inside) : Type 0 where
  pub args : o.room ≤ vec_capacity o.args
  pub keys : o.room ≤ vec_capacity o.keys
