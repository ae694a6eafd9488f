-- Places where exceptions are raised.
use Rattle.mpy_base.specs.Val.{PlainWorld}
use Rattle.prim_types.specs.py_primitives.Outcome.{Stop, Raises, Full}
use Rattle.py_effects.specs.Effect as effects
use Rattle.py_effects.specs.Effect.{Fails, Filled, fault_at}
use Rattle.prim_raising.specs.declared.place.Place.{Place}
use Rattle.prim_types.specs.prim_faults.Sights.{Sight}

-- a place as the meaning has it
abbrev pub plain_place : Sight → Place → effects.Place
plain_place see place = record { file = see.name place.file; line = place.line; name = see.name place.name }

-- what an effect without a value gives at its place
abbrev pub stopped_at : effects.Place → PlainWorld → Stop → Fails
stopped_at place w (Raises fault) = fault_at place w fault
stopped_at place w (Full e) = Filled e w
