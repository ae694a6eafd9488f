-- How runs end, and where a run is, as states of the machine.
use Rattle.std.specs.Prelude.{◌≡◌, ℕ, List, Option, Some, None}
use Rattle.mpy_base.specs.Val.{PlainWorld}
use Rattle.frame_moves.specs.py_effects.Effect as effects
use Rattle.frame_moves.specs.py_effects.Ends as plain
use Rattle.frame_moves.specs.bc_machine.Library.{Item, Library}
use Rattle.frame_moves.specs.bc_machine.State.{State, Halted}
use Rattle.frame_moves.specs.prim_raising.declared.place.Place.{Place}
use Rattle.frame_moves.specs.prim_raising.Places.{plain_place}
use Rattle.frame_moves.specs.prim_faults.Sights.{sight_of as sight}
use Rattle.prim_modules.specs.Registry.{Registry, plain_modules}
use Rattle.frame_moves.specs.vm_frames.Calls.{Call}
use Rattle.frame_moves.specs.Shown.{Tables, running_of, step_of}
use Rattle.frame_exits.specs.declared.ends.End.{End}
use Rattle.frame_exits.specs.declared.ends.End.TheVariants as ends

-- how a run ended, as the machine has it
abbrev pub end_of : End → plain.End
end_of ends.Ended = plain.Ended
end_of (ends.Raised x) = plain.Raised x.cell
end_of (ends.Memory room) = plain.Memory room

module _ (tables : Tables) where
  -- a place, by the texts of its names
  abbrev pub place_of : Place → effects.Place
  place_of place = plain_place (sight tables.texts tables.tuples) place

  -- the world with these modules registered
  abbrev pub with_modules : PlainWorld → Registry → PlainWorld
  with_modules w registry = record w { modules = plain_modules tables.texts tables.tuples registry }

  -- the calls run, or the run has ended
  abbrev pub state_of : Option End → List Call → PlainWorld → State
  state_of None calls w = running_of tables 0 calls w
  state_of (Some end) calls w = Halted (end_of end) w

  -- the machine's step of the instruction at the place comes from the calls to the state, in each library and whatever was paid
  abbrev pub StepsTo : effects.Place → PlainWorld → Item → List Call → State → Type 0
  StepsTo place w item calls state = (library : Library) (paid : ℕ) → step_of tables library place paid calls w item ≡ state
