-- Makings of the objects of an exception.
use Rattle.std.specs.Prelude.{ℕ, ◌^◌, ◌<◌, Result, Ok, Err}
use Rattle.mpy_base.specs.declared.room.NoRoom.{NoRoom}
use Rattle.prim_types.specs.arena_heap.declared.value.Value.{Value}
use Rattle.prim_types.specs.prim_faults.declared.fault.Fault.{Fault}
use Rattle.prim_types.specs.prim_faults.declared.fault.Fault.TheVariants as faults
use Rattle.prim_types.specs.prim_faults.declared.stop.Stop.{Stop}
use Rattle.prim_types.specs.prim_faults.declared.stop.Stop.TheVariants as stops
use Rattle.prim_types.specs.prim_operators.Sources.{IsOtherThan}

-- what a making answers, as the answer of a primitive's call
abbrev pub as_value : {A : Type 0} → (A → Value) → Result A NoRoom → Result Value Stop
as_value value (Ok a) = Ok (value a)
as_value value (Err room) = Err (stops.Full room)

-- a fault whose name isn't the text of this number
abbrev pub IsApart : ℕ → Fault → Type 0
IsApart n (faults.UnknownKeyword name) = IsOtherThan n name
IsApart n (faults.RepeatedKeyword name) = IsOtherThan n name
IsApart n (faults.NotAStr name) = IsOtherThan n name
IsApart n _ = Unit {0}

-- the counts of a fault fit 32 bits
abbrev pub HasCounts : Fault → Type 0
HasCounts (faults.WrongCount takes given) = (takes < 2 ^ 32) × (given < 2 ^ 32)
HasCounts (faults.Missing count) = count < 2 ^ 32
HasCounts (faults.TooFew least given) = (least < 2 ^ 32) × (given < 2 ^ 32)
HasCounts (faults.TooMany most given) = (most < 2 ^ 32) × (given < 2 ^ 32)
HasCounts (faults.UnpacksMore have) = have < 2 ^ 32
HasCounts (faults.UnpacksFewer want) = want < 2 ^ 32
HasCounts _ = Unit {0}
