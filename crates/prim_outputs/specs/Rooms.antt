-- What is said of a making that doesn't fit.
use Rattle.std.specs.Prelude.{ℕ, Bool, true, false, List, ◌++◌, codes}
use Rattle.std.specs.Fmt.{decimal}
use Rattle.mpy_base.specs.declared.room.NoRoom.{NoRoom}

-- what was asked for, and the end of the line
abbrev pub unit_text : Bool → List ℕ
unit_text true = codes " bytes\n"
unit_text false = codes " cells\n"

-- what the making asked for, and what is used of which size, in bytes of texts or in cells
abbrev pub room_line : NoRoom → List ℕ
room_line room =
    codes "MemoryError: asked " ++ decimal room.asked ++ codes " used " ++ decimal room.used ++ codes " size " ++ decimal room.size ++ unit_text room.bytes
