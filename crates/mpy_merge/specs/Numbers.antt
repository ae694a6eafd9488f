-- How a line names a fault.
use Rattle.std.specs.Prelude.{ℕ, List, Option, Some, None, codes}
use Rattle.mpy_merge.specs.declared.fault.MergeFault.{MergeFault}
use Rattle.mpy_merge.specs.declared.fault.MergeFault.TheVariants.{Empty, TooManyNames, TooMany, TooFar, TooBig}

-- the number of the fault, which the line tells
abbrev pub number_of : MergeFault → ℕ
number_of Empty = 1
number_of TooManyNames = 2
number_of TooMany = 3
number_of (TooFar place) = 4
number_of TooBig = 5

-- the name of the fault, which the line tells
abbrev pub name_of : MergeFault → List ℕ
name_of Empty = codes "Empty"
name_of TooManyNames = codes "TooManyNames"
name_of TooMany = codes "TooMany"
name_of (TooFar place) = codes "TooFar"
name_of TooBig = codes "TooBig"

-- the place of the module that it tells, counted from 0
abbrev pub place_of : MergeFault → Option ℕ
place_of Empty = None
place_of TooManyNames = None
place_of TooMany = None
place_of (TooFar place) = Some place
place_of TooBig = None
