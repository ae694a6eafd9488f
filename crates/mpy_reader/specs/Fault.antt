-- How a line names the fault of a file.
use Rattle.std.specs.Prelude.{ℕ, List, codes, Option, Some, None}
use Rattle.mpy_reader.specs.declared.fault.FileFault.{FileFault}
use Rattle.mpy_reader.specs.declared.fault.FileFault.TheVariants.{BadHeader, Incompatible, Truncated, BadQstr, BadObject, BadCode, BadPrelude, Trailing, TooBig}

-- the number of the fault, which the line tells
abbrev pub number_of : FileFault → ℕ
number_of BadHeader = 1
number_of Incompatible = 2
number_of Truncated = 3
number_of BadQstr = 4
number_of (BadObject tag) = 5
number_of BadCode = 6
number_of BadPrelude = 7
number_of Trailing = 8
number_of TooBig = 9

-- the name of the fault, which the line tells
abbrev pub name_of : FileFault → List ℕ
name_of BadHeader = codes "BadHeader"
name_of Incompatible = codes "Incompatible"
name_of Truncated = codes "Truncated"
name_of BadQstr = codes "BadQstr"
name_of (BadObject tag) = codes "BadObject"
name_of BadCode = codes "BadCode"
name_of BadPrelude = codes "BadPrelude"
name_of Trailing = codes "Trailing"
name_of TooBig = codes "TooBig"

-- the tag that a fault of an object names
abbrev pub tag_of : FileFault → Option ℕ
tag_of (BadObject tag) = Some tag
tag_of fault = None
