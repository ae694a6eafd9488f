-- The numbers and names of the faults of manifests.
use Rattle.std.specs.Prelude.{ℕ, List, codes}
use Rattle.manifest_files.specs.declared.fault.ManifestFault.{ManifestFault}
use Rattle.manifest_files.specs.declared.fault.ManifestFault.TheVariants.{BadCall, Loop, Twice, Absent, Required, Deep, TooMany, ReadFault}

-- the number of the fault, which the line tells
abbrev pub number_of : ManifestFault → ℕ
number_of (BadCall name line) = 1
number_of (Loop name) = 2
number_of (Twice name) = 3
number_of (Absent name) = 4
number_of (Required name) = 5
number_of (Deep name) = 6
number_of TooMany = 7
number_of (ReadFault name) = 8

-- the name of the fault, which the line tells
abbrev pub name_of : ManifestFault → List ℕ
name_of (BadCall name line) = codes "BadCall"
name_of (Loop name) = codes "Loop"
name_of (Twice name) = codes "Twice"
name_of (Absent name) = codes "Absent"
name_of (Required name) = codes "Required"
name_of (Deep name) = codes "Deep"
name_of TooMany = codes "TooMany"
name_of (ReadFault name) = codes "ReadFault"
