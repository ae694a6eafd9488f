-- Files that are made of a program's units.
use Rattle.std.specs.Prelude.{◌≡◌, ℕ, List, [], ◌∷◌, Option, Some}
use Rattle.meant_files.specs.mpy_io.Files.{FileOf}
use Rattle.meant_files.specs.py_meaning.Program.{Source, Unit, Single, Merge, Units, Part, Parts}
use Rattle.meant_files.specs.Readings.{IsReading}
use Rattle.meant_files.specs.Built.{IsBuilt}

-- the file under the name is made of the unit, by compiling and merging, or is a translation of its source, whoever made it
pub record HoldsMade (files : FileOf) (name : List ℕ) (unit : Unit) : Type 0 where
  pub bytes : List ℕ
  pub there : files name ≡ Some bytes
  pub built : IsBuilt unit bytes

-- the files under the names are made of the units, one of each, in order
abbrev pub HoldMade : FileOf → List (List ℕ) → Units → Type 0
HoldMade files names (Part unit) = (name : List ℕ) × (names ≡ name ∷ []) × HoldsMade files name unit
HoldMade files names (Parts unit units) =
    (name : List ℕ) × (others : List (List ℕ)) × (names ≡ name ∷ others) × HoldsMade files name unit × HoldMade files others units

-- the folder has the file of the source that its text under the name is read as, at the level and under the stored name
pub record MakesOfSource (level : ℕ) (files : FileOf) (name stored written : List ℕ) (new : Option FileOf) : Type 0 where
  pub text : List ℕ
  pub there : files name ≡ Some text
  pub source : Source
  pub is_reading : IsReading level text stored source
  pub now : FileOf
  pub new_is : new ≡ Some now
  pub made : HoldsMade now written (Single source)

-- the folder has the merged file of the units
pub record MakesOfUnits (units : Units) (written : List ℕ) (new : Option FileOf) : Type 0 where
  pub now : FileOf
  pub new_is : new ≡ Some now
  pub made : HoldsMade now written (Merge units)
