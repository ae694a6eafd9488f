-- Names that are asked for, and what their files are.
use Rattle.std.specs.Prelude.{◌≡◌, ◌≢◌, ℕ, List, ◌++◌, Contains, Option, Some, None, codes}
use Rattle.mpy_io.specs.Files.{FileOf}
use Rattle.mpy_tree.specs.Raw.{Module}
use Rattle.py_meaning.specs.Tree.{Name}
use Rattle.py_meaning.specs.Program.{Unit, Single, Merge, Units, Part, Parts, Entry, Runs, Refused}
use Rattle.library_files.specs.pkg_paths.Finds.{NamedFile, first_there}
use Rattle.library_files.specs.pkg_paths.Paths.{candidates}
use Rattle.library_files.specs.Asked.{asked_for}
use Rattle.library_files.specs.Comes.{IsVerifiedFile, ending}
use Rattle.meant_files.specs.Imported.{source_imports}
use Rattle.meant_files.specs.Built.{IsBuilt}

-- the names that a unit imports: those of its source, or of its parts in order
abbrev mutual
  pub unit_imports : Unit → List Name
  unit_imports (Single source) = source_imports source
  unit_imports (Merge units) = part_imports units

  pub part_imports : Units → List Name
  part_imports (Part unit) = unit_imports unit
  part_imports (Parts unit units) = unit_imports unit ++ part_imports units

-- an import of the unit asks for the name, which isn't the main module's own: that one is there already
abbrev pub AsksFor : Unit → Name → Type 0
AsksFor unit name =
    (name ≢ codes "__main__") × ((imported : Name) × Contains (unit_imports unit) imported × Contains (asked_for imported) name)

-- the file of the name in the base folder: that of a package before a plain one
abbrev pub file_of : FileOf → (base : List ℕ) → Name → Option NamedFile
file_of files base name = first_there files (candidates base name ending)

-- what a program has under the name by its file: a unit that the file is made of, a refusal where it is none of a verified
-- module, and nothing where there is no file
abbrev pub HoldsEntry : FileOf → (base : List ℕ) → Name → Option Entry → Type 0
HoldsEntry files base name (Some (Runs unit)) =
    (file : NamedFile) × (file_of files base name ≡ Some file) × IsBuilt unit file.1
HoldsEntry files base name (Some Refused) =
    (file : NamedFile) × (file_of files base name ≡ Some file) × ((m : Module) → IsVerifiedFile file.1 m → ⊥)
HoldsEntry files base name None = file_of files base name ≡ None

-- the main unit asks for the name, or a unit does that the file of such a name is made of
pub data IsAskedFor (files : FileOf) (base : List ℕ) (main : Unit) : Name → Type 0 where
  by_main : (name : Name) → AsksFor main name → IsAskedFor files base main name
  by_file : (asking name : Name) (unit : Unit) → IsAskedFor files base main asking
      → HoldsEntry files base asking (Some (Runs unit)) → AsksFor unit name → IsAskedFor files base main name
