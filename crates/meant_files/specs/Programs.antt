-- The programs of manifests' sources, and the libraries of their images, of which one lies over the other.
use Rattle.std.specs.Prelude.{◌≡◌, ℕ, List, [], ◌∷◌, ◌++◌, Some}
use Rattle.std.specs.List.{AllZip}
use Rattle.meant_runs.specs.mpy_base.World.{PortState}
use Rattle.meant_runs.specs.mpy_io.Files.{FileOf}
use Rattle.image_open.specs.bc_library.Shelf.{Shelf, no_entries}
use Rattle.image_open.specs.Opens.{Opens, with_entries}
use Rattle.frozen_files.specs.image_freeze.declared.named.Named.{Named}
use Rattle.frozen_files.specs.image_freeze.Frozen.{entries_of}
use Rattle.frozen_files.specs.Sources.{HoldsSources}
use Rattle.frozen_files.specs.manifest_lines.declared.entry.Entry as manifests
use Rattle.manifest_files.specs.Entries.{AreEntries}
use Rattle.tr_source.specs.bc_scheme.py_effects.Ends.{Run}
use Rattle.tr_source.specs.bc_scheme.py_meaning.Tree.{Name}
use Rattle.tr_source.specs.bc_scheme.py_meaning.Program.{Source, Single, Entry, Runs, Program, entry_in}
use Rattle.meant_files.specs.Readings.{IsReading}
use Rattle.meant_runs.specs.Runs.{MeansRun}

-- a manifest, and the files that it and its sources are read from
pub record Sources : Type 0 where
  pub files : FileOf
  pub manifest : List ℕ

-- programs
-- ========

-- the source that the text at the entry's path is read as, at its level and under its stored name, stands under the entry's name
pub record IsSourceOf (files : FileOf) (entry : manifests.Entry) (named : Name × Entry) : Type 0 where
  pub text : List ℕ
  pub there : files entry.path ≡ Some text
  pub source : Source
  pub is_reading : IsReading entry.opt text entry.source source
  pub named_is : named ≡ (entry.«module», Runs (Single source))

-- what the manifest's sources are read as, each under its module's name, in order
pub record AreSources (sources : Sources) (named : List (Name × Entry)) : Type 0 where
  pub entries : List manifests.Entry
  pub are : AreEntries sources.files sources.manifest entries
  pub each : AllZip (IsSourceOf sources.files) entries named

-- what the sources of these manifests are read as: those of the last manifest, then those in front of it
abbrev pub AreRead : List Sources → List (Name × Entry) → Type 0
AreRead [] named = named ≡ []
AreRead (sources ∷ below) named =
    (first : List (Name × Entry)) × (others : List (Name × Entry)) × (named ≡ first ++ others) × AreRead below first × AreSources sources others

-- the program of these manifests' sources, of which the one of the name `main` is the main unit
pub record IsProgramOf (all : List Sources) (main : List ℕ) (program : Program) : Type 0 where
  pub are : AreRead all program.entries
  pub main_is : entry_in program.entries main ≡ Some (Runs program.main)
  pub main_name_is : program.main_name ≡ main

-- the run of n steps says what these sources mean, in room for this many cells and bytes
pub record MeansManifests (all : List Sources) (main : List ℕ) (cells bytes : ℕ) (ports : List PortState) (n : ℕ) (r : Run) : Type 0 where
  pub program : Program
  pub is_program : IsProgramOf all main program
  pub means : MeansRun program cells bytes ports n r

-- images
-- ======

-- the bytes are an image over the library below, of the modules of the manifest's sources
pub record IsImageOfSources (below : Shelf) (sources : Sources) (bytes : List ℕ) : Type 0 where
  pub modules : List Named
  pub held : HoldsSources (Some sources.files) sources.manifest modules
  pub opens : Opens below bytes (with_entries below (entries_of modules))

-- the file under the name is such an image
pub record HoldsImageOf (below : Shelf) (sources : Sources) (files : FileOf) (name : List ℕ) : Type 0 where
  pub bytes : List ℕ
  pub is : IsImageOfSources below sources bytes
  pub written : files name ≡ Some bytes

-- the library is opened of images of these manifests' sources, of which each lies over those behind it, and the last one over nothing
abbrev pub IsLibraryOf : List Sources → Shelf → Type 0
IsLibraryOf [] shelf = shelf ≡ no_entries
IsLibraryOf (sources ∷ all) shelf = (below : Shelf) × (bytes : List ℕ) × IsLibraryOf all below × IsImageOfSources below sources bytes × Opens below bytes shelf
