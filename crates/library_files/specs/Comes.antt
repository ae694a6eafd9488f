-- What a name comes to: from files of modules, and from files of any kind.
use Rattle.std.specs.Prelude.{◌≡◌, ℕ, List, length, codes, Option, Some, None, Result, Ok, Err, ⊤}
use Rattle.mpy_base.specs.declared.refused.Refused.{Refused}
use Rattle.mpy_base.specs.declared.refused.Refused.TheVariants.{Fault, NoMemory}
use Rattle.mpy_base.specs.declared.source.SourceFault.{SourceFault}
use Rattle.mpy_io.specs.Files.{FileOf}
use Rattle.mpy_reader.specs.mpy_tree.Raw.{Module}
use Rattle.mpy_reader.specs.mpy_tree.File.{IsFile}
use Rattle.bc_library.specs.bc_verify.Verified.{IsVerified}
use Rattle.pkg_paths.specs.Paths.{candidates}
use Rattle.pkg_paths.specs.Finds.{NamedFile, first_there}
use Rattle.library_files.specs.declared.entry.Entry.{Entry}
use Rattle.library_files.specs.declared.entry.Entry.TheVariants as entries
use Rattle.library_files.specs.declared.limit.UnacceptedSource.{UnacceptedSource}

-- names, by the files of their paths
-- ==================================

-- what a file of a path and of these bytes comes to: an entry, or the fault of a source that isn't accepted
abbrev pub OfFiles : Type 1
OfFiles = (path bytes : List ℕ) → Result Entry SourceFault → Type 0

-- what a name comes to: an entry, or a source that isn't accepted
abbrev pub OfNames : Type 1
OfNames = (name : List ℕ) → Result Entry UnacceptedSource → Type 0

-- a name without a file is absent, and another is what its file is
abbrev pub FileComesTo : OfFiles → Option NamedFile → Result Entry UnacceptedSource → Type 0
FileComesTo Comes None (Ok entry) = entry ≡ entries.Absent
FileComesTo Comes None (Err source) = ⊥
FileComesTo Comes (Some file) (Ok entry) = Comes file.0 file.1 (Ok entry)
FileComesTo Comes (Some file) (Err source) = (source.path ≡ file.0) × Comes file.0 file.1 (Err source.fault)

-- what a name comes to in the base folder, where its files have this ending and come to these
abbrev pub NameComesTo : (ending : List ℕ) → OfFiles → (base : List ℕ) → FileOf → OfNames
NameComesTo ending Comes base files name answer = FileComesTo Comes (first_there files (candidates base name ending)) answer

-- what reading a file answers; want of memory says nothing
abbrev pub Answers : (Comes : Result Entry SourceFault → Type 0) → Result Entry (Refused SourceFault) → Type 0
Answers Comes (Ok entry) = Comes (Ok entry)
Answers Comes (Err (Fault fault)) = Comes (Err fault)
Answers Comes (Err NoMemory) = ⊤

-- files of modules
-- ================

-- the bytes are a file of the module, which is verified
pub record IsVerifiedFile (bytes : List ℕ) (m : Module) : Type 0 where
  pub file : IsFile bytes m
  pub verified : IsVerified m

-- what a file's bytes come to: the module that they are a verified file of, with their number; else they are refused
abbrev pub BytesComeTo : (bytes : List ℕ) → Result Entry SourceFault → Type 0
BytesComeTo bytes (Ok (entries.Held m size)) = IsVerifiedFile bytes m × (size ≡ length bytes)
BytesComeTo bytes (Ok entries.Refused) = (m : Module) → IsVerifiedFile bytes m → ⊥
BytesComeTo bytes (Ok entries.Absent) = ⊥
BytesComeTo bytes (Err fault) = ⊥

-- a path comes to what the file's bytes come to
abbrev pub ModuleFiles : OfFiles
ModuleFiles path bytes answer = BytesComeTo bytes answer

-- the ending of the files of modules
abbrev pub ending : List ℕ
ending = codes ".mpy"

-- what the file of the name in the base folder comes to
abbrev pub ComesTo : FileOf → (base : List ℕ) → OfNames
ComesTo files base = NameComesTo ending ModuleFiles base files

-- what verifying a module of a file of this size comes to
abbrev pub ModuleComesTo : Module → (size : ℕ) → Result Entry SourceFault → Type 0
ModuleComesTo m size (Ok (entries.Held held count)) = (held ≡ m) × IsVerified m × (count ≡ size)
ModuleComesTo m size (Ok entries.Refused) = IsVerified m → ⊥
ModuleComesTo m size (Ok entries.Absent) = ⊥
ModuleComesTo m size (Err fault) = ⊥
