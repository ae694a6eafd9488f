-- What searching the file of a name comes to, by what files come to.
use Rattle.std.specs.Prelude.{◌≡◌, ℕ, ◌<◌, List, length, Contains, Option, Some, None, Result, Ok, Err, ⊤}
use Rattle.mpy_base.specs.declared.limits.TheConstants.{MAX_READ_BYTES}
use Rattle.mpy_base.specs.declared.refused.Refused.{Refused}
use Rattle.mpy_base.specs.declared.refused.Refused.TheVariants.{Fault, NoMemory}
use Rattle.pkg_paths.specs.declared.search.FindFault.{FindFault}
use Rattle.pkg_paths.specs.declared.search.FindFault.TheVariants as finds
use Rattle.pkg_paths.specs.declared.search.Found.{Found}
use Rattle.library_files.specs.declared.entry.Entry.{Entry}
use Rattle.library_files.specs.declared.entry.Entry.TheVariants as entries
use Rattle.library_files.specs.declared.limit.LoadFault.{LoadFault}
use Rattle.library_files.specs.declared.limit.LoadFault.TheVariants.{Past, Failed, Unaccepted}
use Rattle.library_files.specs.declared.limit.UnacceptedSource.{UnacceptedSource}
use Rattle.library_files.specs.Comes.{OfFiles}

-- what the file comes to, a fault with the file's path
abbrev pub ReadComesTo : OfFiles → (path bytes : List ℕ) → Result Entry (Refused LoadFault) → Type 0
ReadComesTo Comes path bytes (Ok entry) = Comes path bytes (Ok entry)
ReadComesTo Comes path bytes (Err (Fault (Past limit))) = ⊥
ReadComesTo Comes path bytes (Err (Fault (Failed failed))) = ⊥
ReadComesTo Comes path bytes (Err (Fault (Unaccepted source))) = (source.path ≡ path) × Comes path bytes (Err source.fault)
ReadComesTo Comes path bytes (Err NoMemory) = ⊤

-- a file that is too long is read as each such file is
abbrev pub LongComesTo : OfFiles → (path : List ℕ) → Result Entry (Refused LoadFault) → Type 0
LongComesTo Comes path result = (bytes : List ℕ) → MAX_READ_BYTES < length bytes → ReadComesTo Comes path bytes result

-- what a search comes to that ended with a fault
abbrev pub FaultComesTo : OfFiles → FindFault → Result Entry (Refused LoadFault) → Type 0
FaultComesTo Comes (finds.TooLong path) result = LongComesTo Comes path result
FaultComesTo Comes (finds.Failed path) result = result ≡ Err (Fault (Failed (record { path = path })))

-- what a search comes to
abbrev pub SearchComesTo : OfFiles → Result (Option Found) (Refused FindFault) → Result Entry (Refused LoadFault) → Type 0
SearchComesTo Comes (Ok None) result = result ≡ Ok entries.Absent
SearchComesTo Comes (Ok (Some found)) result = ReadComesTo Comes found.name found.bytes.items result
SearchComesTo Comes (Err (Fault fault)) result = FaultComesTo Comes fault result
SearchComesTo Comes (Err NoMemory) result = result ≡ Err NoMemory

-- what a name comes to; a read that failed, and want of memory, say nothing
abbrev pub EntryIs : (Comes : Result Entry UnacceptedSource → Type 0) → Result Entry (Refused LoadFault) → Type 0
EntryIs Comes (Ok entry) = Comes (Ok entry)
EntryIs Comes (Err (Fault (Past limit))) = ⊥
EntryIs Comes (Err (Fault (Failed failed))) = ⊤
EntryIs Comes (Err (Fault (Unaccepted source))) = Comes (Err source)
EntryIs Comes (Err NoMemory) = ⊤

-- the file whose read failed, or that isn't accepted, is one of these, and passes no limit
abbrev pub FailsAtOneOf : OfFiles → List (List ℕ) → Result Entry (Refused LoadFault) → Type 0
FailsAtOneOf Comes paths (Ok entry) = ⊤
FailsAtOneOf Comes paths (Err (Fault (Past limit))) = ⊥
FailsAtOneOf Comes paths (Err (Fault (Failed failed))) = Contains paths failed.path
FailsAtOneOf Comes paths (Err (Fault (Unaccepted source))) = Contains paths source.path × (bytes : List ℕ) × Comes source.path bytes (Err source.fault)
FailsAtOneOf Comes paths (Err NoMemory) = ⊤
