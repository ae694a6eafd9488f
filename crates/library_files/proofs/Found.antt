-- What a search for a file comes to.
use Rattle.std.proofs.Common.{◌≡◌, ◌<◌, ◌+◌, ℕ, false, List, length, replicate, Option, Some, None, Result, Ok, Err, refl, sym, ap, subst, ◌∙◌, arith}
use Rattle.std.specs.Prelude.{Contains, IfSome}
use Rattle.std.proofs.lemmas.List.{length-replicate}
use Rattle.mpy_base.specs.declared.limits.TheConstants.{MAX_READ_BYTES}
use Rattle.mpy_base.specs.declared.refused.Refused.{Refused}
use Rattle.mpy_base.specs.declared.refused.Refused.TheVariants as refused
use Rattle.mpy_io.specs.Files.{FileOf}
use Rattle.pkg_paths.specs.declared.search.FindFault.{FindFault}
use Rattle.pkg_paths.specs.declared.search.FindFault.TheVariants as faults
use Rattle.pkg_paths.specs.declared.search.Found.{Found}
use Rattle.pkg_paths.specs.Paths.{candidates}
use Rattle.pkg_paths.specs.Finds as finds
use Rattle.pkg_paths.specs.Finds.{NamedFile, NamesOneOf, first_there, Finds}
use Rattle.library_files.specs.declared.entry.Entry.{Entry}
use Rattle.library_files.specs.declared.entry.Entry.TheVariants as entries
use Rattle.library_files.specs.declared.limit.LoadFault.{LoadFault}
use Rattle.library_files.specs.declared.limit.LoadFault.TheVariants as loads
use Rattle.library_files.specs.Comes.{OfFiles, FileComesTo, NameComesTo}
use Rattle.library_files.specs.Ends.{is_failed}
use Rattle.library_files.specs.Search.{EntryIs, FailsAtOneOf, FaultComesTo, LongComesTo, ReadComesTo, SearchComesTo}

-- there are as many bytes as are asked for
some_long : (n : ℕ) → (bytes : List ℕ) × (n < length bytes)
some_long n = (replicate (n + 1) 0, omega (arith, length-replicate {A = ℕ} (n + 1) 0))

module _ (Comes : OfFiles) where
  -- what the name comes to
  read_is : (path bytes : List ℕ) (result : Result Entry (Refused LoadFault)) → ReadComesTo Comes path bytes result → EntryIs (FileComesTo Comes (Some (path, bytes))) result
  read_is path bytes (Ok entry) h = h
  read_is path bytes (Err (refused.Fault (loads.Past limit))) h = h
  read_is path bytes (Err (refused.Fault (loads.Failed failed))) h = tt
  read_is path bytes (Err (refused.Fault (loads.Unaccepted source))) h = h
  read_is path bytes (Err refused.NoMemory) h = tt

  fault_is : (f : FindFault) (result : Result Entry (Refused LoadFault)) (file : Option NamedFile) → FaultComesTo Comes f result → Finds file (Err (refused.Fault f))
      → EntryIs (FileComesTo Comes file) result
  fault_is (faults.TooLong path) result file comes long =
      subst (λ (z : Option NamedFile). EntryIs (FileComesTo Comes z) result) (sym long.1) (read_is path long.0 result (comes long.0 long.2))
  fault_is (faults.Failed path) result file comes found = subst (EntryIs (FileComesTo Comes file)) (sym comes) tt

  pub search_is : (r : Result (Option Found) (Refused FindFault)) (result : Result Entry (Refused LoadFault)) (file : Option NamedFile) → SearchComesTo Comes r result → Finds file r
      → EntryIs (FileComesTo Comes file) result
  search_is (Ok None) result file comes none =
      subst (λ (z : Option NamedFile). EntryIs (FileComesTo Comes z) result) (sym none) (subst (EntryIs (FileComesTo Comes None)) (sym comes) refl)
  search_is (Ok (Some found)) result file comes there =
      subst (λ (z : Option NamedFile). EntryIs (FileComesTo Comes z) result) (sym there) (read_is found.name found.bytes.items result comes)
  search_is (Err (refused.Fault f)) result file comes found = fault_is f result file comes found
  search_is (Err refused.NoMemory) result file comes found = subst (EntryIs (FileComesTo Comes file)) (sym comes) tt

  pub told_is : (told : Option FileOf) (ending base name : List ℕ) (r : Result (Option Found) (Refused FindFault)) (result : Result Entry (Refused LoadFault)) → SearchComesTo Comes r result
      → IfSome told (λ files. Finds (first_there files (candidates base name ending)) r) → IfSome told (λ files. EntryIs (NameComesTo ending Comes base files name) result)
  told_is None ending base name r result comes found = tt
  told_is (Some files) ending base name r result comes found = named result (search_is r result (first_there files (candidates base name ending)) comes found) where
    named : (result : Result Entry (Refused LoadFault)) → EntryIs (FileComesTo Comes (first_there files (candidates base name ending))) result → EntryIs (NameComesTo ending Comes base files name) result
    named (Ok entry) h = h
    named (Err (refused.Fault (loads.Past limit))) h = h
    named (Err (refused.Fault (loads.Failed failed))) h = h
    named (Err (refused.Fault (loads.Unaccepted source))) h = h
    named (Err refused.NoMemory) h = h

  -- whether a read failed
  read_failed : (path bytes : List ℕ) (result : Result Entry (Refused LoadFault)) → ReadComesTo Comes path bytes result → is_failed result ≡ false
  read_failed path bytes (Ok entry) h = refl
  read_failed path bytes (Err (refused.Fault (loads.Past limit))) h = refl
  read_failed path bytes (Err (refused.Fault (loads.Failed failed))) h = absurd h
  read_failed path bytes (Err (refused.Fault (loads.Unaccepted source))) h = refl
  read_failed path bytes (Err refused.NoMemory) h = refl

  fault_failed : (f : FindFault) (result : Result Entry (Refused LoadFault)) → FaultComesTo Comes f result → is_failed result ≡ finds.is_failed (Err (refused.Fault f))
  fault_failed (faults.TooLong path) result comes = read_failed path (some_long MAX_READ_BYTES).0 result (comes (some_long MAX_READ_BYTES).0 (some_long MAX_READ_BYTES).1)
  fault_failed (faults.Failed path) result comes = ap is_failed comes

  pub search_failed : (r : Result (Option Found) (Refused FindFault)) (result : Result Entry (Refused LoadFault)) → SearchComesTo Comes r result → is_failed result ≡ finds.is_failed r
  search_failed (Ok None) result comes = ap is_failed comes
  search_failed (Ok (Some found)) result comes = read_failed found.name found.bytes.items result comes
  search_failed (Err (refused.Fault f)) result comes = fault_failed f result comes
  search_failed (Err refused.NoMemory) result comes = ap is_failed comes

  -- the file at which it failed
  read_at : (paths : List (List ℕ)) (path bytes : List ℕ) (result : Result Entry (Refused LoadFault)) → Contains paths path → ReadComesTo Comes path bytes result → FailsAtOneOf Comes paths result
  read_at paths path bytes (Ok entry) one h = tt
  read_at paths path bytes (Err (refused.Fault (loads.Past limit))) one h = h
  read_at paths path bytes (Err (refused.Fault (loads.Failed failed))) one h = absurd h
  read_at paths path bytes (Err (refused.Fault (loads.Unaccepted source))) one h =
      (subst (Contains paths) (sym h.0) one, bytes, subst (λ (z : List ℕ). Comes z bytes (Err source.fault)) (sym h.0) h.1)
  read_at paths path bytes (Err refused.NoMemory) one h = tt

  fault_at : (paths : List (List ℕ)) (f : FindFault) (result : Result Entry (Refused LoadFault)) → NamesOneOf paths (Err (refused.Fault f)) → FaultComesTo Comes f result → FailsAtOneOf Comes paths result
  fault_at paths (faults.TooLong path) result one comes = read_at paths path (some_long MAX_READ_BYTES).0 result one (comes (some_long MAX_READ_BYTES).0 (some_long MAX_READ_BYTES).1)
  fault_at paths (faults.Failed path) result one comes = subst (FailsAtOneOf Comes paths) (sym comes) one

  pub search_at : (paths : List (List ℕ)) (r : Result (Option Found) (Refused FindFault)) (result : Result Entry (Refused LoadFault)) → NamesOneOf paths r → SearchComesTo Comes r result
      → FailsAtOneOf Comes paths result
  search_at paths (Ok None) result one comes = subst (FailsAtOneOf Comes paths) (sym comes) tt
  search_at paths (Ok (Some found)) result one comes = read_at paths found.name found.bytes.items result one comes
  search_at paths (Err (refused.Fault f)) result one comes = fault_at paths f result one comes
  search_at paths (Err refused.NoMemory) result one comes = subst (FailsAtOneOf Comes paths) (sym comes) tt
