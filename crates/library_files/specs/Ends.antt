-- What loading answers.
use Rattle.std.specs.Prelude.{◌≡◌, ℕ, Bool, true, false, List, Contains, Some, Result, Ok, Err, slice_get, ⊤}
use Rattle.mpy_base.specs.declared.refused.Refused.{Refused}
use Rattle.mpy_base.specs.declared.refused.Refused.TheVariants.{Fault, NoMemory}
use Rattle.mpy_reader.specs.mpy_tree.File.{IsModule}
use Rattle.mpy_reader.specs.mpy_tree.Raw.{Module}
use Rattle.bc_library.specs.bc_verify.Verified.{IsVerified}
use Rattle.pkg_paths.specs.Plain.{IsPlain}
use Rattle.pkg_paths.specs.Paths.{candidates}
use Rattle.bc_library.specs.Shelf.{Named, Shelf, module_at}
use Rattle.library_files.specs.declared.limit.LoadFault.{LoadFault}
use Rattle.library_files.specs.declared.limit.LoadFault.TheVariants as faults
use Rattle.library_files.specs.Comes.{OfFiles, ModuleFiles, ending}
use Rattle.library_files.specs.Loads.{Loading, Loaded, Past, Unaccepted, main_name}

-- loading ends as the answer says: a read that failed, and want of memory, say nothing
abbrev pub EndsIn : (Ends : Loading → Type 0) → Result Shelf (Refused LoadFault) → Type 0
EndsIn Ends (Ok library) = Ends (Loaded library)
EndsIn Ends (Err (Fault (faults.Past limit))) = Ends (Past limit)
EndsIn Ends (Err (Fault (faults.Failed failed))) = ⊤
EndsIn Ends (Err (Fault (faults.Unaccepted source))) = Ends (Unaccepted source)
EndsIn Ends (Err NoMemory) = ⊤

-- did a read fail outside?
abbrev pub is_failed : {A : Type 0} → Result A (Refused LoadFault) → Bool
is_failed (Ok done) = false
is_failed (Err (Fault (faults.Past limit))) = false
is_failed (Err (Fault (faults.Failed failed))) = true
is_failed (Err (Fault (faults.Unaccepted source))) = false
is_failed (Err NoMemory) = false

-- the file whose read failed is one that a plain name may have in the base folder; and so is one that isn't accepted, whatever
-- the folder tells
abbrev pub FailsAmong : {A : Type 0} → (suffix : List ℕ) → OfFiles → (base : List ℕ) → Result A (Refused LoadFault) → Type 0
FailsAmong suffix Comes base (Ok done) = ⊤
FailsAmong suffix Comes base (Err (Fault (faults.Past limit))) = ⊤
FailsAmong suffix Comes base (Err (Fault (faults.Failed failed))) = (name : List ℕ) × IsPlain name × Contains (candidates base name suffix) failed.path
FailsAmong suffix Comes base (Err (Fault (faults.Unaccepted source))) =
    (name : List ℕ) × IsPlain name × Contains (candidates base name suffix) source.path × (bytes : List ℕ) × Comes source.path bytes (Err source.fault)
FailsAmong suffix Comes base (Err NoMemory) = ⊤

-- the file of a module whose read failed is one that a plain name may have in the base folder; none is unaccepted
abbrev pub FailsInBase : {A : Type 0} → (base : List ℕ) → Result A (Refused LoadFault) → Type 0
FailsInBase base result = FailsAmong ending ModuleFiles base result

-- the first module is the main one
abbrev pub BeginsWith : Module → Shelf → Type 0
BeginsWith main shelf = slice_get shelf.modules 0 ≡ Some (record { name = main_name; held = main })

-- no two modules have one name, and each is one that a file may hold, and verified
pub record HoldsModules (shelf : Shelf) : Type 0 where
  pub distinct : (i k : ℕ) (a b : Named) → slice_get shelf.modules i ≡ Some a → slice_get shelf.modules k ≡ Some b → a.name ≡ b.name → i ≡ k
  pub are_modules : (i : ℕ) (m : Module) → module_at shelf i ≡ Some m → IsModule m
  pub are_verified : (i : ℕ) (m : Module) → module_at shelf i ≡ Some m → IsVerified m
