-- Libraries of files that the machine runs, and what it finds in them.
use Rattle.std.specs.Prelude.{◌≡◌, ℕ, ◌≤◌, List, ◌++◌, map, Some, None, slice_get}
use Rattle.bc_resolved.specs.bc_verify.mpy_tree.File.{IsModule}
use Rattle.bc_resolved.specs.bc_verify.mpy_tree.Raw.{Module}
use Rattle.bc_resolved.specs.bc_verify.mpy_tree.Resolved.{ResolvedModule, Resolves}
use Rattle.bc_resolved.specs.bc_verify.Verified.{IsVerified}
use Rattle.vm_states.specs.bc_library.declared.fault.Member.TheVariants as members
use Rattle.vm_states.specs.bc_library.Shelf.{Shelf, Named, member_of, module_at}
use Rattle.frame_calls.specs.bc_machine.Library as machine
use Rattle.frame_calls.specs.bc_machine.Library.{Name, Holds, Library, entry_in, code_at, Code, module_of}
use Rattle.vm_states.specs.bc_library.Greatest.{IsGreatestIn, ShelfHas}
use Rattle.bc_resolved.specs.Stored.{Stored, Kept, Refused, IsLibraryOf}
use Rattle.vm_states.specs.Means.{Program, Means}

-- no two modules have one name, and each is one that a file holds, and verified
pub record IsRunnable (shelf : Shelf) : Type 0 where
  pub distinct : (i k : ℕ) (a b : Named) → slice_get shelf.modules i ≡ Some a → slice_get shelf.modules k ≡ Some b → a.name ≡ b.name → i ≡ k
  pub are_modules : (i : ℕ) (m : Module) → module_at shelf i ≡ Some m → IsModule m
  pub are_verified : (i : ℕ) (m : Module) → module_at shelf i ≡ Some m → IsVerified m

-- what a library stores: its modules by their names, and behind them the refused names
abbrev pub stored_of : Shelf → List (Name × Stored)
stored_of shelf = map (λ (n : Named). (n.name, Kept n.held)) shelf.modules ++ map (λ (name : Name). (name, Refused)) shelf.refused

-- the machine's library finds by a name the module of the tree of the file's module, or that it was refused, or nothing
pub record FindsAll (shelf : Shelf) (library : Library) : Type 0 where
  pub modules : (name : Name) (i : ℕ) (m : Module) → member_of shelf name ≡ Some (members.Module i) → module_at shelf i ≡ Some m
      → (tree : ResolvedModule) × Resolves m tree × (entry_in library name ≡ Some (Holds (module_of tree)))
  pub refused : (name : Name) → member_of shelf name ≡ Some members.Refused → entry_in library name ≡ Some machine.Refused
  pub others : (name : Name) → member_of shelf name ≡ None → entry_in library name ≡ None

-- the plans have no more room than the library's codes take
abbrev pub FitsGreatest : Program → Type 0
FitsGreatest p =
    (n_state n_exc : ℕ) → IsGreatestIn (ShelfHas p.shelf) n_state n_exc → (name : Name) (number : ℕ) (code : Code) → code_at p.library name number ≡ Some code
    → ((p.plans name number).n_state ≤ n_state) × ((p.plans name number).n_exc ≤ n_exc)

-- the program runs this library of files
pub record IsProgramOf (shelf : Shelf) (p : Program) : Type 0 where
  pub shelf_is : p.shelf ≡ shelf
  pub library_is : IsLibraryOf (stored_of shelf) p.library
  pub means : Means p
  pub rooms : FitsGreatest p
