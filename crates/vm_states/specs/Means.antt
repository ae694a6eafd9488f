-- What the machine runs for a library of files: its library, its tables and its plans.
use Rattle.std.specs.Prelude.{◌≡◌, ℕ, Some, None, slice_get}
use Rattle.vm_fetching.specs.mpy_tree.File.{IsModule}
use Rattle.vm_fetching.specs.mpy_tree.Resolved.{ResolvedModule, Resolves}
use Rattle.vm_fetching.specs.bc_verify.Verified.{IsVerified}
use Rattle.frame_exits.specs.bc_labels.Positions.{CodeList, Listed}
use Rattle.frame_exits.specs.bc_library.declared.fault.Member.TheVariants as members
use Rattle.frame_exits.specs.bc_library.Shelf.{Shelf, Named, member_of}
use Rattle.bc_progress.specs.bc_machine.Library as machine
use Rattle.bc_progress.specs.bc_machine.Library.{Name, Holds, Library, entry_in, module_of}
use Rattle.bc_progress.specs.Plans.{Plans, Follows}
use Rattle.vm_fetching.specs.bc_rows.declared.row.Row.{Row}
use Rattle.vm_fetching.specs.bc_rows.Rows.{IsRow}
use Rattle.vm_fetching.specs.Fetches.{AreOf}
use Rattle.vm_fetching.specs.frame_moves.Shown.{Tables}

-- a library of files, the machine's library, what numbers stand for, and how each code is verified
pub record Program : Type 0 where
  pub shelf : Shelf
  pub library : Library
  pub tables : Tables
  pub plans : Plans

module _ (p : Program) where
  -- the module with the number i is verified, and under its name the machine's library holds the module of its tree. The
  -- instructions of its codes start where the tables have it
  pub record IsMeant (i : ℕ) (n : Named) : Type 0 where
    pub is_module : IsModule n.held
    pub is_verified : IsVerified n.held
    pub name_is : p.tables.module_name i ≡ n.name
    pub tree : ResolvedModule
    pub resolves : Resolves n.held tree
    pub held : entry_in p.library n.name ≡ Some (Holds (module_of tree))
    pub starts_are : (k : ℕ) (row : Row) (l : CodeList) → IsRow p.shelf i k row → Listed row.instructions.now l → p.tables.starts i k ≡ l.offsets

  -- the machine's library has the modules, the names that were refused, and no others
  pub record Means : Type 0 where
    pub constants : AreOf p.shelf p.tables
    pub follows : Follows p.plans p.library
    pub modules : (i : ℕ) (n : Named) → slice_get p.shelf.modules i ≡ Some n → IsMeant i n
    pub refused : (name : Name) → member_of p.shelf name ≡ Some members.Refused → entry_in p.library name ≡ Some machine.Refused
    pub others : (name : Name) → member_of p.shelf name ≡ None → entry_in p.library name ≡ None
