-- Files of a program's units, and libraries that hold them.
use Rattle.std.specs.Prelude.{◌≡◌, ℕ, List, [], ◌∷◌, Option, Some, None, codes}
use Rattle.trans_laws.specs.bc_scheme.mpy_tree.Raw.{Module}
use Rattle.trans_laws.specs.bc_scheme.mpy_tree.Resolved.{ResolvedModule, Resolves}
use Rattle.library_runs.specs.bc_library.declared.fault.Member.TheVariants as members
use Rattle.library_runs.specs.bc_library.Shelf.{Shelf, member_of, module_at}
use Rattle.trans_laws.specs.bc_scheme.py_meaning.Tree.{Name}
use Rattle.trans_laws.specs.bc_scheme.py_meaning.Program.{Unit, Units, Part, Parts, Entry, Runs, Refused, Program, entry_in}
use Rattle.trans_laws.specs.bc_scheme.Link.{IsModuleOf}
use Rattle.trans_laws.specs.trans_parts.Comparing.{FitsTree}

-- the file's module resolves to a tree that fits the unit's: the translation of its source, or the merge of its parts' trees. So it is
-- that tree, but for slots and handler entries, of which it may have more
pub record IsUnitFile (unit : Unit) (file : Module) : Type 0 where
  pub tree : ResolvedModule
  pub resolves : Resolves file tree
  pub want : ResolvedModule
  pub is_module : IsModuleOf unit want
  pub stored : want.source ≡ tree.source
  pub fits : FitsTree want.code tree.code

-- files of the units of a merge, one for each, in order
abbrev pub AreUnitFiles : Units → List Module → Type 0
AreUnitFiles (Part unit) files = (file : Module) × (files ≡ file ∷ []) × IsUnitFile unit file
AreUnitFiles (Parts unit units) files =
    (file : Module) × (others : List Module) × (files ≡ file ∷ others) × IsUnitFile unit file × AreUnitFiles units others

-- under the name the library has a file of the unit
pub record HasUnit (shelf : Shelf) (name : Name) (unit : Unit) : Type 0 where
  pub place : ℕ
  pub found : member_of shelf name ≡ Some (members.Module place)
  pub file : Module
  pub held : module_at shelf place ≡ Some file
  pub is_file : IsUnitFile unit file

-- what a program's entries have under a name, the library has there: a unit's file, a refused name, or nothing
abbrev pub HasEntry : Shelf → Name → Option Entry → Type 0
HasEntry shelf name (Some (Runs unit)) = HasUnit shelf name unit
HasEntry shelf name (Some Refused) = member_of shelf name ≡ Some members.Refused
HasEntry shelf name None = member_of shelf name ≡ None

-- The library has the program's units: the main unit under the main module's name, and its entries under every name. Where the main
-- module is `__main__`, that name's entry doesn't matter, since it is never looked for
pub record AreUnits (program : Program) (shelf : Shelf) : Type 0 where
  pub main : HasUnit shelf program.main_name program.main
  pub entries : (name : Name) → (name ≡ codes "__main__" → program.main_name ≡ codes "__main__" → ⊥) → HasEntry shelf name (entry_in program.entries name)
