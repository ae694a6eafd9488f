-- Libraries of files.
use Rattle.std.specs.Prelude.{◌≡◌, Some}
use Rattle.bc_machine.specs.mpy_tree.Raw as raw
use Rattle.bc_machine.specs.mpy_tree.Resolved.{ResolvedModule, Resolves}
use Rattle.bc_machine.specs.Library.{Name, Module, Holds, Library, entry_in, module_of}

-- the module is the one that a file holds
pub record IsOfFile (m : Module) : Type 0 where
  pub held : raw.Module
  pub tree : ResolvedModule
  pub resolves : Resolves held tree
  pub is : m ≡ module_of tree

-- each module of the library is one that a file holds
pub record OfFiles (library : Library) : Type 0 where
  pub files : (name : Name) (m : Module) → entry_in library name ≡ Some (Holds m) → IsOfFile m
