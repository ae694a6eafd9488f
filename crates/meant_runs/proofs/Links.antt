-- The machine's library of a program's files has the program's modules.
use Rattle.std.proofs.Common.{◌≡◌, Option, Some, None, sym, ap, ◌∙◌}
use Rattle.trans_laws.specs.bc_scheme.mpy_tree.Raw as raw
use Rattle.trans_laws.specs.bc_scheme.mpy_tree.Resolved.{ResolvedModule, Resolves}
use Rattle.library_runs.specs.bc_library.Shelf.{Shelf}
use Rattle.library_runs.specs.vm_frames.bc_machine.Library as libraries
use Rattle.library_runs.specs.vm_frames.bc_machine.Library.{Library, module_of}
use Rattle.trans_laws.specs.bc_scheme.py_meaning.Tree.{Name}
use Rattle.trans_laws.specs.bc_scheme.py_meaning.Program.{Unit, Entry, Runs, Refused, Program, entry_in}
use Rattle.trans_laws.specs.bc_scheme.Link.{IsModuleOf, IsEntryOf, Links}
use Rattle.trans_laws.proofs.Alike.{same_module, fits_module}
use Rattle.library_runs.specs.vm_starting.Programs.{FindsAll}
use Rattle.meant_runs.specs.Units.{HasUnit, HasEntry, AreUnits}

module _ (one : (m : raw.Module) (a b : ResolvedModule) → Resolves m a → Resolves m b → a ≡ b) (shelf : Shelf) (library : Library) (finds : FindsAll shelf library) where
  unit_found : (name : Name) (unit : Unit) → HasUnit shelf name unit → IsEntryOf (Some (Runs unit)) (libraries.entry_in library name)
  unit_found name unit h =
      let found = finds.modules name h.place h.file h.found h.held in
      let file = h.is_file in
      let tree : found.0 ≡ file.tree = one h.file found.0 file.tree found.1 file.resolves in
      let same : module_of file.want ≡ module_of file.tree = same_module file.want file.tree (fits_module file.want file.tree file.stored file.fits) in
      (file.want, file.is_module, found.2 ∙ ap (λ (m : libraries.Module). Some (libraries.Holds m)) (ap module_of tree ∙ sym same))

  entry_found : (name : Name) (entry : Option Entry) → HasEntry shelf name entry → IsEntryOf entry (libraries.entry_in library name)
  entry_found name (Some (Runs unit)) h = unit_found name unit h
  entry_found name (Some Refused) h = finds.refused name h
  entry_found name None h = finds.others name h

  pub links : (program : Program) → AreUnits program shelf → Links program library
  links program units = record {
    main = unit_found program.main_name program.main units.main;
    entries = λ name other. entry_found name (entry_in program.entries name) (units.entries name other);
  }
