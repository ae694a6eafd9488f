-- The library that files of a program load to has the program's units.
use Rattle.std.proofs.Common.{◌≡◌, ℕ, List, length, Option, Some, None, Ok, refl, sym, subst}
use Rattle.std.specs.Prelude.{IsSome}
use Rattle.meant_runs.specs.mpy_io.Files.{FileOf}
use Rattle.tr_source.specs.bc_scheme.mpy_tree.File.{IsFile}
use Rattle.tr_source.specs.bc_scheme.mpy_tree.Raw.{Module}
use Rattle.bc_resolved.specs.bc_verify.Verified.{IsVerified}
use Rattle.frozen_files.specs.pkg_paths.Finds.{NamedFile, first_there}
use Rattle.frozen_files.specs.pkg_paths.Paths.{candidates}
use Rattle.image_open.specs.bc_library.declared.fault.Member.{Member}
use Rattle.image_open.specs.bc_library.declared.fault.Member.TheVariants as members
use Rattle.image_open.specs.bc_library.Shelf.{Shelf, no_entries, member_of, module_at}
use Rattle.tr_source.specs.bc_scheme.py_meaning.Program.{Unit, Entry, Runs, Refused, Program, entry_in}
use Rattle.frozen_files.specs.library_files.declared.entry.Entry.TheVariants as entries
use Rattle.frozen_files.specs.library_files.declared.limit.Limit.{Limit}
use Rattle.frozen_files.specs.library_files.Comes.{ComesTo, FileComesTo, ModuleFiles, ending}
use Rattle.frozen_files.specs.library_files.Loads.{Loaded, LoadsBy, LoadsFrom, limit_of, main_name}
use Rattle.meant_runs.specs.Units.{IsUnitFile, HasUnit, HasEntry, AreUnits}
use Rattle.meant_files.specs.Built.{IsBuilt, IsBuiltEntry, IsBuiltProgram}
use Rattle.meant_files.proofs.Came.{Came, CameAs, came}

module _ (a_file : (unit : Unit) (bytes : List ℕ) → IsBuilt unit bytes → (m : Module) × IsFile bytes m)
    (is_verified : (unit : Unit) (bytes : List ℕ) (m : Module) → IsBuilt unit bytes → IsFile bytes m → IsVerified m)
    (is_unit : (unit : Unit) (bytes : List ℕ) (m : Module) → IsBuilt unit bytes → IsFile bytes m → IsUnitFile unit m) where
  -- a module that came from a file that is built
  held_entry : (shelf : Shelf) (name : List ℕ) (place : ℕ) (m : Module) (size : ℕ) (file : Option NamedFile) (entry : Option Entry) → member_of shelf name ≡ Some (members.Module place)
      → module_at shelf place ≡ Some m → FileComesTo ModuleFiles file (Ok (entries.Held m size)) → IsBuiltEntry entry file → HasEntry shelf name entry
  held_entry shelf name place m size (Some file) (Some (Runs unit)) found held comes built =
      record { place = place; found = found; file = m; held = held; is_file = is_unit unit file.1 m built comes.0.file }
  held_entry shelf name place m size (Some file) (Some Refused) found held comes built = absurd (built m comes.0)
  held_entry shelf name place m size (Some file) None found held comes built = absurd built
  held_entry shelf name place m size None (Some entry) found held comes built = absurd built
  held_entry shelf name place m size None None found held comes built = absurd built

  -- a refused name
  refused_entry : (shelf : Shelf) (name : List ℕ) (file : Option NamedFile) (entry : Option Entry) → member_of shelf name ≡ Some members.Refused
      → FileComesTo ModuleFiles file (Ok entries.Refused) → IsBuiltEntry entry file → HasEntry shelf name entry
  refused_entry shelf name (Some file) (Some (Runs unit)) found comes built =
      let there = a_file unit file.1 built in
      absurd (comes there.0 (record { file = there.1; verified = is_verified unit file.1 there.0 built there.1 }))
  refused_entry shelf name (Some file) (Some Refused) found comes built = found
  refused_entry shelf name (Some file) None found comes built = absurd built
  refused_entry shelf name None (Some entry) found comes built = absurd built
  refused_entry shelf name None None found comes built = absurd built

  module _ (files : FileOf) (base bytes : List ℕ) (main : Module) (is_main : IsFile bytes main) (shelf : Shelf) (program : Program) (built : IsBuiltProgram files base bytes shelf program) where
    one_entry : (name : List ℕ) → (name ≡ main_name → ⊥) → (member : Option Member) → member_of shelf name ≡ member → CameAs (ComesTo files base) main shelf name member
        → HasEntry shelf name (entry_in program.entries name)
    one_entry name other (Some (members.Module place)) found h =
        held_entry shelf name place h.0 h.1 (first_there files (candidates base name ending)) (entry_in program.entries name) found h.2 h.3
        (built.entries name other (subst IsSome (sym found) refl))
    one_entry name other (Some members.Refused) found h =
        refused_entry shelf name (first_there files (candidates base name ending)) (entry_in program.entries name) found h
        (built.entries name other (subst IsSome (sym found) refl))
    one_entry name other None found h = subst (HasEntry shelf name) (sym (built.no_more name other found)) found

    by_came : Came (ComesTo files base) main shelf → AreUnits program shelf
    by_came came = record {
      main = subst (λ (name : List ℕ). HasUnit shelf name program.main) (sym built.main_name_is)
          (record { place = came.place; found = came.main_found; file = main; held = came.main_held; is_file = is_unit program.main bytes main built.main is_main });
      entries = λ name other.
          let apart : name ≡ main_name → ⊥ = λ e. other e built.main_name_is in
          one_entry name apart (member_of shelf name) refl (came.others name apart);
    }

    by_limit : (limit : Option Limit) (size : ℕ) → LoadsBy limit (ComesTo files base) main size (Loaded shelf) → AreUnits program shelf
    by_limit (Some limit) size h = absurd cc
    by_limit None size h = by_came (came (ComesTo files base) main shelf size h.0 h.2)

    pub are_units : LoadsFrom files base main (length bytes) (Loaded shelf) → AreUnits program shelf
    are_units h = by_limit (limit_of no_entries 0 main_name (entries.Held main (length bytes))) (length bytes) h
