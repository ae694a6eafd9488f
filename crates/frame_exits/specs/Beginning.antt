-- The call of a module's code that an import begins.
use Rattle.std.specs.Prelude.{◌≡◌, ℕ, ◌<◌, List, [], ◌∷◌, length, replicate, Some, None, Result, Ok, Err}
use Rattle.frame_moves.specs.bc_labels.Positions.{CodeList, Listed}
use Rattle.frame_moves.specs.bc_machine.Library.{Code, Library, code_at}
use Rattle.frame_moves.specs.prim_faults.declared.stop.Stop.{Stop}
use Rattle.frame_moves.specs.vm_frames.declared.slot.Role.TheVariants as roles
use Rattle.frame_moves.specs.vm_frames.Calls.{Call, Calls}
use Rattle.prim_modules.specs.declared.makings.Made.{Made}
use Rattle.prim_modules.specs.Registry.{Registry, with_entry}
use Rattle.frame_moves.specs.Shown.{Tables}

-- in the library the module of this number has a code 0 with these locals. Its instructions have bytes, one at least
pub record IsOutermost (tables : Tables) (library : Library) (number locals : ℕ) : Type 0 where
  pub code : Code
  pub there : code_at library (tables.module_name number) 0 ≡ Some code
  pub locals_are : locals ≡ code.locals
  pub bytes : List ℕ
  pub list : CodeList
  pub listed : Listed bytes list
  pub starts_are : tables.starts number 0 ≡ list.offsets
  pub some : 0 < length bytes

-- a call of code 0 of the module, which imports the module that was made
abbrev pub begun : (number locals : ℕ) → Made → Call
begun number locals made = record {
  module_number = number;
  code = 0;
  at = 0;
  names = made.names;
  role = roles.Import made.number;
  locals = replicate locals None;
  slots = [];
  entries = [];
}

-- the call begins over the importing one, which waits at its instruction, and the module is registered; or nothing changes
pub record HasBegun (number locals name : ℕ) (old new : Calls) (before behind : Registry) (made : Made) : Type 0 where
  pub calls : new ≡ record old { calls = begun number locals made ∷ old.calls }
  pub registered : behind ≡ with_entry before (record { name = name; object = made.number })

-- neither the calls nor the registered modules change
pub record HasStayed (old new : Calls) (before behind : Registry) : Type 0 where
  pub calls : new ≡ old
  pub registered : behind ≡ before

-- the module begins, or nothing changes
abbrev pub HasImported : (number locals name : ℕ) → (old new : Calls) → (before behind : Registry) → Result (Unit {0}) Stop → Type 0
HasImported number locals name old new before behind (Ok done) = (made : Made) × HasBegun number locals name old new before behind made
HasImported number locals name old new before behind (Err stop) = HasStayed old new before behind
