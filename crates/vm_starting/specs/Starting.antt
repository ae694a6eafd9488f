-- The start of a run.
use Rattle.std.specs.Prelude.{◌≡◌, ℕ, List, [], ◌∷◌, replicate, None, Result, Ok, Err}
use Rattle.mpy_base.specs.declared.room.NoRoom.{NoRoom}
use Rattle.mpy_base.specs.Val.{PlainWorld}
use Rattle.mpy_base.specs.World.{Heap}
use Rattle.frame_calls.specs.arena_heap.declared.value.Value.{Value}
use Rattle.vm_states.specs.bc_library.Constants.{items_at, text_at}
use Rattle.vm_states.specs.bc_library.Shelf.{Shelf}
use Rattle.frame_calls.specs.bc_machine.Library.{Name}
use Rattle.frame_calls.specs.bc_machine.State.{State, Halted}
use Rattle.bc_progress.specs.py_effects.Ends.{Memory}
use Rattle.bc_progress.specs.py_effects.Modules.{make_module}
use Rattle.vm_states.specs.bc_rows.declared.row.Row.{Row}
use Rattle.vm_states.specs.bc_rows.Rows.{IsRow}
use Rattle.vm_states.specs.vm_frames.declared.slot.Role.TheVariants as roles
use Rattle.vm_states.specs.vm_frames.Calls.{Call}
use Rattle.frame_calls.specs.prim_walks.Plain.{plain_name}
use Rattle.frame_calls.specs.prim_modules.declared.makings.Made.{Made}
use Rattle.frame_calls.specs.prim_modules.Effects.{IsMaking}
use Rattle.frame_calls.specs.prim_modules.Registry.{Registry, with_entry}
use Rattle.vm_states.specs.frame_moves.Shown.{running_of}
use Rattle.vm_states.specs.Means.{Program}
use Rattle.vm_starting.specs.declared.starting.TheConstants.{MAIN}

-- the module with this name has this number, and its code 0 these locals
pub record IsMain (p : Program) (number locals : ℕ) (name : Name) : Type 0 where
  pub name_is : p.tables.module_name number ≡ name
  pub row : Row
  pub is_row : IsRow p.shelf number 0 row
  pub locals_are : locals ≡ row.locals

-- a call of its code 0
abbrev pub main_call : (number locals : ℕ) → Made → Call
main_call number locals made = record {
  module_number = number;
  code = 0;
  at = 0;
  names = made.names;
  role = roles.Main;
  locals = replicate locals None;
  slots = [];
  entries = [];
}

-- the main module was made and registered, and the call of its code 0 is the only one
pub record Begins (shelf : Shelf) (number locals : ℕ) (old new : Heap Value ℕ) (before after : Registry) (calls : List Call) : Type 0 where
  pub made : Made
  pub making : IsMaking (text_at shelf) (items_at shelf) old new before after (Ok made) (λ w. make_module w (plain_name (text_at shelf) (items_at shelf) MAIN))
  pub registered : after ≡ with_entry before (record { name = MAIN; object = made.number })
  pub calls_are : calls ≡ main_call number locals made ∷ []

-- the calls run, or the main module didn't fit
abbrev pub started_of : Program → Result (Unit {0}) NoRoom → List Call → PlainWorld → State
started_of p (Ok done) calls w = running_of p.tables 0 calls w
started_of p (Err room) calls w = Halted (Memory room) w
