-- Calls that run a program.
use Rattle.std.specs.Prelude.{◌≡◌, ℕ, ◌<◌, ◌≤◌, List, [], ◌∷◌, length, map, Some, All}
use Rattle.bc_progress.specs.bc_machine.Library.{Name, Code, code_at}
use Rattle.bc_progress.specs.Fits.{Stands, Below}
use Rattle.frame_exits.specs.vm_frames.Calls.{Call, Calls}
use Rattle.frame_exits.specs.vm_frames.Placed.{IsPlaced}
use Rattle.frame_exits.specs.vm_frames.Views.{frame_of}
use Rattle.vm_fetching.specs.frame_moves.Shown.{view_of}
use Rattle.vm_states.specs.Means.{Program}

module _ (p : Program) where
  -- the first of the calls stands at an instruction, and the others wait, as the plans have it
  abbrev pub FitCalls : List Call → Type 0
  FitCalls [] = ⊥
  FitCalls (c ∷ cs) =
      let frame = frame_of (view_of p.tables) c in
      Stands p.plans p.library frame × Below p.plans p.library frame.role (map (frame_of (view_of p.tables)) cs)

  -- more slots, and no fewer entries, than the plan of any code has
  pub record HasRooms (s : Calls) : Type 0 where
    pub slots : (name : Name) (number : ℕ) (code : Code) → code_at p.library name number ≡ Some code → (p.plans name number).n_state < s.slot_room
    pub entries : (name : Name) (number : ℕ) (code : Code) → code_at p.library name number ≡ Some code → (p.plans name number).n_exc ≤ s.entry_room

  -- one of the library's modules
  abbrev pub IsOfModule : Call → Type 0
  IsOfModule c = c.module_number < length p.shelf.modules

  -- the calls run the program: they fit their codes, stand at instructions, and have their rooms
  pub record IsRunning (s : Calls) : Type 0 where
    pub fits : FitCalls s.calls
    pub placed : All (IsPlaced (view_of p.tables)) s.calls
    pub of_modules : All IsOfModule s.calls
    pub rooms : HasRooms s
