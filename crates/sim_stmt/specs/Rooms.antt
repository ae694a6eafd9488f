-- Frames have a slot for each local of their code.
use Rattle.std.specs.Prelude.{◌≡◌, ℕ, ◌≤◌, List, [], ◌∷◌, length, Some}
use Rattle.bc_scheme.specs.py_effects.Names.{Locals}
use Rattle.bc_scheme.specs.bc_machine.Library.{Name, Code, Library, code_at}
use Rattle.bc_scheme.specs.bc_machine.State.{Frame, State, Running, Halted, Stuck}

module _ (library : Library) where
  -- these locals are enough for the code of this module and number, where there is one
  abbrev pub HasRoom : Name → ℕ → Locals → Type 0
  HasRoom name number locals = (code : Code) → code_at library name number ≡ Some code → code.locals ≤ length locals

  -- the locals of each frame are enough for its code
  abbrev pub AllRoom : List Frame → Type 0
  AllRoom [] = Unit {0}
  AllRoom (f ∷ frames) = HasRoom f.module_name f.code f.locals × AllRoom frames

  -- the running frame and those that wait
  abbrev pub StateRoom : State → Type 0
  StateRoom (Running paid f frames w) = AllRoom (f ∷ frames)
  StateRoom (Halted end w) = Unit {0}
  StateRoom (Stuck w) = Unit {0}
