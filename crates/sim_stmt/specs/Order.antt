-- What each state of a run keeps, and the laws of the simulation ask.
use Rattle.std.specs.Prelude.{◌≡◌, ℕ, codes}
use Rattle.bc_scheme.specs.mpy_base.Val.{PlainWorld}
use Rattle.bc_scheme.specs.py_effects.Growth.{IsRegistered}
use Rattle.bc_scheme.specs.py_effects.Heaps.{NamesStand}
use Rattle.bc_scheme.specs.bc_machine.Library.{Library}
use Rattle.bc_scheme.specs.bc_machine.State.{Role, State}
use Rattle.bc_scheme.specs.bc_machine.Growth.{OfModule, StateFits, StateHolds}
use Rattle.sim_stmt.specs.Rooms.{StateRoom}

-- the main module is registered, and a frame of this role runs no other module of its name
pub record MainStands (names : ℕ) (role : Role) (w : PlainWorld) : Type 0 where
  pub main : IsRegistered (codes "__main__") w
  pub other : OfModule (λ name. name ≡ codes "__main__" → ⊥) role

-- the names of all frames stand in dicts of a sound world, each frame has a slot for each local of its code, and the main
-- module is registered, and no other one of its name runs
pub record InOrder (library : Library) (s : State) : Type 0 where
  pub names : StateFits NamesStand s
  pub rooms : StateRoom library s
  pub registered : StateHolds MainStands s
