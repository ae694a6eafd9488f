-- What effects give over worlds whose objects have other numbers.
use Rattle.std.specs.Prelude.{◌≡◌, ℕ, List, map, Result, Ok, Err}
use Rattle.std.specs.Option.{option_map}
use Rattle.bc_machine.specs.mpy_base.Val.{Val, PlainWorld}
use Rattle.bc_machine.specs.py_primitives.Faults.{Fault}
use Rattle.bc_machine.specs.py_effects.Effect.{Effect, Given, Gives, Throws, Fills, Fails, Thrown, Filled}
use Rattle.bc_machine.specs.py_effects.Names.{Locals, Looked, Bound, Free}
use Rattle.bc_machine.specs.py_effects.Calling.{Keys, Function, Callee, Runs, Acts}
use Rattle.bc_machine.specs.py_effects.Modules.{Made}
use Rattle.bc_machine.specs.py_effects.Ends.{End, Open, Ended, Raised, Memory}
use Rattle.snap_laws.specs.Renamed.{Renaming, IsRenamed, value, pair}
use Rattle.snap_laws.specs.Outcomes.{fault_as, answer_as}

module _ (r : Renaming) where
  -- a registered module
  abbrev pub module_as : List ℕ × ℕ → List ℕ × ℕ
  module_as m = (m.0, r.to m.1)

  -- the second world is the first one with other numbers
  pub record IsWorld (w u : PlainWorld) : Type 0 where
    pub heap : IsRenamed r w.heap u.heap
    pub modules : u.modules ≡ map module_as w.modules
    pub ports : u.ports ≡ w.ports
    pub output : u.output ≡ w.output

  -- the locals of a call
  abbrev pub locals_as : Locals → Locals
  locals_as locals = map (option_map (value r)) locals

  -- what a method call begins with
  abbrev pub looked_as : Looked → Looked
  looked_as (Bound method object) = Bound method (value r object)
  looked_as (Free v) = Free (value r v)

  -- a function of the program
  abbrev pub function_as : Function → Function
  function_as f = record f { names = r.to f.names; defaults = value r f.defaults }

  -- a module that was made
  abbrev pub made_as : Made → Made
  made_as made = record { number = r.to made.number; names = r.to made.names }

  -- how a run ends
  abbrev pub end_as : End → End
  end_as Open = Open
  end_as Ended = Ended
  end_as (Raised x) = Raised (r.to x)
  end_as (Memory e) = Memory e

  -- slots that were bound, or the fault of the arguments
  abbrev pub bound_as : Result Locals Fault → Result Locals Fault
  bound_as (Ok slots) = Ok (locals_as slots)
  bound_as (Err fault) = Err (fault_as r fault)

  module _ {A : Type 0} (f : A → A) where
    -- the second effect is the first one with other numbers
    pub record IsEffect (e d : Effect A) : Type 0 where
      pub answer : d.answer ≡ answer_as r f e.answer
      pub world : IsWorld e.world d.world
      pub visits : d.visits ≡ e.visits

    -- what the second effect gives at its place is what the first one does
    abbrev pub IsGiven : Given A → Given A → Type 0
    IsGiven (Gives a w) (Gives b u) = (b ≡ f a) × IsWorld w u
    IsGiven (Throws x w) (Throws y u) = (y ≡ r.to x) × IsWorld w u
    IsGiven (Fills e w) (Fills d u) = (d ≡ e) × IsWorld w u
    IsGiven _ _ = ⊥

  -- the second failure is the first one
  abbrev pub IsFailure : Fails → Fails → Type 0
  IsFailure (Thrown x w) (Thrown y u) = (y ≡ r.to x) × IsWorld w u
  IsFailure (Filled e w) (Filled d u) = (d ≡ e) × IsWorld w u
  IsFailure _ _ = ⊥

  -- the second callee does what the first one does
  abbrev pub IsCallee : Callee → Callee → Type 0
  IsCallee (Runs f) (Runs g) = g ≡ function_as f
  IsCallee (Acts act) (Acts other) = (args : List Val) (keys : Keys) → IsEffect (value r) (act args keys) (other (map (value r) args) (map (pair r) keys))
  IsCallee _ _ = ⊥
