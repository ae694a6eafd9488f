-- What the calls of a program keep: exceptions and methods that the objects of its arena have.
use Rattle.std.specs.Prelude.{ℕ, List, [], ◌∷◌, map}
use Rattle.state_calls.specs.mpy_base.World.{Objects}
use Rattle.state_calls.specs.arena_heap.declared.value.Value.{Value}
use Rattle.state_calls.specs.bc_progress.Fits.{StandsIn, BelowIn}
use Rattle.state_calls.specs.bc_progress.Known.{facts_of}
use Rattle.state_calls.specs.vm_frames.Calls.{Call, Calls}
use Rattle.state_calls.specs.vm_frames.Views.{frame_of}
use Rattle.state_calls.specs.frame_moves.Shown.{view_of}
use Rattle.state_calls.specs.vm_states.Means.{Program}

module _ (p : Program) (objects : Objects Value ℕ) where
  -- the first of the calls stands at an instruction, and the others wait, as the plans have it. An exception that a handler finds
  -- or an entry keeps is one among the objects, and a method under an object is one of the object's type
  abbrev pub KeepCalls : List Call → Type 0
  KeepCalls [] = ⊥
  KeepCalls (c ∷ cs) =
      let frame = frame_of (view_of p.tables) c in
      StandsIn (facts_of objects) p.plans p.library frame × BelowIn (facts_of objects) p.plans p.library frame.role (map (frame_of (view_of p.tables)) cs)

  -- the calls of a state are such
  pub record HoldsKept (s : Calls) : Type 0 where
    pub calls : KeepCalls s.calls
