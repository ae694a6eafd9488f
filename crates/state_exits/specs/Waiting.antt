-- Calls of which the first waits for the value of a call that it made.
use Rattle.std.specs.Prelude.{◌≡◌, Option, All}
use Rattle.vm_states.specs.mpy_base.Val.{PlainWorld}
use Rattle.prim_faults.specs.arena_heap.declared.value.Value.{Value}
use Rattle.vm_states.specs.bc_progress.Fits.{Fits}
use Rattle.vm_states.specs.vm_frames.Calls.{Calls}
use Rattle.vm_states.specs.vm_frames.Placed.{IsPlaced}
use Rattle.vm_states.specs.frame_moves.Shown.{view_of}
use Rattle.vm_states.specs.frame_exits.declared.ends.End.{End}
use Rattle.vm_states.specs.frame_exits.declared.ends.After.{After}
use Rattle.vm_states.specs.frame_exits.declared.ends.After.TheVariants as afters
use Rattle.vm_states.specs.frame_exits.Ends.{state_of}
use Rattle.vm_states.specs.frame_exits.Left.{receiving_of, after_of}
use Rattle.vm_states.specs.Means.{Program}
use Rattle.vm_states.specs.Running.{IsOfModule, HasRooms}

module _ (p : Program) where
  -- the first of the calls goes on behind its instruction with the value, as the plans have it
  pub record IsWaiting (v : Value) (s : Calls) : Type 0 where
    pub world : PlainWorld
    pub fits : Fits p.plans p.library (receiving_of p.tables v s.calls world)
    pub placed : All (IsPlaced (view_of p.tables)) s.calls
    pub of_modules : All (IsOfModule p) s.calls
    pub rooms : HasRooms p s

  -- it waits for the value that it is given, if it is given one
  abbrev pub IsSettling : After → Calls → Type 0
  IsSettling afters.Runs s = Unit {0}
  IsSettling (afters.Gives v) s = IsWaiting v s
  IsSettling (afters.Ends end) s = Unit {0}

  -- the run that is so far on is where the new calls are, or at this end
  pub record Settles (after : After) (old new : Calls) (end : Option End) : Type 0 where
    pub steps : (w : PlainWorld) → after_of p.tables after old.calls w ≡ state_of p.tables end new.calls w
    pub placed : All (IsPlaced (view_of p.tables)) old.calls → All (IsPlaced (view_of p.tables)) new.calls
