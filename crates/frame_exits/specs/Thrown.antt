-- Exceptions that are thrown through calls.
use Rattle.std.specs.Prelude.{◌≡◌, ℕ, List, [], ◌∷◌, map, Option, Some, None, Result, Ok, Err, IfOk}
use Rattle.mpy_base.specs.declared.room.NoRoom.{NoRoom}
use Rattle.mpy_base.specs.World.{Objects, AnException, IsA}
use Rattle.mpy_base.specs.Val.{PlainWorld}
use Rattle.frame_moves.specs.arena_heap.declared.value.Value.{Value}
use Rattle.frame_moves.specs.arena_heap.declared.value.ExcNo.{ExcNo}
use Rattle.frame_moves.specs.bc_machine.State.{State, throw_out}
use Rattle.frame_moves.specs.vm_frames.Calls.{Call, Calls}
use Rattle.frame_moves.specs.vm_frames.Moves.{raised}
use Rattle.frame_moves.specs.vm_frames.Views.{frame_of}
use Rattle.frame_moves.specs.Shown.{Tables, view_of}
use Rattle.frame_exits.specs.declared.ends.End.{End}
use Rattle.frame_exits.specs.declared.ends.End.TheVariants as ends

-- the machine throws the exception through the calls
abbrev pub throwing_of : Tables → ExcNo → List Call → PlainWorld → State
throwing_of tables x calls w = throw_out x.cell (map (frame_of (view_of tables)) calls) w

-- the first calls where a handler was entered, and else the other ones
abbrev pub entered_or : Option ℕ → (inside outside : List Call) → List Call
entered_or (Some handler) inside outside = inside
entered_or None inside outside = outside

-- the calls after a throw: those without a handler for the exception are left, and the first other one enters it
abbrev pub thrown : ExcNo → List Call → List Call
thrown x [] = []
thrown x (c ∷ cs) = let moved = raised x c in entered_or moved.handler (moved.call ∷ cs) (thrown x cs)

-- the run ends where no call is left
abbrev pub thrown_out : ExcNo → List Call → Option End
thrown_out x [] = Some (ends.Raised x)
thrown_out x (c ∷ cs) = None

-- the calls after a failure, and the end of the run, if it ends
abbrev pub failed_calls : Result ExcNo NoRoom → List Call → List Call
failed_calls (Ok x) calls = thrown x calls
failed_calls (Err room) calls = calls

-- how the run ends behind a failure, if it does
abbrev pub failed_end : Result ExcNo NoRoom → List Call → Option End
failed_end (Ok x) calls = thrown_out x (thrown x calls)
failed_end (Err room) calls = Some (ends.Memory room)

-- an exception of these objects was thrown through the calls, or there was no room for one
pub record HasThrown (objects : Objects Value ℕ) (old new : Calls) (result : Option End) : Type 0 where
  pub failure : Result ExcNo NoRoom
  pub exception : IfOk failure (λ x. IsA objects AnException x.cell)
  pub end : result ≡ failed_end failure old.calls
  pub calls : new ≡ record old { calls = failed_calls failure old.calls }
