-- Returns, which leave calls.
use Rattle.std.specs.Prelude.{◌≡◌, ℕ, suc, List, [], ◌∷◌, map, Option, Some, Result, Ok, Err}
use Rattle.mpy_base.specs.declared.room.NoRoom.{NoRoom}
use Rattle.mpy_base.specs.Val.{PlainWorld}
use Rattle.frame_moves.specs.arena_heap.declared.value.Value.{Value}
use Rattle.frame_moves.specs.arena_heap.declared.value.StrNo.{StrNo}
use Rattle.frame_moves.specs.arena_heap.declared.value.StrNo.TheVariants as strs
use Rattle.frame_moves.specs.arena_heap.declared.value.ConstNo.{ConstNo}
use Rattle.frame_moves.specs.py_effects.Modules.{last_part}
use Rattle.frame_moves.specs.py_effects.Ends.{Memory}
use Rattle.frame_moves.specs.prim_walks.Plain.{plain_name}
use Rattle.frame_moves.specs.bc_machine.State as states
use Rattle.frame_moves.specs.bc_machine.State.{State, Running, Halted, Stuck, go, leave}
use Rattle.frame_moves.specs.vm_frames.Calls.{Call}
use Rattle.frame_moves.specs.vm_frames.Moves.{returned}
use Rattle.frame_moves.specs.vm_frames.Views.{frame_of}
use Rattle.frame_moves.specs.Shown.{Tables, value_of, view_of, running_of}
use Rattle.frame_exits.specs.declared.ends.After.{After}
use Rattle.frame_exits.specs.declared.ends.After.TheVariants as afters
use Rattle.frame_exits.specs.declared.names.ModuleName.{ModuleName}
use Rattle.frame_exits.specs.Ends.{end_of}
use Rattle.frame_exits.specs.Thrown.{entered_or}

-- the text of the last part of the name has its number
abbrev pub HasLast : (StrNo → Option (List ℕ)) → (ConstNo → Option (List Value)) → ModuleName → Type 0
HasLast texts tuples m = texts (strs.Pool m.last) ≡ Some (last_part (plain_name texts tuples m.name))

-- the calls after a return: the running one enters a finally, or it is left
abbrev pub left : Value → List Call → List Call
left v [] = []
left v (c ∷ cs) = let moved = returned v c in entered_or moved.handler (moved.call ∷ cs) cs

module _ (tables : Tables) where
  -- the machine returns the value from the first of the calls
  abbrev pub leaving_of : Value → List Call → PlainWorld → State
  leaving_of v [] w = Stuck w
  leaving_of v (c ∷ cs) w = let frame = frame_of (view_of tables) c in leave (value_of tables v) frame.entries frame (map (frame_of (view_of tables)) cs) w

  -- the first of the calls goes on behind its instruction, with the value
  abbrev pub receiving_of : Value → List Call → PlainWorld → State
  receiving_of v [] w = Stuck w
  receiving_of v (c ∷ cs) w =
      let frame = frame_of (view_of tables) c in
      go (suc frame.position) (states.Value (value_of tables v) ∷ frame.slots) frame.entries frame (map (frame_of (view_of tables)) cs) w

  -- where a run is after an instruction that may leave calls
  abbrev pub after_of : After → List Call → PlainWorld → State
  after_of afters.Runs calls w = running_of tables 0 calls w
  after_of (afters.Gives v) calls w = receiving_of v calls w
  after_of (afters.Ends end) calls w = Halted (end_of end) w

-- the importing frame runs, or its run ends for want of room
abbrev pub stored_state : Result (Unit {0}) NoRoom → states.Frame → List states.Frame → PlainWorld → State
stored_state (Ok done) frame frames w = Running 0 frame frames w
stored_state (Err room) frame frames w = Halted (Memory room) w
