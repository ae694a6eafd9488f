-- The stack of frames as its fields have it.
use Rattle.std.specs.Prelude.{◌≡◌, ℕ, zero, suc, ◌≤◌, List, [], ◌∷◌, length, All, slice_index_or}
use Rattle.mpy_base.specs.declared.limits.TheConstants.{MAX_CALLS}
use Rattle.vm_frames.specs.Calls.{Call, Calls}
use Rattle.vm_frames.specs.Held.{Held, HasRoom}
use Rattle.vm_frames.specs.declared.slot.Role.TheVariants as roles
use Rattle.vm_frames.specs.declared.frames.Frames.TheInside.{Inside}

-- a call that none is
abbrev pub no_call : Call
no_call = record { module_number = 0; code = 0; at = 0; names = record { cell = 0 }; role = roles.Main; locals = []; slots = []; entries = [] }

-- a frame without a call and without room
abbrev pub no_frame : Held
no_frame = record { call = no_call; slot_room = 0; entry_room = 0 }

-- the calls of the frame that runs and of those at places 1 and up, as many as the last argument says, the innermost first
abbrev pub calls_in : Held → List Held → ℕ → List Call
calls_in top frames zero = []
calls_in top frames (suc depth) = top.call ∷ calls_in (slice_index_or frames depth no_frame) frames depth

-- what the fields hold
abbrev pub calls_of : Inside → Calls
calls_of f = record { calls = calls_in f.top f.frames.items f.depth; slot_room = f.slot_room; entry_room = f.entry_room }

-- what the fields keep: a frame for each call that may nest, and one more, with the room of each
pub record IsFrames (f : Inside) : Type 0 where
  pub all : length f.frames.items ≡ MAX_CALLS
  pub deep : f.depth ≤ MAX_CALLS
  pub roomy : All (HasRoom f.slot_room f.entry_room) f.frames.items
  pub top_roomy : HasRoom f.slot_room f.entry_room f.top
